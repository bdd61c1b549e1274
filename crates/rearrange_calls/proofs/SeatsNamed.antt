-- Seats by their states, where these are given of some seats alone.
use Rattle.std.specs.Prelude.{filter, find, is_some, map, All, ◌==◌}
use Rattle.std.proofs.Common.{inl, inr, ◌≡◌, ℕ, suc, ◌+◌, ◌<◌, ◌≤◌, Bool, true, false, cond, List, [], ◌∷◌, length, Some, refl, sym, ap, subst, ◌∙◌, arith}
use Rattle.std.proofs.lemmas.Bool.{and_parts, eqb-false, eqb-true, false≢true}
use Rattle.std.proofs.lemmas.List.Elements.{All-head, All-tail}
use Rattle.rearrange.proofs.TestedConservation.{Named}
use Rattle.rules.specs.proposals.Leasts.{least}
use Rattle.rules.specs.proposals.declared.plans.SeatState.{SeatState}
use Rattle.rearrange.specs.Seats as given
use Rattle.rearrange.specs.Seats.{is_left_out, seats_such}
use Rattle.rules.specs.States.{all_states, state_of, states_from}
use Rattle.rules.specs.world_state.Worlds.{Seat, State, staged_at}
use Rattle.rearrange_calls.proofs.Least.{least_same}
use Rattle.rearrange_calls.specs.Among.{HaveAll, IsAmong}

seat_is : (w : State) (n : ℕ) → (state_of w n).seat ≡ n
unfolding state_of
seat_is w n = refl

staging_is : (w : State) (n : ℕ) → (state_of w n).staged ≡ staged_at w.staging n
unfolding state_of
staging_is w n = refl

-- ---- the state of one

pub found : (w : State) (ns : List ℕ) (n : ℕ) → IsAmong n ns → given.state_of (map (state_of w) ns) n ≡ Some (state_of w n)
found w [] n is = absurd is
found w (m ∷ ms) n is =
    ap (λ k. cond (k == n) (Some (state_of w m)) (find (λ (s : SeatState). s.seat == n) (map (state_of w) ms))) (seat_is w m)
    ∙ by (m == n) refl is (found w ms n)
  where
    by : (b : Bool) → (m == n) ≡ b → IsAmong n (m ∷ ms) → (IsAmong n ms → find (λ (s : SeatState). s.seat == n) (map (state_of w) ms) ≡ Some (state_of w n)) → cond b (Some (state_of w m)) (find (λ (s : SeatState). s.seat == n) (map (state_of w) ms)) ≡ Some (state_of w n)
    by true same at later = ap (λ k. Some (state_of w k)) (eqb-true m n same)
    by false other (inl same) later = absurd (eqb-false m n other same)
    by false other (inr more) later = later more

-- ---- all seats

abbrev numbers_from : ℕ → List Seat → List ℕ
numbers_from n [] = []
numbers_from n (s ∷ ss) = n ∷ numbers_from (suc n) ss

all_numbered : (w : State) (n : ℕ) (ss : List Seat) → states_from w n ss ≡ map (state_of w) (numbers_from n ss)
all_numbered w n [] = refl
all_numbered w n (s ∷ ss) = ap (λ l. state_of w n ∷ l) (all_numbered w (suc n) ss)

among_all : (k n : ℕ) (ss : List Seat) → k ≤ n → n < k + length ss → IsAmong n (numbers_from k ss)
among_all k n [] le lt = absurd (omega (arith, le, lt))
among_all k n (s ∷ ss) le lt = by (k == n) refl (among_all (suc k) n ss)
  where
    by : (b : Bool) → (k == n) ≡ b → (suc k ≤ n → n < suc k + length ss → IsAmong n (numbers_from (suc k) ss)) → IsAmong n (k ∷ numbers_from (suc k) ss)
    by true same later = inl (eqb-true k n same)
    by false other later = inr (later (omega (arith, le, eqb-false k n other)) (omega (arith, lt)))

pub there : (w : State) (n : ℕ) → n < length w.seats → given.state_of (all_states w) n ≡ Some (state_of w n)
there w n made =
    ap (λ l. given.state_of l n) (all_numbered w 0 w.seats)
    ∙ found w (numbers_from 0 w.seats) n (among_all 0 n w.seats (omega arith) (omega (arith, made)))

-- ---- seats that pass a test

as_named : (n : ℕ) (ns : List ℕ) → IsAmong n ns → Named n ns
as_named n [] is = is
as_named n (m ∷ ms) (inl same) = inl same
as_named n (m ∷ ms) (inr more) = inr (as_named n ms more)

pub record Passes (w : State) (test : SeatState → Bool) (n : ℕ) (ns : List ℕ) : Type 0 where
  pub among : IsAmong n ns
  pub passes : test (state_of w n) ≡ true

module _ (w : State) (test : SeatState → Bool) (n : ℕ) where
  passed_more : (m : ℕ) (ms : List ℕ) → Passes w test n ms → Passes w test n (m ∷ ms)
  passed_more m ms is = record { among = inr is.among; passes = is.passes }

  such_pass : (ns : List ℕ) → Named n (seats_such test (map (state_of w) ns)) → Passes w test n ns
  such_pass [] is = absurd is
  such_pass (m ∷ ms) is = by (test (state_of w m)) refl is (such_pass ms)
    where
      by : (b : Bool) → test (state_of w m) ≡ b → Named n (map (λ (s : SeatState). s.seat) (cond b (state_of w m ∷ filter test (map (state_of w) ms)) (filter test (map (state_of w) ms)))) → (Named n (seats_such test (map (state_of w) ms)) → Passes w test n ms) → Passes w test n (m ∷ ms)
      by true at (inl same) later =
          let is_n : m ≡ n = sym (seat_is w m) ∙ same in
          record { among = inl is_n; passes = subst (λ k. test (state_of w k) ≡ true) is_n at }
      by true at (inr more) later = passed_more m ms (later more)
      by false at more later = passed_more m ms (later more)

  pass_such : (ns : List ℕ) → IsAmong n ns → test (state_of w n) ≡ true → Named n (seats_such test (map (state_of w) ns))
  pass_such [] is at = is
  pass_such (m ∷ ms) is at = by (test (state_of w m)) refl is (pass_such ms)
    where
      by : (b : Bool) → test (state_of w m) ≡ b → IsAmong n (m ∷ ms) → (IsAmong n ms → test (state_of w n) ≡ true → Named n (seats_such test (map (state_of w) ms))) → Named n (map (λ (s : SeatState). s.seat) (cond b (state_of w m ∷ filter test (map (state_of w) ms)) (filter test (map (state_of w) ms))))
      by true here (inl same) later = inl (seat_is w m ∙ same)
      by true here (inr more) later = inr (later more at)
      by false here (inr more) later = later more at
      by false here (inl same) later = absurd (false≢true (sym here ∙ subst (λ k. test (state_of w k) ≡ true) (sym same) at))

-- ---- those that are left out

pub made_among : (w : State) (n : ℕ) (ns : List ℕ) → All (λ m. m < length w.seats) ns → IsAmong n ns → n < length w.seats
made_among w n [] all is = absurd is
made_among w n (m ∷ ms) all (inl same) = subst (λ k. k < length w.seats) same (All-head (λ k. k < length w.seats) m ms all)
made_among w n (m ∷ ms) all (inr more) = made_among w n ms (All-tail (λ k. k < length w.seats) m ms all) more

staged_too : (i : ℕ) (seats : List ℕ) (s : SeatState) → is_left_out i seats s ≡ true → is_some s.staged ≡ true
staged_too i seats s is = (and_parts (is_some s.staged) _ (and_parts s.is_open _ (and_parts (s.instance == i) _ is).1).1).0

pub left_out_same : (w : State) (i : ℕ) (seats ns : List ℕ) → HaveAll w seats ns → least (seats_such (is_left_out i seats) (all_states w)) ≡ least (seats_such (is_left_out i seats) (map (state_of w) ns))
left_out_same w i seats ns have =
    ap (λ l. least (seats_such (is_left_out i seats) l)) (all_numbered w 0 w.seats)
    ∙ least_same (seats_such test (map (state_of w) all)) (seats_such test (map (state_of w) ns)) to back
  where
    test : SeatState → Bool
    test = is_left_out i seats

    all : List ℕ
    all = numbers_from 0 w.seats

    to : (n : ℕ) → Named n (seats_such test (map (state_of w) all)) → Named n (seats_such test (map (state_of w) ns))
    to n is =
        let at = such_pass w test n all is in
        pass_such w test n ns (have.staged n (subst (λ o. is_some o ≡ true) (staging_is w n) (staged_too i seats (state_of w n) at.passes))) at.passes

    back : (n : ℕ) → Named n (seats_such test (map (state_of w) ns)) → Named n (seats_such test (map (state_of w) all))
    back n is =
        let at = such_pass w test n ns is in
        pass_such w test n all (among_all 0 n w.seats (omega arith) (omega (arith, made_among w n ns have.made at.among))) at.passes

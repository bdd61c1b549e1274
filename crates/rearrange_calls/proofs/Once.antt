-- Seats that are listed once each: they are those that were listed, and their states tell the same.
use Rattle.std.specs.Prelude.{◌==◌, map, All}
use Rattle.std.specs.List.{AllPairs, list_any}
use Rattle.std.proofs.Common.{inl, inr, ◌≡◌, ℕ, ◌<◌, ◌||◌, Bool, true, false, cond, List, [], ◌∷◌, get_or, length, take, Some, None, refl, sym, ap, subst, ◌∙◌, arith}
use Rattle.std.proofs.Math.Path.{fun_ext}
use Rattle.std.proofs.lemmas.Bool.{eq-eqb, eqb-true, false≢true}
use Rattle.std.proofs.lemmas.List.{get_or-take, get_or_default, length-take-le}
use Rattle.std.proofs.lemmas.List.Elements.{All-head, All-map, All-tail}
use Rattle.std.proofs.lemmas.List.Folds.{list_any_at}
use Rattle.rearrange.specs.Seats as given
use Rattle.rules.specs.Rearranging.{states_for}
use Rattle.rules.specs.States.{state_of, unstaged}
use Rattle.rules.specs.proposals.declared.plans.SeatState.{SeatState}
use Rattle.rules.specs.world_state.Worlds.{State}
use Rattle.rearrange_calls.specs.Among.{HaveAll, IsAmong}
use Rattle.rearrange_calls.specs.TransferStates.{AreStatesFor}

abbrev pub is_in : ℕ → List ℕ → Bool
is_in n ns = list_any (λ m. m == n) ns

abbrev pub AreSame : List ℕ → List ℕ → Type 0
AreSame ms ns = (n : ℕ) → is_in n ms ≡ is_in n ns

-- ---- seats that are among others

in_from_among : (n : ℕ) (ns : List ℕ) → IsAmong n ns → is_in n ns ≡ true
in_from_among n [] is = absurd is
in_from_among n (m ∷ ms) (inl same) = ap (λ b. b || is_in n ms) (eq-eqb m n same)
in_from_among n (m ∷ ms) (inr more) = ap (λ b. (m == n) || b) (in_from_among n ms more) ∙ or_true (m == n)
  where
    or_true : (b : Bool) → (b || true) ≡ true
    or_true true = refl
    or_true false = refl

among_from_in : (n : ℕ) (ns : List ℕ) → is_in n ns ≡ true → IsAmong n ns
among_from_in n [] is = absurd (false≢true is)
among_from_in n (m ∷ ms) is = by (m == n) refl is (among_from_in n ms)
  where
    by : (b : Bool) → (m == n) ≡ b → (b || is_in n ms) ≡ true → (is_in n ms ≡ true → IsAmong n ms) → IsAmong n (m ∷ ms)
    by true same is later = inl (eqb-true m n same)
    by false other is later = inr (later is)

holds_in : (P : ℕ → Type 0) (n : ℕ) (ns : List ℕ) → All P ns → is_in n ns ≡ true → P n
holds_in P n [] all is = absurd (false≢true is)
holds_in P n (m ∷ ms) all is = by (m == n) refl is (holds_in P n ms (All-tail P m ms all))
  where
    by : (b : Bool) → (m == n) ≡ b → (b || is_in n ms) ≡ true → (is_in n ms ≡ true → P n) → P n
    by true same is later = subst P (eqb-true m n same) (All-head P m ms all)
    by false other is later = later is

pub all_once : (P : ℕ → Type 0) (once ns : List ℕ) → AreSame once ns → All P ns → All P once
all_once P once ns same all = λ k d lt. let n : ℕ = get_or once k d in holds_in P n ns all (sym (same n) ∙ list_any_at (λ m. m == n) once k d lt (eq-eqb n n refl))

pub have_once : (w : State) (seats all once : List ℕ) → AreSame once all → HaveAll w seats all → HaveAll w seats once
have_once w seats all once same have =
    let to : (n : ℕ) → IsAmong n all → IsAmong n once = λ n is. among_from_in n once (same n ∙ in_from_among n all is) in
    record {
      made = all_once (λ n. n < length w.seats) once all same have.made;
      listed = λ n is. to n (have.listed n is);
      staged = λ n some. to n (have.staged n some);
    }

-- ---- their states

state_by : (w : State) (ns : List ℕ) (n : ℕ) → given.state_of (states_for w ns) n ≡ cond (is_in n ns) (Some (unstaged (state_of w n))) None
unfolding state_of
state_by w [] n = refl
state_by w (m ∷ ms) n = by (m == n) refl (state_by w ms n)
  where
    by : (b : Bool) → (m == n) ≡ b → given.state_of (states_for w ms) n ≡ cond (is_in n ms) (Some (unstaged (state_of w n))) None → cond b (Some (unstaged (state_of w m))) (given.state_of (states_for w ms) n) ≡ cond (b || is_in n ms) (Some (unstaged (state_of w n))) None
    by true same later = ap (λ k. Some (unstaged (state_of w k))) (eqb-true m n same)
    by false other later = later

pub states_once : (w : State) (once ns : List ℕ) → AreSame once ns → AreStatesFor w ns (states_for w once)
states_once w once ns same =
    fun_ext (λ n. state_by w once n ∙ ap (λ b. cond b (Some (unstaged (state_of w n))) None) (same n) ∙ sym (state_by w ns n))

-- ---- each is above those before it

below_next : (ns : List ℕ) (i n : ℕ) → AllPairs (λ k m. k < m) ns → i < length ns → n ≡ get_or ns i 0 → All (λ m. m < n) (take i ns)
below_next ns i n rise lt is = λ k d within.
    let before : k < i = omega (arith, within, length-take-le i ns (omega (arith, lt))) in
    omega (arith, get_or-take i ns k d before, rise k i d before lt, is, get_or_default ns i 0 d lt)

module _ (w : State) (ns : List ℕ) (i : ℕ) (rise : AllPairs (λ k m. k < m) ns) (lt : i < length ns) (s : SeatState) where
  pub above_states : s ≡ state_of w (get_or ns i 0) → All (λ (t : SeatState). t.seat < s.seat) (map (state_of w) (take i ns))
  unfolding state_of
  above_states is = All-map (λ (t : SeatState). t.seat < s.seat) (state_of w) (take i ns) (below_next ns i s.seat rise lt (ap (λ (t : SeatState). t.seat) is))

  pub above_unstaged : s ≡ unstaged (state_of w (get_or ns i 0)) → All (λ (t : SeatState). t.seat < s.seat) (states_for w (take i ns))
  unfolding state_of
  above_unstaged is = All-map (λ (t : SeatState). t.seat < s.seat) (λ m. unstaged (state_of w m)) (take i ns) (below_next ns i s.seat rise lt (ap (λ (t : SeatState). t.seat) is))

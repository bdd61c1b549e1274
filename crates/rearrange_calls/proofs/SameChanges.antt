-- A reallocation comes to the same where only the states of the listed seats, and of those of which something
-- is staged, are given.
use Rattle.std.specs.Prelude.{◌==◌, filter, map, nat_le, not, option_and_then, unwrap_or}
use Rattle.std.specs.Option.{option_map_or}
use Rattle.std.proofs.Common.{inl, inr, ◌≡◌, ℕ, ◌<◌, Bool, true, false, cond, List, [], ◌∷◌, length, Option, Result, Ok, refl, sym, ap, ◌∙◌}
use Rattle.rearrange.specs.TestedPlans.{can_take_over, first_unkept, is_safe_after, is_small, keeps, least_unsafe, staged_changes}
use Rattle.rearrange.specs.Slots.{is_safe}
use Rattle.rules.specs.proposals.Leasts.{least}
use Rattle.rules.specs.proposals.Shares.{most_shares}
use Rattle.rules.specs.proposals.declared.allocations.Share.{Share}
use Rattle.rules.specs.proposals.declared.plans.SeatState.{SeatState}
use Rattle.rules.specs.proposals.declared.plans.Touched.{Touched}
use Rattle.rearrange.specs.Seats as given
use Rattle.rearrange.specs.Seats.{has_exited, is_foreign, is_left_out, is_repeated, least_such, seats_such}
use Rattle.rearrange.specs.Settled.{settled}
use Rattle.rearrange.specs.Staged.{staged_plan}
use Rattle.refusals.specs.Codes.{limit, not_offer_safe, one_seat, repeated_seat, seat_exited, staged_left_out, wrong_instance}
use Rattle.refusals.specs.Outcomes.{◌>>◌, need, none_such}
use Rattle.refusals.specs.declared.codes.Refusal.{Refusal}
use Rattle.refusals.specs.declared.codes.Refusal.TheVariants.{NotConserved}
use Rattle.std.specs.List.{list_all}
use Rattle.rules.specs.States.{all_states, state_of}
use Rattle.rules.specs.world_state.Worlds.{State}
use Rattle.rearrange_calls.proofs.SeatsNamed.{found, left_out_same, there}
use Rattle.rearrange_calls.specs.Among.{HaveAll, IsAmong}

module _ (xs ys : List SeatState) where
  abbrev pub SameAt : List ℕ → Type 0
  SameAt ns = (n : ℕ) → IsAmong n ns → given.state_of xs n ≡ given.state_of ys n

  -- ---- the tests over seats

  abbrev SameTest : (ℕ → Bool) → (ℕ → Bool) → List ℕ → Type 0
  SameTest p q ns = (n : ℕ) → IsAmong n ns → p n ≡ q n

  filter_same : (p q : ℕ → Bool) (ns : List ℕ) → SameTest p q ns → filter p ns ≡ filter q ns
  filter_same p q [] same = refl
  filter_same p q (n ∷ ns) same =
      ap (λ b. cond b (n ∷ filter p ns) (filter p ns)) (same n (inl refl))
      ∙ ap (λ l. cond (q n) (n ∷ l) l) (filter_same p q ns (λ m is. same m (inr is)))

  foreign_same : (i : ℕ) (ns : List ℕ) → SameAt ns → least_such (is_foreign i xs) ns ≡ least_such (is_foreign i ys) ns
  foreign_same i ns same = ap least (filter_same (is_foreign i xs) (is_foreign i ys) ns (λ n is. ap (λ o. option_map_or (λ (s : SeatState). not (s.instance == i)) o false) (same n is)))

  exited_same : (ns : List ℕ) → SameAt ns → least_such (has_exited xs) ns ≡ least_such (has_exited ys) ns
  exited_same ns same = ap least (filter_same (has_exited xs) (has_exited ys) ns (λ n is. ap (λ o. option_map_or (λ (s : SeatState). not s.is_open) o false) (same n is)))

  abbrev Test : Type 0
  Test = Result (Unit {0}) Refusal

  abbrev tests : List ℕ → Option ℕ → Option ℕ → Option ℕ → Test
  tests seats foreign exited left =
      none_such foreign wrong_instance
      >> (need (nat_le 2 (length seats)) one_seat
      >> (none_such (least_such (is_repeated seats) seats) repeated_seat
      >> (none_such exited seat_exited >> none_such left staged_left_out)))

  over_is : (i : ℕ) (states : List SeatState) (seats : List ℕ) → can_take_over i states seats ≡ tests seats (least_such (is_foreign i states) seats) (least_such (has_exited states) seats) (least (seats_such (is_left_out i seats) states))
  unfolding can_take_over
  over_is i states seats = refl

  over_same : (i : ℕ) (seats : List ℕ) → SameAt seats → least (seats_such (is_left_out i seats) xs) ≡ least (seats_such (is_left_out i seats) ys) → can_take_over i xs seats ≡ can_take_over i ys seats
  over_same i seats same left =
      over_is i xs seats
      ∙ ap (λ o. tests seats o (least_such (has_exited xs) seats) (least (seats_such (is_left_out i seats) xs))) (foreign_same i seats same)
      ∙ ap (λ o. tests seats (least_such (is_foreign i ys) seats) o (least (seats_such (is_left_out i seats) xs))) (exited_same seats same)
      ∙ ap (λ o. tests seats (least_such (is_foreign i ys) seats) (least_such (has_exited ys) seats) o) left
      ∙ sym (over_is i ys seats)

  -- ---- the plan

  abbrev pub slots_in : Option SeatState → List Share
  slots_in o = option_map_or (λ s. s.allocation) o []

  abbrev pub shares_in : Option SeatState → List Share
  shares_in o = unwrap_or (option_and_then (λ s. s.staged) o) (slots_in o)

  abbrev pub touched_in : ℕ → Option SeatState → Touched
  touched_in n o = record { seat = n; before = slots_in o; after = settled (slots_in o) (shares_in o) }

  plan_same : (ns : List ℕ) → SameAt ns → staged_plan xs ns ≡ staged_plan ys ns
  plan_same [] same = refl
  plan_same (n ∷ ns) same =
      ap (λ o. touched_in n o ∷ staged_plan xs ns) (same n (inl refl))
      ∙ ap (λ l. touched_in n (given.state_of ys n) ∷ l) (plan_same ns (λ m is. same m (inr is)))

  -- ---- what the plan is tested for

  safe_same : (states : List SeatState) (ns : List ℕ) → SameAt ns → filter (λ t. not (is_safe_after xs t)) (staged_plan states ns) ≡ filter (λ t. not (is_safe_after ys t)) (staged_plan states ns)
  safe_same states [] same = refl
  safe_same states (n ∷ ns) same =
      let t = touched_in n (given.state_of states n) in
      let rest = filter (λ (x : Touched). not (is_safe_after xs x)) (staged_plan states ns) in
      ap (λ o. cond (not (option_map_or (λ (s : SeatState). is_safe s.proposal t.after) o true)) (t ∷ rest) rest) (same n (inl refl))
      ∙ ap (λ l. cond (not (is_safe_after ys t)) (t ∷ l) l) (safe_same states ns (λ m is. same m (inr is)))

  unsafe_same : (states : List SeatState) (ns : List ℕ) → SameAt ns → least_unsafe xs (staged_plan states ns) ≡ least_unsafe ys (staged_plan states ns)
  unfolding least_unsafe
  unsafe_same states ns same = ap (λ ts. least (map (λ (t : Touched). t.seat) ts)) (safe_same states ns same)

  keeps_same : (states : List SeatState) (ns : List ℕ) → SameAt ns → keeps xs (staged_plan states ns) ≡ keeps ys (staged_plan states ns)
  unfolding keeps
  keeps_same states ns same = ap (λ o. none_such (first_unkept (staged_plan states ns)) NotConserved >> (none_such o not_offer_safe >> need (list_all is_small (staged_plan states ns)) (limit most_shares))) (unsafe_same states ns same)

  pub changes_same : (i : ℕ) (seats : List ℕ) → SameAt seats → least (seats_such (is_left_out i seats) xs) ≡ least (seats_such (is_left_out i seats) ys) → staged_changes i xs seats ≡ staged_changes i ys seats
  unfolding staged_changes
  changes_same i seats same left =
      ap (λ (t : Test). t >> (keeps xs (staged_plan xs seats) >> Ok (staged_plan xs seats))) (over_same i seats same left)
      ∙ ap (λ p. can_take_over i ys seats >> (keeps xs p >> Ok p)) (plan_same seats same)
      ∙ ap (λ (t : Test). can_take_over i ys seats >> (t >> Ok (staged_plan ys seats))) (keeps_same ys seats same)

pub planned_same : (w : State) (i : ℕ) (seats ns : List ℕ) → HaveAll w seats ns → ((n : ℕ) → IsAmong n seats → n < length w.seats) → staged_changes i (all_states w) seats ≡ staged_changes i (map (state_of w) ns) seats
planned_same w i seats ns have made =
    changes_same (all_states w) (map (state_of w) ns) i seats
    (λ n is. there w n (made n is) ∙ sym (found w ns n (have.listed n is)))
    (left_out_same w i seats ns have)

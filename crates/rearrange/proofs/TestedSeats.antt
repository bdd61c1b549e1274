-- The tests of seats that come before any amount is looked at find the faults that plans find, in the same order.
use Rattle.std.specs.Prelude.{nat_le, nat_lt, option_map}
use Rattle.std.specs.Option.{option_or}
use Rattle.std.proofs.Common.{◌≡◌, ℕ, Bool, true, false, List, length, Option, Some, None, Result, refl, sym, ap, ◌∙◌, arith, if◌then◌else◌}
use Rattle.std.proofs.lemmas.Bool.{leb-false, leb-true, ltb-false, ltb-true}
use Rattle.rearrange.specs.TestedPlans.{can_take_over, can_take_part}
use Rattle.rearrange.specs.Told.{seats_told}
use Rattle.proposals.specs.declared.plans.SeatState.{SeatState}
use Rattle.proposals.specs.Leasts.{least}
use Rattle.rearrange.specs.Seats.{has_exited, is_foreign, is_left_out, is_repeated, least_such, seats_such, staged_refusal, transfers_refusal}
use Rattle.rearrange.specs.declared.seats.SeatsFault.{SeatsFault}
use Rattle.rearrange.specs.declared.seats.SeatsFault.TheVariants.{OneSeat, RepeatedSeat, SeatExited, StagedLeftOut, WrongInstance}
use Rattle.refusals.specs.Codes.{one_seat, repeated_seat, seat_exited, staged_left_out, wrong_instance}
use Rattle.refusals.specs.Outcomes.{◌>>◌, bind, need, none_such}
use Rattle.refusals.specs.declared.codes.Refusal.{Refusal}

abbrev Test : Type 0
Test = Result (Unit {0}) Refusal

-- no fault passes
abbrev answer : Option SeatsFault → Test
answer fault = none_such fault seats_told

either : (fault other : Option SeatsFault) → answer (option_or fault other) ≡ (answer fault >> answer other)
unfolding bind none_such
either None other = refl
either (Some x) other = refl

named : (as_fault : ℕ → SeatsFault) (seat : Option ℕ) → answer (option_map as_fault seat) ≡ none_such seat (λ n. seats_told (as_fault n))
unfolding none_such
named as_fault None = refl
named as_fault (Some n) = refl

few : (n : ℕ) → answer (if nat_lt n 2 then Some OneSeat else None) ≡ need (nat_le 2 n) one_seat
unfolding none_such need
few n = by (nat_lt n 2) refl (nat_le 2 n) refl
  where
    by : (a : Bool) → nat_lt n 2 ≡ a → (b : Bool) → nat_le 2 n ≡ b → answer (if a then Some OneSeat else None) ≡ need b one_seat
    by true less false over = refl
    by false less true over = refl
    by true less true over = absurd (omega (arith, ltb-true n 2 less, leb-true 2 n over))
    by false less false over = absurd (omega (arith, ltb-false n 2 less, leb-false 2 n over))

both : (a b c d : Test) → a ≡ c → b ≡ d → (a >> b) ≡ (c >> d)
both a b c d first second = ap (λ (t : Test). t >> b) first ∙ ap (λ (t : Test). c >> t) second

followed : (fault other : Option SeatsFault) (test next : Test) → answer fault ≡ test → answer other ≡ next → answer (option_or fault other) ≡ (test >> next)
followed fault other test next first second = either fault other ∙ both (answer fault) (answer other) test next first second

module _ (i : ℕ) (states : List SeatState) (seats : List ℕ) where
  abbrev foreign : Option ℕ
  foreign = least_such (is_foreign i states) seats

  abbrev exited : Option ℕ
  exited = least_such (has_exited states) seats

  abbrev repeated : Option ℕ
  repeated = least_such (is_repeated seats) seats

  abbrev left_out : Option ℕ
  left_out = least (seats_such (is_left_out i seats) states)

  -- faults from the last on
  abbrev from_exited : Option SeatsFault
  from_exited = option_or (option_map SeatExited exited) (option_map StagedLeftOut left_out)

  abbrev from_repeated : Option SeatsFault
  from_repeated = option_or (option_map RepeatedSeat repeated) from_exited

  abbrev too_few : Option SeatsFault
  too_few = if nat_lt (length seats) 2 then Some OneSeat else None

  exited_tests : answer from_exited ≡ (none_such exited seat_exited >> none_such left_out staged_left_out)
  exited_tests = followed (option_map SeatExited exited) (option_map StagedLeftOut left_out) (none_such exited seat_exited) (none_such left_out staged_left_out) (named SeatExited exited) (named StagedLeftOut left_out)

  repeated_tests : answer from_repeated ≡ (none_such repeated repeated_seat >> (none_such exited seat_exited >> none_such left_out staged_left_out))
  repeated_tests = followed (option_map RepeatedSeat repeated) from_exited (none_such repeated repeated_seat) (none_such exited seat_exited >> none_such left_out staged_left_out) (named RepeatedSeat repeated) exited_tests

  abbrev after_foreign : Test
  after_foreign = need (nat_le 2 (length seats)) one_seat >> (none_such repeated repeated_seat >> (none_such exited seat_exited >> none_such left_out staged_left_out))

  few_tests : answer (option_or too_few from_repeated) ≡ after_foreign
  few_tests = followed too_few from_repeated (need (nat_le 2 (length seats)) one_seat) (none_such repeated repeated_seat >> (none_such exited seat_exited >> none_such left_out staged_left_out)) (few (length seats)) repeated_tests

  pub staged_tests : can_take_over i states seats ≡ none_such (staged_refusal i states seats) seats_told
  unfolding can_take_over staged_refusal
  staged_tests = sym (followed (option_map WrongInstance foreign) (option_or too_few from_repeated) (none_such foreign wrong_instance) after_foreign (named WrongInstance foreign) few_tests)

  pub transfers_tests : can_take_part i states seats ≡ none_such (transfers_refusal i states seats) seats_told
  unfolding can_take_part transfers_refusal
  transfers_tests = sym (followed (option_map WrongInstance foreign) (option_map SeatExited exited) (none_such foreign wrong_instance) (none_such exited seat_exited) (named WrongInstance foreign) (named SeatExited exited))

-- Plans of changes with the tests that they are made by, in their order, each with its refusal (Zoe; the order
-- and the codes are our own).
use Rattle.std.specs.Prelude.{ℕ, pos, ◌==◌, nat_le, not, Bool, true, List, [], ◌∷◌, ◌++◌, length, map, filter, flat_map, is_some, Option, Some, None, option_and_then, option_map, Result, Ok, if◌then◌else◌}
use Rattle.std.specs.List.{find, list_all}
use Rattle.std.specs.Option.{option_map_or}
use Rattle.refusals.specs.amount_math.ValueView.{ValueView}
use Rattle.proposals.specs.Leasts.{least}
use Rattle.proposals.specs.Shares.{most_shares}
use Rattle.proposals.specs.declared.allocations.Share.{Share}
use Rattle.proposals.specs.declared.plans.SeatState.{SeatState}
use Rattle.proposals.specs.declared.plans.Touched.{Touched}
use Rattle.proposals.specs.declared.plans.Transfer.{Transfer}
use Rattle.rearrange.specs.Seats.{allocation_of, has_exited, is_foreign, is_left_out, is_repeated}
use Rattle.rearrange.specs.Seats.{least_such, seats_such, state_of}
use Rattle.rearrange.specs.Staged.{staged_plan}
use Rattle.rearrange.specs.Sums.{count_after, count_before}
use Rattle.rearrange.specs.Transfers.{gains_of, losses_of, lowered_by, transfers_plan, worked_by}
use Rattle.refusals.specs.Codes.{capped, limit, not_offer_safe, one_seat, repeated_seat, seat_exited, staged_left_out, wrong_instance}
use Rattle.refusals.specs.Outcomes.{◌>>◌, need, none_such}
use Rattle.refusals.specs.declared.codes.Refusal.{Refusal}
use Rattle.refusals.specs.declared.codes.Refusal.TheVariants.{NotConserved}
use Rattle.refusals.specs.declared.codes.Unkept.{Unkept}
use Rattle.value_tests.specs.Firsts.{elements}
use Rattle.value_tests.specs.Totals.{total_of}
use Rattle.rearrange.specs.Slots.{can_give, can_take, is_safe}

-- ---- what is not conserved

-- all that the seats have before and after
abbrev pub shares_of : List Touched → List Share
shares_of touched = flat_map (λ t. t.before ++ t.after) touched

abbrev pub brands_of : List Touched → List ℕ
brands_of touched = map (λ r. r.amount.brand) (shares_of touched)

-- what shares have of a brand
abbrev pub values_of : ℕ → List Share → List ValueView
values_of brand [] = []
values_of brand (r ∷ rs) =
    if r.amount.brand == brand then r.amount.value ∷ values_of brand rs else values_of brand rs

-- the elements of a brand that the seats have before or after, in byte order
abbrev pub elements_of : List Touched → ℕ → List (List ℕ)
elements_of touched brand = elements (total_of (values_of brand (shares_of touched)))

-- of an element of a brand there are not as many after as before
abbrev pub is_unkept : List Touched → ℕ → List ℕ → Bool
is_unkept touched brand element =
    not (count_before brand element touched == count_after brand element touched)

-- the first such element of a brand, in byte order; the least brand that has one
unfoldable pub unkept_element : List Touched → ℕ → Option (List ℕ)
unkept_element touched brand = find (is_unkept touched brand) (elements_of touched brand)

unfoldable pub unkept_brand : List Touched → Option ℕ
unkept_brand touched = least (filter (λ b. is_some (unkept_element touched b)) (brands_of touched))

-- with how many there are before and after
abbrev pub unkept_at : List Touched → ℕ → List ℕ → Unkept
unkept_at touched brand element = record {
  brand = brand;
  element = element;
  before = pos (capped (count_before brand element touched));
  after = pos (capped (count_after brand element touched));
}

abbrev pub unkept_of : List Touched → ℕ → Option Unkept
unkept_of touched brand = option_map (unkept_at touched brand) (unkept_element touched brand)

unfoldable pub first_unkept : List Touched → Option Unkept
first_unkept touched = option_and_then (unkept_of touched) (unkept_brand touched)

-- ---- what a plan is tested for

-- a touched seat is offer safe after
abbrev pub is_safe_after : List SeatState → Touched → Bool
is_safe_after states t = option_map_or (λ s. is_safe s.proposal t.after) (state_of states t.seat) true

unfoldable pub least_unsafe : List SeatState → List Touched → Option ℕ
least_unsafe states touched =
    least (map (λ t. t.seat) (filter (λ t. not (is_safe_after states t)) touched))

abbrev pub is_small : Touched → Bool
is_small t = nat_le (length t.after) most_shares

-- each element of each brand is kept, each seat is offer safe, and none has over 64 slots
unfoldable pub keeps : List SeatState → List Touched → Result (Unit {0}) Refusal
keeps states touched = do
  none_such (first_unkept touched) NotConserved
  none_such (least_unsafe states touched) not_offer_safe
  need (list_all is_small touched) (limit most_shares)

-- ---- staging that is taken over

-- seats can take over their staging: they are of the instance, at least two, each once, and none was left; and
-- no other seat of the instance has staging
unfoldable pub can_take_over : ℕ → List SeatState → List ℕ → Result (Unit {0}) Refusal
can_take_over instance states seats = do
  none_such (least_such (is_foreign instance states) seats) wrong_instance
  need (nat_le 2 (length seats)) one_seat
  none_such (least_such (is_repeated seats) seats) repeated_seat
  none_such (least_such (has_exited states) seats) seat_exited
  none_such (least (seats_such (is_left_out instance seats) states)) staged_left_out

unfoldable pub staged_changes : ℕ → List SeatState → List ℕ → Result (List Touched) Refusal
staged_changes instance states seats = do
  can_take_over instance states seats
  keeps states (staged_plan states seats)
  Ok (staged_plan states seats)

-- ---- transfers

-- seats can take part in transfers: they are of the instance, and none was left
unfoldable pub can_take_part : ℕ → List SeatState → List ℕ → Result (Unit {0}) Refusal
can_take_part instance states seats = do
  none_such (least_such (is_foreign instance states) seats) wrong_instance
  none_such (least_such (has_exited states) seats) seat_exited

-- a seat, where one is named, passes a test
abbrev pub passes_at : Option ℕ → (ℕ → Result (Unit {0}) Refusal) → Result (Unit {0}) Refusal
passes_at None test = Ok tt
passes_at (Some seat) test = test seat

-- the seat that gives has what a transfer takes; the one that gets can then have what it is given more
abbrev pub can_lose : (ℕ → List Share) → Transfer → Result (Unit {0}) Refusal
can_lose had t = passes_at t.from (λ seat. can_take (had seat) (losses_of t))

abbrev pub can_gain : (ℕ → List Share) → Transfer → Result (Unit {0}) Refusal
can_gain had t = passes_at t.to (λ seat. can_give (lowered_by had t seat) (gains_of t))

-- transfers can be worked one after the other, on what the seats have then
abbrev pub can_work : (ℕ → List Share) → List Transfer → Result (Unit {0}) Refusal
can_work had [] = Ok tt
can_work had (t ∷ ts) = can_lose had t >> (can_gain had t >> can_work (worked_by had t) ts)

unfoldable pub transfer_changes : List SeatState → List Transfer → Result (List Touched) Refusal
transfer_changes states list = do
  can_work (allocation_of states) list
  keeps states (transfers_plan states list)
  Ok (transfers_plan states list)

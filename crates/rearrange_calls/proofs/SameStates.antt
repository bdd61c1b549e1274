-- Transfers come to the same where two lists of states tell the same of each seat.
use Rattle.std.specs.Prelude.{◌==◌, filter, flat_map, map, not}
use Rattle.std.specs.List.{list_all}
use Rattle.std.specs.Option.{option_map_or}
use Rattle.std.proofs.Common.{◌≡◌, ℕ, List, [], ◌++◌, Option, Ok, true, false, refl, sym, ap, subst, ◌∙◌}
use Rattle.rearrange.specs.TestedPlans.{can_take_part, can_work, first_unkept, is_small, keeps, least_unsafe, transfer_changes}
use Rattle.rearrange.specs.Slots.{is_safe}
use Rattle.rearrange.specs.Seats as given
use Rattle.rearrange.specs.Seats.{seats_named}
use Rattle.rearrange.specs.Settled.{settled}
use Rattle.rearrange.specs.Staged.{Agree, shares_of}
use Rattle.rearrange.specs.Transfers.{HasOneBrand, amounts_for, once, transfers_plan, worked}
use Rattle.refusals.specs.Codes.{limit, not_offer_safe, seat_exited, wrong_instance}
use Rattle.refusals.specs.Outcomes.{◌>>◌, bind, need, none_such}
use Rattle.refusals.specs.declared.codes.Refusal.TheVariants.{NotConserved}
use Rattle.rules.specs.Rearranging.{Parts, states_for, transfers_in}
use Rattle.rules.specs.proposals.Leasts.{least}
use Rattle.rules.specs.proposals.Shares.{most_shares}
use Rattle.rules.specs.proposals.declared.allocations.Share.{Share}
use Rattle.rules.specs.proposals.declared.plans.SeatState.{SeatState}
use Rattle.rules.specs.proposals.declared.plans.Touched.{Touched}
use Rattle.rules.specs.proposals.declared.plans.Transfer.{Transfer}
use Rattle.rules.specs.world_state.Worlds.{State}
use Rattle.rearrange_calls.specs.TransferStates.{AreStatesFor}
use Rattle.rearrange_calls.specs.Steps.{changed, tested}

-- what is told of each seat
abbrev Told : Type 0
Told = ℕ → Option SeatState

abbrev slots_told : Told → ℕ → List Share
slots_told told n = option_map_or (λ s. s.allocation) (told n) []

abbrev touched_told : Told → (ℕ → List Share) → ℕ → Touched
touched_told told has n = record { seat = n; before = slots_told told n; after = settled (slots_told told n) (has n) }

module _ (xs ys : List SeatState) (same : given.state_of xs ≡ given.state_of ys) where
  pub slots_same : given.allocation_of xs ≡ given.allocation_of ys
  slots_same = ap slots_told same

  pub part_same : (i : ℕ) (ns : List ℕ) → can_take_part i xs ns ≡ can_take_part i ys ns
  unfolding can_take_part
  part_same i ns =
      ap (λ (told : Told).
      none_such (least (filter (λ n. option_map_or (λ s. not (s.instance == i)) (told n) false) ns)) wrong_instance
      >> none_such (least (filter (λ n. option_map_or (λ s. not s.is_open) (told n) false) ns)) seat_exited)
      same

  keeps_same : (touched : List Touched) → keeps xs touched ≡ keeps ys touched
  unfolding keeps least_unsafe
  keeps_same touched =
      ap (λ (told : Told).
      none_such (first_unkept touched) NotConserved
      >> (none_such (least (map (λ t. t.seat) (filter (λ t. not (option_map_or (λ s. is_safe s.proposal t.after) (told t.seat) true)) touched))) not_offer_safe
      >> need (list_all is_small touched) (limit most_shares)))
      same

  plan_same : (list : List Transfer) → transfers_plan xs list ≡ transfers_plan ys list
  plan_same list = ap (λ (told : Told). map (touched_told told (worked (slots_told told) list)) (once (seats_named list))) same

  changes_are : (states : List SeatState) (list : List Transfer) → transfer_changes states list ≡ (can_work (given.allocation_of states) list >> (keeps states (transfers_plan states list) >> Ok (transfers_plan states list)))
  unfolding transfer_changes
  changes_are states list = refl

  pub changes_same : (list : List Transfer) → transfer_changes xs list ≡ transfer_changes ys list
  changes_same list =
      changes_are xs list
      ∙ ap (λ (has : ℕ → List Share). can_work has list >> (keeps xs (transfers_plan xs list) >> Ok (transfers_plan xs list))) slots_same
      ∙ ap (λ (plan : List Touched). can_work (given.allocation_of ys) list >> (keeps xs plan >> Ok plan)) (plan_same list)
      ∙ ap (λ r. can_work (given.allocation_of ys) list >> (r >> Ok (transfers_plan ys list))) (keeps_same (transfers_plan ys list))
      ∙ sym (changes_are ys list)

  pub one_brand_same : (list : List Transfer) (n : ℕ) → HasOneBrand ys list n → HasOneBrand xs list n
  one_brand_same list n =
      subst (λ (told : Told). Agree (option_map_or shares_of (told n) [] ++ flat_map (amounts_for n) list) (option_map_or shares_of (told n) [] ++ flat_map (amounts_for n) list)) (sym same)

-- the step of the rule, from the states that the code plans from
pub changed_is : (w : State) (i : ℕ) (seats : List ℕ) (parts : List Parts) (states : List SeatState) (list : List Transfer) → AreStatesFor w seats states → transfers_in w i parts ≡ Ok list → changed w i seats parts ≡ transfer_changes states list
unfolding changed bind
changed_is w i seats parts states list are reads =
    ap (λ r. bind r (λ ts. transfer_changes (states_for w seats) ts)) reads
    ∙ sym (changes_same states (states_for w seats) are list)

pub tested_is : (w : State) (i : ℕ) (seats : List ℕ) (parts : List Parts) (states : List SeatState) → AreStatesFor w seats states → tested w i seats parts ≡ (can_take_part i states seats >> changed w i seats parts)
unfolding tested
tested_is w i seats parts states are = ap (λ r. r >> changed w i seats parts) (sym (part_same states (states_for w seats) are i seats))

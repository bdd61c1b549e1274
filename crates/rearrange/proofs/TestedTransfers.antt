-- What a plan of transfers answers is what its definition tests.
use Rattle.std.proofs.Common.{◌≡◌, ℕ, List, length, ◌≤◌, Option, Some, None, Result, Ok, ap, ◌∙◌}
use Rattle.std.specs.List.{All}
use Rattle.proposals.specs.Shares.{most_shares}
use Rattle.proposals.specs.declared.plans.SeatState.{SeatState}
use Rattle.proposals.specs.declared.plans.Touched.{Touched}
use Rattle.proposals.specs.declared.plans.Transfer.{Transfer}
use Rattle.rearrange.specs.Plans.{IsPlanRefusal}
use Rattle.rearrange.specs.Safety.{AreSafe}
use Rattle.rearrange.specs.Seats.{allocation_of, seats_named, transfers_refusal}
use Rattle.rearrange.specs.Sums.{AreConserved}
use Rattle.rearrange.specs.TestedPlans.{can_take_part, can_work, keeps, transfer_changes}
use Rattle.rearrange.specs.Told.{plan_told, seats_told}
use Rattle.rearrange.specs.TransferRefusals.{CanWork, IsTransfersRefusal, IsWorkRefusal, TransfersFault, gives, plans, seated_changes, takes, transfers_told}
use Rattle.rearrange.specs.Transfers.{transfers_plan}
use Rattle.rearrange.specs.declared.plans.PlanFault.{PlanFault}
use Rattle.rearrange.specs.declared.plans.PlanFault.TheVariants as plan
use Rattle.rearrange.specs.declared.seats.SeatsFault.{SeatsFault}
use Rattle.refusals.specs.Outcomes.{Fails, ◌>>◌, none_such}
use Rattle.refusals.specs.declared.codes.Refusal.{Refusal}
use Rattle.rearrange.proofs.Kept.{fails_then, past, plan_fails, plan_passes}
use Rattle.rearrange.proofs.TestedSeats.{transfers_tests}
use Rattle.rearrange.proofs.TestedWorking.{fails_past, work_fails, work_passes}

module _ (i : ℕ) (states : List SeatState) (list : List Transfer) where
  abbrev moving : List Touched
  moving = transfers_plan states list

  abbrev taking_part : Result (Unit {0}) Refusal
  taking_part = can_take_part i states (seats_named list)

  abbrev working : Result (Unit {0}) Refusal
  working = can_work (allocation_of states) list

  abbrev kept : Result (List Touched) Refusal
  kept = keeps states moving >> Ok moving

  abbrev seated : Result (List Touched) Refusal
  seated = seated_changes i states list

  abbrev refusal : Option SeatsFault
  refusal = transfers_refusal i states (seats_named list)

  part_is : (o : Option SeatsFault) → refusal ≡ o → taking_part ≡ none_such o seats_told
  part_is o is = transfers_tests i states (seats_named list) ∙ ap (λ (x : Option SeatsFault). none_such x seats_told) is

  past_part : refusal ≡ None → seated ≡ (working >> kept)
  unfolding transfer_changes none_such
  past_part none = past taking_part (working >> kept) (part_is None none)

  past_work : refusal ≡ None → CanWork (allocation_of states) list → seated ≡ kept
  past_work none can = past_part none ∙ past working kept (work_passes (allocation_of states) list can)

  pub transfers_pass : refusal ≡ None → CanWork (allocation_of states) list → AreConserved moving → AreSafe states moving → All (λ t. length t.after ≤ most_shares) moving → seated ≡ Ok moving
  transfers_pass none can conserved safe small = past_work none can ∙ past (keeps states moving) (Ok moving) (plan_passes states moving conserved safe small)

  in_work : (fault : TransfersFault) → refusal ≡ None → IsWorkRefusal (allocation_of states) list fault → Fails (transfers_told fault) seated
  in_work fault none is =
      fails_past (transfers_told fault) seated (working >> kept) (past_part none)
      (fails_then (transfers_told fault) working kept (work_fails (allocation_of states) list fault is))

  in_moves : (fault : PlanFault) → refusal ≡ None → CanWork (allocation_of states) list → IsPlanRefusal states moving fault → Fails (plan_told fault) seated
  in_moves fault none can is =
      fails_past (plan_told fault) seated kept (past_work none can)
      (fails_then (plan_told fault) (keeps states moving) (Ok moving) (plan_fails states moving fault is))

  pub transfers_fail : (fault : TransfersFault) → IsTransfersRefusal i states list fault → Fails (transfers_told fault) seated
  unfolding none_such
  transfers_fail (takes short) is = in_work (takes short) is.0 is.1
  transfers_fail (gives fault) is = in_work (gives fault) is.0 is.1
  transfers_fail (plans (plan.Seats fault)) is = fails_then (plan_told (plan.Seats fault)) taking_part (transfer_changes states list) (part_is (Some fault) is)
  transfers_fail (plans plan.NoMemory) is = tt
  transfers_fail (plans (plan.NotConserved u)) is = in_moves (plan.NotConserved u) is.0 is.1.0 is.1.1
  transfers_fail (plans (plan.NotOfferSafe seat)) is = in_moves (plan.NotOfferSafe seat) is.0 is.1.0 is.1.1
  transfers_fail (plans plan.Limit) is = in_moves plan.Limit is.0 is.1.0 is.1.1

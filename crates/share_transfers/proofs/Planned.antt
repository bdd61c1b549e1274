-- The plan of transfers: the seats that it names can take over what they have.
use Rattle.std.specs.Prelude.{map}
use Rattle.std.specs.List.{All}
use Rattle.std.proofs.Common.{◌≡◌, ℕ, List, Ok, Result, sym, ap, subst, ◌∙◌}
use Rattle.rearrange.specs.TestedPlans.{can_work, transfer_changes}
use Rattle.call_arguments.specs.proposals.declared.allocations.Share.{Share}
use Rattle.call_arguments.specs.proposals.declared.plans.SeatState.{SeatState}
use Rattle.call_arguments.specs.proposals.declared.plans.Transfer.{Transfer}
use Rattle.rearrange.proofs.Worked.{can_settle}
use Rattle.rearrange.specs.Seats.{allocation_of, seats_named}
use Rattle.rearrange.specs.Staged.{touched_with}
use Rattle.rearrange.specs.Transfers.{HasOneBrand, once, transfers_plan, worked}
use Rattle.rearrange.specs.Working.{CanSettle, shares_now}
use Rattle.rearrange.specs.declared.sums.SeatShares.{SeatShares}
use Rattle.refusals.specs.Outcomes.{bind, ◌>>◌}
use Rattle.refusals.specs.declared.codes.Refusal.{Refusal}
use Rattle.share_transfers.specs.Tests.{kept_plan}

pub can_settle_all : (states : List SeatState) (list : List Transfer) (now : List SeatShares) (named : List ℕ) → All (HasOneBrand states list) (seats_named list) → shares_now states now ≡ worked (allocation_of states) list → named ≡ seats_named list → All (λ seat. CanSettle states (shares_now states now seat) seat) named
can_settle_all states list now named one has are =
    subst (All (λ seat. CanSettle states (shares_now states now seat) seat)) (sym are)
    (subst (λ (h : ℕ → List Share). All (λ seat. CanSettle states (h seat) seat) (seats_named list)) (sym has) (can_settle states list one))

pub plan_same : (states : List SeatState) (list : List Transfer) (now : List SeatShares) (named : List ℕ) → shares_now states now ≡ worked (allocation_of states) list → named ≡ seats_named list → map (λ seat. touched_with states seat (shares_now states now seat)) (once named) ≡ transfers_plan states list
plan_same states list now named has are =
    ap (λ (h : ℕ → List Share). map (λ seat. touched_with states seat (h seat)) (once named)) has
    ∙ ap (λ (ns : List ℕ). map (λ seat. touched_with states seat (worked (allocation_of states) list seat)) (once ns)) are

pub changes_are : (states : List SeatState) (list : List Transfer) → can_work (allocation_of states) list ≡ Ok tt → transfer_changes states list ≡ kept_plan states (transfers_plan states list)
unfolding transfer_changes bind
changes_are states list can = ap (λ (r : Result (Unit {0}) Refusal). r >> kept_plan states (transfers_plan states list)) can

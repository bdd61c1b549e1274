-- Why a plan of staging is refused.
use Rattle.std.proofs.Common.{◌≡◌, ℕ, List, None}
use Rattle.proposals.specs.declared.plans.SeatState.{SeatState}
use Rattle.rearrange.specs.Plans.{IsPlanRefusal}
use Rattle.rearrange.specs.Seats.{staged_refusal}
use Rattle.rearrange.specs.Staged.{IsStagedRefusal, staged_plan}
use Rattle.rearrange.specs.declared.plans.PlanFault.{PlanFault}
use Rattle.rearrange.specs.declared.plans.PlanFault.TheVariants.{Limit, NoMemory, NotConserved, NotOfferSafe, Seats}

pub staged_refused : (instance : ℕ) (states : List SeatState) (seats : List ℕ) → staged_refusal instance states seats ≡ None → (fault : PlanFault) → IsPlanRefusal states (staged_plan states seats) fault → IsStagedRefusal instance states seats fault
staged_refused instance states seats none (Seats fault) refused = absurd refused
staged_refused instance states seats none (NotConserved u) refused = (none, refused)
staged_refused instance states seats none (NotOfferSafe seat) refused = (none, refused)
staged_refused instance states seats none Limit refused = (none, refused)
staged_refused instance states seats none NoMemory refused = refused

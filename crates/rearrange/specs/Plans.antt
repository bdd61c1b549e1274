-- When a plan is carried out, and why it isn't: the tests over what the touched seats have after it, in their order (Zoe; the codes are our own).
use Rattle.std.specs.Prelude.{◌<◌, List, Any, length}
use Rattle.proposals.specs.Shares.{most_shares}
use Rattle.proposals.specs.declared.plans.SeatState.{SeatState}
use Rattle.proposals.specs.declared.plans.Touched.{Touched}
use Rattle.rearrange.specs.Safety.{AreSafe, IsLeastUnsafe}
use Rattle.rearrange.specs.Sums.{AreConserved, IsFirstUnkept}
use Rattle.rearrange.specs.declared.plans.PlanFault.{PlanFault}
use Rattle.rearrange.specs.declared.plans.PlanFault.TheVariants.{Limit, NoMemory, NotConserved, NotOfferSafe}

-- the first brand's element that is not kept; all are kept, and the least seat that isn't safe; all are safe, and one would have over 64 slots
abbrev pub IsPlanRefusal : List SeatState → List Touched → PlanFault → Type 0
IsPlanRefusal states touched (NotConserved u) = IsFirstUnkept touched u
IsPlanRefusal states touched (NotOfferSafe seat) = AreConserved touched × IsLeastUnsafe states touched seat
IsPlanRefusal states touched Limit = AreConserved touched × (AreSafe states touched × Any (λ t. most_shares < length t.after) touched)
IsPlanRefusal states touched NoMemory = Unit {0}
IsPlanRefusal states touched _ = ⊥

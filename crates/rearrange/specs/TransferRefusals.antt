-- When transfers can be worked, told of what seats have and can be given, and why they are refused
-- (Zoe; the order of the refusals is our own).
use Rattle.std.specs.Prelude.{◌≡◌, ℕ, ◌⊎◌, All, List, [], ◌∷◌, None, Some, IfSome, IsSomeAnd, Result}
use Rattle.refusals.specs.amount_math.declared.PutFault.{PutFault}
use Rattle.refusals.specs.amount_math.declared.shortfall.LossFault.TheVariants.{NotEnough}
use Rattle.refusals.specs.amount_math.declared.shortfall.Shortfall.{Shortfall}
use Rattle.proposals.specs.Gains.{CanGain, IsGainsRefusal}
use Rattle.proposals.specs.Losses.{IsLossesRefusal}
use Rattle.proposals.specs.OfferSafety.{AreCovered}
use Rattle.proposals.specs.declared.allocations.Share.{Share}
use Rattle.proposals.specs.declared.plans.SeatState.{SeatState}
use Rattle.proposals.specs.declared.plans.Touched.{Touched}
use Rattle.proposals.specs.declared.plans.Transfer.{Transfer}
use Rattle.rearrange.specs.Plans.{IsPlanRefusal}
use Rattle.rearrange.specs.Seats.{allocation_of, seats_named, transfers_refusal}
use Rattle.rearrange.specs.TestedPlans.{can_take_part, transfer_changes}
use Rattle.rearrange.specs.Told.{plan_told}
use Rattle.rearrange.specs.Transfers.{gains_of, losses_of, lowered_by, transfers_plan, worked_by}
use Rattle.rearrange.specs.declared.plans.PlanFault.{PlanFault}
use Rattle.rearrange.specs.declared.plans.PlanFault.TheVariants.{NoMemory, Seats}
use Rattle.refusals.specs.Outcomes.{◌>>◌}
use Rattle.refusals.specs.Told.{put_told}
use Rattle.refusals.specs.declared.codes.Refusal.{Refusal}
use Rattle.refusals.specs.declared.codes.Refusal.TheVariants as codes
use Rattle.refusals.specs.declared.stops.Stop.{Stop}
use Rattle.refusals.specs.declared.stops.Stop.TheVariants.{Refused}

-- ---- what transfers come to

-- the seats that are named can take part, and then the transfers are worked
abbrev pub seated_changes : ℕ → List SeatState → List Transfer → Result (List Touched) Refusal
seated_changes instance states list =
    can_take_part instance states (seats_named list) >> transfer_changes states list

-- ---- when they can be worked

-- the seat that gives has what is taken, and what the seat that gets has then can have what is given
-- more
abbrev pub CanTake : (ℕ → List Share) → Transfer → Type 0
CanTake has t = IfSome t.from (λ seat. AreCovered (has seat) (losses_of t))

abbrev pub CanGive : (ℕ → List Share) → Transfer → Type 0
CanGive has t = IfSome t.to (λ seat. All (CanGain (lowered_by has t seat)) (gains_of t))

-- one after the other, each on what the seats have then
abbrev pub CanWork : (ℕ → List Share) → List Transfer → Type 0
CanWork has [] = Unit {0}
CanWork has (t ∷ ts) = CanTake has t × (CanGive has t × CanWork (worked_by has t) ts)

-- ---- why they are refused

-- a seat has less than a transfer takes, a seat can't have what a transfer gives more, or the plan is
-- refused
pub data TransfersFault : Type 0 where
  takes : Shortfall → TransfersFault
  gives : PutFault → TransfersFault
  plans : PlanFault → TransfersFault

abbrev pub transfers_told : TransfersFault → Stop
transfers_told (takes short) = Refused (codes.NotEnough short)
transfers_told (gives fault) = put_told fault
transfers_told (plans fault) = plan_told fault

-- a transfer can't be worked: the first share of which the seat that gives has less; else the first
-- share with a key that the seat that gets has already; else the first that makes too much there
abbrev pub IsTransferRefusal : (ℕ → List Share) → Transfer → TransfersFault → Type 0
IsTransferRefusal has t (takes short) =
    IsSomeAnd t.from (λ seat. IsLossesRefusal (has seat) (losses_of t) (NotEnough short))
IsTransferRefusal has t (gives fault) =
    CanTake has t
    × IsSomeAnd t.to (λ seat. IsGainsRefusal (lowered_by has t seat) (gains_of t) fault)
IsTransferRefusal has t (plans fault) = ⊥

-- the first that can't be worked is refused
abbrev pub IsWorkRefusal : (ℕ → List Share) → List Transfer → TransfersFault → Type 0
IsWorkRefusal has [] fault = ⊥
IsWorkRefusal has (t ∷ ts) fault =
    IsTransferRefusal has t fault
    ⊎ (CanTake has t × (CanGive has t × IsWorkRefusal (worked_by has t) ts fault))

-- no test over the seats that are named fails
abbrev pub CanSeat : ℕ → List SeatState → List Transfer → Type 0
CanSeat instance states list = transfers_refusal instance states (seats_named list) ≡ None

-- the test over seats that fails; or none does, and the first transfer that can't be worked; or all
-- can, and the plan is refused
abbrev pub IsTransfersRefusal : ℕ → List SeatState → List Transfer → TransfersFault → Type 0
IsTransfersRefusal instance states list (plans (Seats fault)) =
    transfers_refusal instance states (seats_named list) ≡ Some fault
IsTransfersRefusal instance states list (plans NoMemory) = Unit {0}
IsTransfersRefusal instance states list (plans fault) =
    CanSeat instance states list
    × (CanWork (allocation_of states) list
    × IsPlanRefusal states (transfers_plan states list) fault)
IsTransfersRefusal instance states list fault =
    CanSeat instance states list × IsWorkRefusal (allocation_of states) list fault

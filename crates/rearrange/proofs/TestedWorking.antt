-- Transfers pass their tests where they can be worked, and are refused else by what the first that can't is refused by.
use Rattle.std.proofs.Common.{◌≡◌, ℕ, List, [], ◌∷◌, IfSome, Option, Some, None, Result, Ok, inl, inr, refl, sym, subst, ◌∙◌}
use Rattle.std.specs.List.{All}
use Rattle.std.specs.Prelude.{IsSomeAnd}
use Rattle.proposals.specs.Gains.{CanGain, IsGainsRefusal}
use Rattle.proposals.specs.Losses.{IsLossesRefusal}
use Rattle.proposals.specs.OfferSafety.{AreCovered}
use Rattle.proposals.specs.declared.allocations.Share.{Share}
use Rattle.proposals.specs.declared.plans.Transfer.{Transfer}
use Rattle.refusals.specs.amount_math.declared.shortfall.LossFault.TheVariants.{NotEnough}
use Rattle.rearrange.specs.Slots.{can_give, can_take}
use Rattle.rearrange.specs.TestedPlans.{can_gain, can_lose, can_work, passes_at}
use Rattle.rearrange.specs.TransferRefusals.{CanGive, CanTake, CanWork, IsTransferRefusal, IsWorkRefusal, TransfersFault, gives, plans, takes, transfers_told}
use Rattle.rearrange.specs.Transfers.{gains_of, losses_of, lowered_by, worked_by}
use Rattle.refusals.specs.Outcomes.{Fails, ◌>>◌}
use Rattle.refusals.specs.declared.codes.Refusal.{Refusal}
use Rattle.refusals.specs.declared.stops.Stop.{Stop}
use Rattle.rearrange.proofs.Added.{gains_pass}
use Rattle.rearrange.proofs.Gains.{gains_fail}
use Rattle.rearrange.proofs.Kept.{fails_then, past}
use Rattle.rearrange.proofs.Slots.{if_refused, if_taken}

abbrev Test : Type 0
Test = Result (Unit {0}) Refusal

-- ---- what fails after a test that passes

pub fails_past : {B : Type 0} (stop : Stop) (test next : Result B Refusal) → test ≡ next → Fails stop next → Fails stop test
fails_past stop test next is fails = subst (λ r. Fails stop r) (sym is) fails

-- ---- a seat that is named

passes_there : (seat : Option ℕ) (P : ℕ → Type 0) (test : ℕ → Test) → ((s : ℕ) → P s → test s ≡ Ok tt) → IfSome seat P → passes_at seat test ≡ Ok tt
passes_there None P test passes is = refl
passes_there (Some s) P test passes is = passes s is

fails_there : (seat : Option ℕ) (P : ℕ → Type 0) (test : ℕ → Test) (stop : Stop) → ((s : ℕ) → P s → Fails stop (test s)) → IsSomeAnd seat P → Fails stop (passes_at seat test)
fails_there None P test stop fails is = absurd is
fails_there (Some s) P test stop fails is = fails s is

-- ---- one transfer

module _ (had : ℕ → List Share) (t : Transfer) where
  loses : CanTake had t → can_lose had t ≡ Ok tt
  loses is = passes_there t.from (λ seat. AreCovered (had seat) (losses_of t)) (λ seat. can_take (had seat) (losses_of t)) (λ seat. if_taken (had seat) (losses_of t)) is

  gains : CanGive had t → can_gain had t ≡ Ok tt
  gains is = passes_there t.to (λ seat. All (CanGain (lowered_by had t seat)) (gains_of t)) (λ seat. can_give (lowered_by had t seat) (gains_of t)) (λ seat. gains_pass (lowered_by had t seat) (gains_of t)) is

  module _ (next : Test) where
    past_both : CanTake had t → CanGive had t → (can_lose had t >> (can_gain had t >> next)) ≡ next
    past_both take give = past (can_lose had t) (can_gain had t >> next) (loses take) ∙ past (can_gain had t) next (gains give)

    transfer_fails : (fault : TransfersFault) → IsTransferRefusal had t fault → Fails (transfers_told fault) (can_lose had t >> (can_gain had t >> next))
    transfer_fails (takes short) is =
        fails_then (transfers_told (takes short)) (can_lose had t) (can_gain had t >> next)
        (fails_there t.from (λ seat. IsLossesRefusal (had seat) (losses_of t) (NotEnough short)) (λ seat. can_take (had seat) (losses_of t)) (transfers_told (takes short)) (λ seat. if_refused (had seat) (losses_of t) short) is)
    transfer_fails (gives fault) is =
        fails_past (transfers_told (gives fault)) (can_lose had t >> (can_gain had t >> next)) (can_gain had t >> next) (past (can_lose had t) (can_gain had t >> next) (loses is.0))
        (fails_then (transfers_told (gives fault)) (can_gain had t) next
        (fails_there t.to (λ seat. IsGainsRefusal (lowered_by had t seat) (gains_of t) fault) (λ seat. can_give (lowered_by had t seat) (gains_of t)) (transfers_told (gives fault)) (λ seat. gains_fail (lowered_by had t seat) (gains_of t) fault) is.1))
    transfer_fails (plans fault) is = absurd is

-- ---- all

pub work_passes : (had : ℕ → List Share) (list : List Transfer) → CanWork had list → can_work had list ≡ Ok tt
work_passes had [] can = refl
work_passes had (t ∷ ts) can = past_both had t (can_work (worked_by had t) ts) can.0 can.1.0 ∙ work_passes (worked_by had t) ts can.1.1

pub work_fails : (had : ℕ → List Share) (list : List Transfer) (fault : TransfersFault) → IsWorkRefusal had list fault → Fails (transfers_told fault) (can_work had list)
work_fails had [] fault is = absurd is
work_fails had (t ∷ ts) fault (inl here) = transfer_fails had t (can_work (worked_by had t) ts) fault here
work_fails had (t ∷ ts) fault (inr later) =
    fails_past (transfers_told fault) (can_work had (t ∷ ts)) (can_work (worked_by had t) ts) (past_both had t (can_work (worked_by had t) ts) later.0 later.1.0)
    (work_fails (worked_by had t) ts fault later.1.1)

-- What is so of what was given, told further.
use Rattle.std.specs.Prelude.{IfOk}
use Rattle.std.proofs.Common.{◌≡◌, ◌∙◌, ℕ, List, [], ◌∷◌, Result, Ok, Err, refl, ap, subst}
use Rattle.world_effects.specs.call_outcomes.CallOutcomes.{GivesOutcome}
use Rattle.world_effects.specs.call_outcomes.declared.outcomes.CallOutcome.{CallOutcome}
use Rattle.delivery_laws.specs.rules.Outcomes.{Outcome}
use Rattle.delivery_laws.specs.delivery_turns.HostCalls.{method_fields as told_fields}
use Rattle.contract_powers.specs.CallOutcomes.{IsAnswered}
use Rattle.contract_powers.specs.CallNotes.{IsTold}
use Rattle.contract_powers.specs.declared.host_calls.answers.Answered.{Answered}
use Rattle.contract_powers.specs.declared.host_calls.told_calls.Told.{Told}
use Rattle.jessie_machine.specs.jessie_semantics.Keeping.{method_fields}
use Rattle.jessie_machine.specs.jessie_semantics.Play.{Call, far}
use Rattle.refusals.specs.host_data.Tree.{Fields, Tree, field, fields, function, null}
use Rattle.refusals.specs.host_data.View.{trees}
use Rattle.refusals.specs.declared.stops.Stop.{Stop}
use Rattle.std.specs.declared.alloc.AllocError.{AllocError}
use Rattle.world_effects.specs.turn_records.Events as told

pub answered_as : (r : Result Answered AllocError) (c : Call) (outcome : Outcome) (t : Told) (row : Result CallOutcome Stop)
    → IfOk r (λ a. (c : Call) (outcome : Outcome) → IsTold c t → GivesOutcome outcome row → IsAnswered c outcome a) → IsTold c t → GivesOutcome outcome row → IfOk r (IsAnswered c outcome)
answered_as (Ok a) c outcome t row all told plans = all c outcome told plans
answered_as (Err e) c outcome t row all told plans = tt

pub answered_if : (r : Result Answered AllocError) (c : Call) (outcome : Outcome) (t : Result Told AllocError) (row : Result CallOutcome Stop)
    → IfOk r (λ a. (c : Call) (outcome : Outcome) → IfOk t (IsTold c) → GivesOutcome outcome row → IsAnswered c outcome a) → IfOk t (IsTold c) → GivesOutcome outcome row → IfOk r (IsAnswered c outcome)
answered_if (Ok a) c outcome t row all told plans = all c outcome told plans
answered_if (Err e) c outcome t row all told plans = tt

-- what was told was told
pub told_so : (r : Result Answered AllocError) (given : Result Told AllocError) (t : Told) (row : Result CallOutcome Stop) → given ≡ Ok t
    → IfOk r (λ a. (c : Call) (outcome : Outcome) → IsTold c t → GivesOutcome outcome row → IsAnswered c outcome a)
    → IfOk r (λ a. (c : Call) (outcome : Outcome) → IfOk given (IsTold c) → GivesOutcome outcome row → IsAnswered c outcome a)
told_so (Ok a) given t row is all = λ c outcome told plans. all c outcome (subst (λ (g : Result Told AllocError). IfOk g (IsTold c)) is told) plans
told_so (Err e) given t row is all = tt

-- ---- a facet's methods, as they are told

same_fields : (ms : List (List ℕ × List ℕ)) → told_fields ms ≡ method_fields ms
same_fields [] = refl
same_fields (m ∷ ms) = ap (λ (fs : Fields). field m.0 (function m.1) fs) (same_fields ms)

pub facet_shows : (x : List ℕ) (ms : List (List ℕ × List ℕ)) (held : Tree) (t : Told) → IsTold (far x ms held) t → trees t.arguments.items ≡ fields (method_fields ms) ∷ held ∷ []
facet_shows x ms held t is =
    ap (λ (c : told.Call). c.arguments) (is.each (told.given null)) ∙ ap (λ (fs : Fields). fields fs ∷ held ∷ []) (same_fields ms)

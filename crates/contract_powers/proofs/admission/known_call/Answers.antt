use Rattle.std.proofs.Common.{ℕ, List, subst}
use Rattle.world_effects.specs.call_outcomes.CallOutcomes.{GivesOutcome}
use Rattle.world_effects.specs.host_world.Worlds.{world_of}
use Rattle.jessie_machine.specs.jessie_semantics.Play as plays
use Rattle.refusals.specs.host_data.View.{trees}
use Rattle.refusals.specs.host_data.declared.data.Data.{Data}
use Rattle.delivery_laws.specs.rules.Methods.{serve_own}
use Rattle.contract_powers.proofs.Results.{answered_as}
use Rattle.contract_powers.proofs.admission.known_call.Goals as goal

pub returns : goal.returns
returns g c =
    let w = world_of c.args.world.now in
    answered_as c.answer_call.result (plays.call c.args.target c.args.method (trees c.args.args.items)) (serve_own w c.args.target c.args.method (trees c.args.args.items)) c.told_call.result c.plan_call-row.result c.answer_call.ensures c.told_call.ensures
    (subst (λ (m : List ℕ). GivesOutcome (serve_own w c.args.target m (trees c.args.args.items)) c.plan_call-row.result) c.as_str.ensures
    (subst (λ (xs : List Data). GivesOutcome (serve_own w c.args.target c.as_str.result.now (trees xs)) c.plan_call-row.result) c.as_slice.ensures.value c.plan_call-row.ensures))

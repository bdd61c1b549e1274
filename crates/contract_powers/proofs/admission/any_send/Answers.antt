use Rattle.std.proofs.Common.{List, subst}
use Rattle.world_effects.specs.call_outcomes.CallOutcomes.{GivesOutcome}
use Rattle.delivery_laws.specs.rules.PromisesAndFacets.{send_rule}
use Rattle.world_effects.specs.host_world.Worlds.{world_of}
use Rattle.jessie_machine.specs.jessie_semantics.Play as plays
use Rattle.refusals.specs.host_data.View.{trees}
use Rattle.refusals.specs.host_data.declared.data.Data.{Data}
use Rattle.contract_powers.proofs.Results.{answered_as}
use Rattle.contract_powers.proofs.admission.any_send.Goals as goal

pub returns : goal.returns
returns c =
    let w = world_of c.args.world.now in
    answered_as c.answer_call.result (plays.send c.args.target c.args.method (trees c.args.args.items)) (send_rule w c.args.instance c.args.target c.args.method (trees c.args.args.items)) c.told_send.result c.plan_send-row.result c.answer_call.ensures c.told_send.ensures
    (subst (λ (xs : List Data). GivesOutcome (send_rule w c.args.instance c.args.target c.args.method (trees xs)) c.plan_send-row.result) c.as_slice.ensures.value c.plan_send-row.ensures)

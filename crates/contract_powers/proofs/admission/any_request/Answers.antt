use Rattle.delivery_laws.specs.rules.PromisesAndFacets.{when_rule}
use Rattle.world_effects.specs.host_world.Worlds.{world_of}
use Rattle.jessie_machine.specs.jessie_semantics.Play as plays
use Rattle.refusals.specs.host_data.View.{tree}
use Rattle.contract_powers.proofs.Results.{answered_if}
use Rattle.contract_powers.proofs.admission.any_request.Goals as goal

pub returns : goal.returns
returns c =
    answered_if c.answer_told.result (plays.when c.args.promise c.args.function (tree c.args.held)) (when_rule (world_of c.args.world.now) c.args.instance c.args.promise c.args.function (tree c.args.held)) c.told_when-told.result c.plan_when-row.result c.answer_told.ensures c.told_when-told.ensures c.plan_when-row.ensures

use Rattle.std.proofs.Common.{◌∙◌, sym}
use Rattle.world_effects.specs.host_world.Worlds.{world_of}
use Rattle.jessie_machine.specs.jessie_semantics.Play as plays
use Rattle.refusals.specs.host_data.View.{tree}
use Rattle.contract_powers.proofs.NameTests.{passed_call, stray_call}
use Rattle.contract_powers.proofs.admission.named_request.Goals as goal

pub returns-then-not-knows_request : goal.returns-then-not-knows_request
returns-then-not-knows_request c =
    stray_call (world_of c.args.world.now) c.args.instance c.requires.good c.requires.made (plays.when c.args.promise c.args.function (tree c.args.held)) (sym c.knows_request.ensures ∙ c.if-not-knows_request.true)

pub returns-in-Ok : goal.returns-in-Ok
returns-in-Ok c = record {
  known = passed_call (world_of c.args.world.now) c.args.instance c.requires.good c.requires.made (plays.when c.args.promise c.args.function (tree c.args.held)) (sym c.knows_request.ensures ∙ c.if-not-knows_request.false);
  answered = c.in-Ok.ensures;
}

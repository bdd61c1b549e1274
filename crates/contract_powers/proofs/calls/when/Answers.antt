use Rattle.world_effects.specs.host_world.Worlds.{world_of}
use Rattle.jessie_machine.specs.jessie_semantics.Play as plays
use Rattle.refusals.specs.host_data.View.{tree}
use Rattle.contract_powers.proofs.AdmittedCalls.{answered_so, can_carry}
use Rattle.contract_powers.proofs.calls.when.Goals as goal

pub carry-requires-clause-can : goal.carry-requires-clause-can
carry-requires-clause-can c = can_carry (world_of c.args.world.now) c.args.instance (plays.when c.args.promise c.args.function.now (tree c.args.held)) c.requires.turn.good c.requires.made c.in_ok-planned.planned c.in_ok-planned.ensures

pub returns-clause-answered : goal.returns-clause-answered
returns-clause-answered c = answered_so c.args.world.now c.carry.new.world c.args.instance (plays.when c.args.promise c.args.function.now (tree c.args.held)) c.in_ok-planned.planned c.carry.result c.requires.turn c.requires.made c.in_ok-planned.ensures c.carry.ensures.was

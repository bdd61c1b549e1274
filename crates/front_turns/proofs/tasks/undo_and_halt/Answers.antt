use Rattle.std.proofs.Common.{◌∙◌, refl, sym}
use Rattle.contract_powers.proofs.world_effects.JoinedStores.{back_on}
use Rattle.contract_powers.specs.host_world.Worlds.{world_at_start}
use Rattle.front_turns.proofs.TurnEffects.{halted_from, turn_begins}
use Rattle.front_turns.proofs.tasks.undo_and_halt.Goals as goal

pub halt_instance-requires-clause-turn : goal.halt_instance-requires-clause-turn
halt_instance-requires-clause-turn c =
    let is = c.begin_again-world.ensures in
    turn_begins c.begin_again-world.result (world_at_start c.args.world) is.now is.clean is.back.rights.goes c.requires.good c.requires.waits

pub returns-in-Ok-clause-done : goal.returns-in-Ok-clause-done
returns-in-Ok-clause-done c =
    λ old same. (refl, halted_from old c.begin_again-world.result c.halt_instance.new.world c.args.instance (c.begin_again-world.ensures.now ∙ sym same) c.in-Ok.ensures.ok)

pub returns-in-Ok-clause-back : goal.returns-in-Ok-clause-back
returns-in-Ok-clause-back c = back_on c.args.world c.begin_again-world.result c.halt_instance.new.world c.begin_again-world.ensures.back c.halt_instance.ensures.back

pub returns-in-Err-clause-back : goal.returns-in-Err-clause-back
returns-in-Err-clause-back c = back_on c.args.world c.begin_again-world.result c.halt_instance.new.world c.begin_again-world.ensures.back c.halt_instance.ensures.back

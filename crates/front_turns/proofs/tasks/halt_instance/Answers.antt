use Rattle.std.proofs.Common.{List, subst, sym}
use Rattle.contract_powers.specs.host_world.Worlds.{world_of}
use Rattle.contract_powers.specs.world_state.Good.{AreGood}
use Rattle.contract_powers.specs.world_state.Worlds.{Effect}
use Rattle.front_turns.proofs.TurnEffects.{halting_good}
use Rattle.front_turns.proofs.tasks.halt_instance.Goals as goal

pub carry_out-requires-clause-good : goal.carry_out-requires-clause-good
carry_out-requires-clause-good c =
    let w = world_of c.args.world.now in
    subst (λ (es : List Effect). AreGood w es) (sym c.in_ok-effects.ensures.effects) (halting_good w c.args.instance c.requires.made)

use Rattle.std.proofs.Common.{refl}
use Rattle.std.proofs.lemmas.Result.{on_ok_weaker}
use Rattle.register_effects.specs.host_world.Worlds.{world_now}
use Rattle.register_effects.specs.registers.Stores.{registers_now}
use Rattle.world_laws.specs.world_state.Worlds as worlds
use Rattle.world_laws.specs.world_state.Worlds.{after}
use Rattle.world_effects.proofs.JoinedStores.{joined}
use Rattle.world_effects.proofs.rights_effects.stage_shares.Goals as goal

pub returns-clause-ok : goal.returns-clause-ok
returns-clause-ok c =
    on_ok_weaker c.stage.result
    (λ has. record { now = joined c.stage.new.draft (registers_now c.args.world.now.registers) (after (world_now c.args.world.now) (worlds.stage c.args.seat c.args.shares)) has refl; clean = has.clean })
    c.stage.ensures.ok

use Rattle.std.proofs.Common.{refl}
use Rattle.register_effects.specs.host_world.Worlds.{world_now}
use Rattle.register_effects.specs.registers.Stores.{registers_now}
use Rattle.world_laws.specs.world_state.Worlds as worlds
use Rattle.world_laws.specs.world_state.Worlds.{after}
use Rattle.world_effects.proofs.JoinedStores.{joined}
use Rattle.world_effects.proofs.rights_effects.drop_all_staging.Goals as goal

pub returns-clause-ok : goal.returns-clause-ok
returns-clause-ok c = record {
  now = joined c.end_staging.new.draft (registers_now c.args.world.now.registers) (after (world_now c.args.world.now) worlds.end_staging) c.end_staging.ensures.now refl;
  clean = c.end_staging.ensures.now.clean;
}

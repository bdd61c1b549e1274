use Rattle.std.proofs.Common.{refl}
use Rattle.register_effects.specs.host_world.Worlds.{world_now}
use Rattle.register_effects.specs.registers.Stores.{registers_now}
use Rattle.world_effects.proofs.Facts.{brand_kind, brand_out}
use Rattle.world_effects.proofs.JoinedStores.{purse_joined}
use Rattle.world_effects.proofs.rights_effects.new_purse.Goals as goal

pub open_purse-requires-clause-made : goal.open_purse-requires-clause-made
open_purse-requires-clause-made c = brand_out _ _ _ c.args.brand c.requires.turn.good.brands c.requires.can.made

pub open_purse-requires-clause-kind : goal.open_purse-requires-clause-kind
open_purse-requires-clause-kind c = brand_kind _ _ _ c.args.brand c.kind-kind.result c.requires.turn.good.brands c.kind-kind.ensures

pub returns-in-Ok-clause-ok : goal.returns-in-Ok-clause-ok
returns-in-Ok-clause-ok c = record {
  now = purse_joined c.open_purse.new.draft (registers_now c.args.world.now.registers) (world_now c.args.world.now) c.args.brand c.kind-kind.result c.kind-kind.ensures c.in-Ok.ensures.ok refl;
  clean = c.in-Ok.ensures.ok.clean;
}

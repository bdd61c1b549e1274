use Rattle.std.proofs.Common.{refl}
use Rattle.register_effects.specs.host_world.Worlds.{world_now}
use Rattle.register_effects.specs.registers.Stores.{registers_now}
use Rattle.world_effects.proofs.Facts.{brand_kind, brand_out}
use Rattle.world_effects.proofs.JoinedStores.{payment_joined}
use Rattle.world_effects.proofs.rights_effects.new_payment.Goals as goal

pub empty_payment-requires-clause-made : goal.empty_payment-requires-clause-made
empty_payment-requires-clause-made c = brand_out _ _ _ c.args.brand c.requires.turn.good.brands c.requires.can.made

pub empty_payment-requires-clause-kind : goal.empty_payment-requires-clause-kind
empty_payment-requires-clause-kind c = brand_kind _ _ _ c.args.brand c.kind-kind.result c.requires.turn.good.brands c.kind-kind.ensures

pub returns-in-Ok-clause-ok : goal.returns-in-Ok-clause-ok
returns-in-Ok-clause-ok c = record {
  now = payment_joined c.empty_payment.new.draft (registers_now c.args.world.now.registers) (world_now c.args.world.now) c.args.brand c.kind-kind.result c.kind-kind.ensures c.in-Ok.ensures.ok refl;
  clean = c.in-Ok.ensures.ok.clean;
}

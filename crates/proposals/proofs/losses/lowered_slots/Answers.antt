use Rattle.std.proofs.Common.{sym, subst}
use Rattle.proposals.specs.Losses.{CanLower}
use Rattle.proposals.proofs.losses.lowered_slots.Goals as goal

pub lowered-requires : goal.lowered-requires
lowered-requires c = subst (CanLower c.args.shares.now) (sym c.slot-item.is) (c.requires c.loop-slot.slot-index c.slot-item.result c.loop-slot-test.true)

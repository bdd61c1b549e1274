use Rattle.std.proofs.Common.{sym, subst}
use Rattle.proposals.specs.Gains.{CanRaise}
use Rattle.proposals.proofs.gains.raised_slots.Goals as goal

pub raised-requires : goal.raised-requires
raised-requires c = subst (CanRaise c.args.gains.now) (sym c.slot-item.is) (c.requires c.loop-slot.slot-index c.slot-item.result c.loop-slot-test.true)

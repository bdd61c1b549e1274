use Rattle.std.proofs.Common.{refl, sym, subst}
use Rattle.call_arguments.proofs.proposals.Apart.{AreApart-map}
use Rattle.call_arguments.proofs.proposals.Sums.{can_lower}
use Rattle.call_arguments.specs.proposals.Losses.{lowered}
use Rattle.rearrange.proofs.Slots.{taken_if}
use Rattle.call_arguments.specs.proposals.Shares.{AreApart}
use Rattle.share_transfers.proofs.slots.slots_less.Goals as goal

pub lowered_slots-requires : goal.lowered_slots-requires
lowered_slots-requires c = can_lower c.args.slots.now c.args.losses.now c.requires.apart c.requires.meet (taken_if c.args.slots.now c.args.losses.now c.in_ok-check_losses.ensures)

pub returns-clause-apart : goal.returns-clause-apart
returns-clause-apart c = subst AreApart (sym c.in_ok-lowered_slots.ensures) (AreApart-map (lowered c.args.losses.now) (λ r. refl) c.args.slots.now c.requires.apart)

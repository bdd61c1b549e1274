use Rattle.rules.proofs.proposals.Sums.{can_lower}
use Rattle.rules.proofs.rearrange.Slots.{taken_if}
use Rattle.contract_reads.proofs.Lessened.{apart_after}
use Rattle.contract_reads.proofs.seat_changes.losses.slots_less.Goals as goal

pub lowered_slots-requires : goal.lowered_slots-requires
lowered_slots-requires c = can_lower c.args.slots.now c.args.shares.now c.requires.apart c.requires.fit.meet (taken_if c.args.slots.now c.args.shares.now c.requires.taken)

pub returns-clause-apart : goal.returns-clause-apart
returns-clause-apart c = apart_after c.args.slots.now c.args.shares.now _ c.in_ok-after.after.items c.in_ok-open_further.ensures.ok c.in_ok-after.ensures c.requires.apart c.requires.fit

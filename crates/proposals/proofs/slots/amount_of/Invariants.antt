use Rattle.std.proofs.Common.{◌≡◌, drop}
use Rattle.proposals.specs.Shares.{amount_under}
use Rattle.proposals.proofs.slots.amount_of.Given as goal

abbrev pub invariant-loop-slot : goal.invariant-loop-slot
invariant-loop-slot l = amount_under l.keyword (drop l.slot-index l.slots) ≡ amount_under l.keyword l.slots

use Rattle.std.proofs.Common.{◌≡◌, ◌+◌, ◌≤◌, drop}
use Rattle.rule_laws.proofs.SlotLists.{fresh_in}
use Rattle.contract_reads.proofs.seat_changes.counts.fresh_slots.Given as goal

abbrev pub invariant-loop-share : goal.invariant-loop-share
invariant-loop-share l = record {
  many : l.fresh + fresh_in l.slots (drop l.share-index l.shares) ≡ fresh_in l.slots l.shares;
  few : l.fresh ≤ l.share-index;
}

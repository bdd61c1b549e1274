use Rattle.std.proofs.Common.{◌≡◌, ◌++◌, length}
use Rattle.std.specs.Vec.Iter.{into_iter_items, into_iter_len}
use Rattle.proposals.proofs.allocations.Allocation.from_shares.Given as goal

abbrev pub invariant-loop-share : goal.invariant-loop-share
invariant-loop-share l = record {
  can : (goal.iterator-loop-share).can_next l.share-iterator;
  finite : (goal.iterator-loop-share).is_finite l.share-iterator;
  whole : l.made ++ into_iter_items l.share-iterator ≡ l.fn.shares.items;
  left : into_iter_len l.share-iterator ≡ length (into_iter_items l.share-iterator);
}

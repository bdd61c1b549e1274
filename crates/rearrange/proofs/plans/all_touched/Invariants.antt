use Rattle.std.proofs.Common.{◌≡◌, ◌≤◌, ◌++◌, All, length}
use Rattle.std.specs.Vec.Iter.{into_iter_items, into_iter_len}
use Rattle.proposals.specs.Shares.{AreApart, most_shares}
use Rattle.rearrange.specs.Sums as sums
use Rattle.rearrange.proofs.plans.all_touched.Given as goal

abbrev pub invariant-loop-seat : goal.invariant-loop-seat
invariant-loop-seat l = record {
  can : (goal.iterator-loop-seat).can_next l.seat-iterator;
  finite : (goal.iterator-loop-seat).is_finite l.seat-iterator;
  whole : l.all.items ++ sums.all_touched l.states (into_iter_items l.seat-iterator) ≡ sums.all_touched l.states l.fn.list.items;
  few : All (λ t. length t.after ≤ most_shares) l.all.items;
  apart : All (λ s. AreApart s.shares.items) (into_iter_items l.seat-iterator);
  left : into_iter_len l.seat-iterator ≡ length (into_iter_items l.seat-iterator);
}

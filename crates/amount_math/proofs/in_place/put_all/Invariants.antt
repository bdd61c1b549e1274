use Rattle.std.proofs.Common.{◌≡◌, vec_len}
use Rattle.std.specs.Vec.{vec_capacity}
use Rattle.amount_math.specs.Content.{of_entries, sum}
use Rattle.amount_math.specs.Entries.{AreEntries}
use Rattle.amount_math.proofs.in_place.put_all.Given as goal

abbrev pub invariant-loop-entry : goal.invariant-loop-entry
invariant-loop-entry l = record {
  entries : AreEntries l.entries.items;
  more : AreEntries l.more.items;
  same : sum (of_entries l.entries.items) (of_entries l.more.items) ≡ sum (of_entries l.fn.entries.items) (of_entries l.initial.more.items);
  capacity : vec_capacity l.entries ≡ vec_capacity l.fn.entries;
}

abbrev pub decreases-loop-entry : goal.decreases-loop-entry
decreases-loop-entry l = vec_len l.more

use Rattle.std.proofs.Common.{◌≡◌, ◌+◌, ℕ, List, take}
use Rattle.std.specs.List.{All}
use Rattle.amount_math.specs.Entries.{IsLowered, IsRising, tally}
use Rattle.amount_math.proofs.merges.lower_all.Given as goal

abbrev pub invariant-loop-entry : goal.invariant-loop-entry
invariant-loop-entry l = record {
  rising : IsRising l.entries;
  lowered : All IsLowered l.entries;
  same : (k : List ℕ) → tally l.entries k + tally (take l.entry-index l.part) k ≡ tally l.fn.entries k;
}

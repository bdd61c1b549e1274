use Rattle.std.proofs.Common.{ℕ, ◌<◌, ◌≤◌}
use Rattle.amount_math.specs.Entries.{entry_at, tally}
use Rattle.amount_math.proofs.entries.contains.Given as goal

abbrev pub invariant-loop-entry : goal.invariant-loop-entry
invariant-loop-entry l = (j : ℕ) → j < l.entry-index → (entry_at l.part j).1 ≤ tally l.entries (entry_at l.part j).0

use Rattle.std.proofs.Common.{ℕ, ◌<◌, ◌≤◌, ◌+◌}
use Rattle.amount_math.specs.Entries.{entry_at, tally}
use Rattle.amount_math.proofs.entries.first_past.Given as goal

abbrev pub invariant-loop-i : goal.invariant-loop-i
invariant-loop-i l = (j : ℕ) → j < l.i → tally l.entries (entry_at l.more j).0 + (entry_at l.more j).1 ≤ l.most

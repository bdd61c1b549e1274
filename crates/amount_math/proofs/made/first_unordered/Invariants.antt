use Rattle.std.proofs.Common.{◌≡◌, ◌+◌, ◌<◌, ℕ}
use Rattle.std.specs.declared.cmp.Ordering.TheVariants.{Less}
use Rattle.amount_math.specs.Content.{key_cmp}
use Rattle.amount_math.specs.Entries.{entry_at}
use Rattle.amount_math.proofs.made.first_unordered.Given as goal

abbrev pub invariant-loop-i : goal.invariant-loop-i
invariant-loop-i l = (j : ℕ) → j + 1 < l.i → key_cmp (entry_at l.entries j).0 (entry_at l.entries (j + 1)).0 ≡ Less

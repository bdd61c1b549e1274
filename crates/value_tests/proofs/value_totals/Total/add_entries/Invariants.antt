use Rattle.std.proofs.Common.{◌≡◌, ◌+◌, ℕ, List, drop}
use Rattle.refusals.specs.amount_math.Content.{count}
use Rattle.refusals.specs.amount_math.Entries.{tally}
use Rattle.value_tests.proofs.value_totals.Total.add_entries.Given as goal

abbrev pub invariant-loop-entry : goal.invariant-loop-entry
invariant-loop-entry l = (k : List ℕ) → count l.self k + tally (drop l.entry-index l.entries) k ≡ count l.initial.self k + tally l.entries k

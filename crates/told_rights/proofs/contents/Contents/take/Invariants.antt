use Rattle.std.proofs.Common.{◌≡◌, ◌-◌, ℕ, List, drop}
use Rattle.row_records.specs.Views.{value_view}
use Rattle.row_records.specs.amount_math.Content.{count}
use Rattle.row_records.specs.amount_math.Entries.{tally}
use Rattle.told_rights.specs.Listing.{entries_of}
use Rattle.told_rights.proofs.contents.Contents.take.Given as goal

abbrev pub invariant-loop-index : goal.invariant-loop-index
invariant-loop-index l = (k : List ℕ) → count l.self k - tally (drop l.index (entries_of (value_view l.value))) k ≡ count l.fn.self k - tally (entries_of (value_view l.value)) k

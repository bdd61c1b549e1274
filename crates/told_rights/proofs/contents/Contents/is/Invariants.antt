use Rattle.std.proofs.Common.{ℕ, ◌<◌, ◌≡◌}
use Rattle.row_records.specs.Views.{value_view}
use Rattle.row_records.specs.amount_math.Content.{count}
use Rattle.row_records.specs.amount_math.Entries.{entry_at}
use Rattle.told_rights.specs.Listing.{entries_of}
use Rattle.told_rights.proofs.contents.Contents.is.Given as goal

abbrev pub invariant-loop-index : goal.invariant-loop-index
invariant-loop-index l = (j : ℕ) → j < l.index → count l.self (entry_at (entries_of (value_view l.value)) j).0 ≡ (entry_at (entries_of (value_view l.value)) j).1

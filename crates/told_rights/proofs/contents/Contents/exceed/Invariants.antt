use Rattle.std.proofs.Common.{◌≡◌, ◌≢◌, ◌⊎◌, ◌-◌, ℕ, List, None, drop}
use Rattle.std.specs.FinMap.{find}
use Rattle.row_records.specs.Views.{value_view}
use Rattle.row_records.specs.amount_math.Content.{Content, count, key_cmp}
use Rattle.row_records.specs.amount_math.Entries.{Entries}
use Rattle.told_rights.specs.Listing.{entries_of}
use Rattle.told_rights.proofs.contents.Contents.exceed.Given as goal

-- the elements before the index have their excess, and those that aren't listed are as they were
pub record AreExceeded (es : Entries) (i most : ℕ) (others before now : Content) : Type 0 where
  pub listed : (k : List ℕ) → find key_cmp k es ≢ None → (count now k ≡ count others k - most) ⊎ (find key_cmp k (drop i es) ≢ None)
  pub rest : (k : List ℕ) → find key_cmp k es ≡ None → count now k ≡ count before k

abbrev pub invariant-loop-index : goal.invariant-loop-index
invariant-loop-index l = AreExceeded (entries_of (value_view l.value)) l.index l.most l.others l.fn.self l.self

-- Elements with their counts: as a value lists them, and as a map from texts does.
use Rattle.std.specs.Prelude.{◌≢◌, ℕ, zero, suc, List, [], ◌∷◌, Some, map, String, string_bytes}
use Rattle.std.specs.FinMap.{find}
use Rattle.std.specs.declared.alloc.Global.{Global}
use Rattle.row_records.specs.amount_math.Content.{key_cmp}
use Rattle.row_records.specs.amount_math.Entries.{Entries}
use Rattle.row_records.specs.fair_rows.Values.{entry_of}
use Rattle.row_records.specs.turn_rows.Turns.{Value, number, elements}

-- the elements that a value lists, in byte order; of a number its units, if there are some
abbrev pub entries_of : Value → Entries
entries_of (number zero) = []
entries_of (number (suc n)) = ([], suc n) ∷ []
entries_of (elements es) = map entry_of es

-- the elements as their bytes
abbrev pub listing : List (String Global × ℕ) → Entries
listing es = map (λ e. (string_bytes e.0, e.1)) es

-- of each element that is listed there are some
pub record AreSome (es : List (String Global × ℕ)) : Type 0 where
  pub some : (k : List ℕ) → find key_cmp k (listing es) ≢ Some 0

-- How a total is kept: its elements with their counts, as a map lists them.
use Rattle.std.specs.Prelude.{◌≡◌, ℕ, ◌<◌, ◌^◌, List, map}
use Rattle.std.specs.Borrow.{Bor}
use Rattle.refusals.specs.amount_math.Content.{count, entries, of_entries}
use Rattle.refusals.specs.amount_math.Entries.{Entries}

-- the elements as their bytes
abbrev pub listing : List (Bor (List ℕ) × ℕ) → Entries
listing es = map (λ e. (e.0.now, e.1)) es

-- so many with one count more are still a sum that is kept whole
abbrev pub most_added : ℕ
most_added = 2 ^ 191

-- what is listed is what the content has, and to each count one more can be added
pub record IsTotal (es : List (Bor (List ℕ) × ℕ)) : Type 0 where
  pub listed : entries (of_entries (listing es)) ≡ listing es
  pub small : (k : List ℕ) → count (of_entries (listing es)) k < most_added

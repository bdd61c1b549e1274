-- Keys with their counts, in byte order of the keys: what stands in a set or a bag.
use Rattle.std.specs.Prelude.{◌≡◌, ℕ, ◌<◌, ◌≤◌, ◌^◌, ◌-◌, cond, Option, Some, None, List, [], ◌∷◌, ◌++◌, length, slice_index_or}
use lib.Dec.{T}
use Rattle.std.specs.Global.{Vec}
use Rattle.std.specs.Vec.{vec_capacity}
use Rattle.std.specs.FinMap.{is_sorted}
use Rattle.std.specs.List.{All}
use Rattle.std.specs.Ordering.{eq_by_cmp}
use Rattle.std.specs.declared.cmp.Ordering.TheVariants.{Less}
use Rattle.amount_math.specs.Content.{key_cmp}
use Rattle.amount_math.specs.Totals.{weighed}

abbrev pub Entries : Type 0
Entries = List (List ℕ × ℕ)

-- the highest count of a key
abbrev pub most_of_key : ℕ
most_of_key = 2 ^ 63 - 1

-- a key has 1 to 64 bytes
pub record IsKey (k : List ℕ) : Type 0 where
  pub filled : 0 < length k
  pub short : length k ≤ 64

-- a key with a count, from 1 to the highest
pub record IsEntry (e : List ℕ × ℕ) : Type 0 where
  pub key : IsKey e.0
  pub some : 0 < e.1
  pub bounded : e.1 ≤ most_of_key

-- each key is before the next one, in byte order
abbrev pub IsRising : Entries → Type 0
IsRising es = T (is_sorted key_cmp es)

pub record AreEntries (es : Entries) : Type 0 where
  pub rising : IsRising es
  pub each : All IsEntry es

abbrev pub entry_at : Entries → ℕ → List ℕ × ℕ
entry_at es i = slice_index_or es i ([], 0)

-- a key, once
abbrev pub as_one : List ℕ → List ℕ × ℕ
as_one k = (k, 1)

abbrev pub at_key : List ℕ → List ℕ → ℕ → ℕ
at_key k q n = cond (eq_by_cmp key_cmp k q) n 0

-- how many of an element all the entries have together
abbrev pub tally : Entries → List ℕ → ℕ
tally es k = weighed (at_key k) es

-- a key with a count that passed no test of the bound yet
pub record IsRaised (e : List ℕ × ℕ) : Type 0 where
  pub key : IsKey e.0
  pub some : 0 < e.1

-- a key with a count that may be 0
pub record IsLowered (e : List ℕ × ℕ) : Type 0 where
  pub key : IsKey e.0
  pub bounded : e.1 ≤ most_of_key

-- entries were taken out of two lists, the highest key first: what is left of each rises up to them
pub record ArePoured (ls rs poured : Entries) : Type 0 where
  pub left : IsRising (ls ++ poured)
  pub right : IsRising (rs ++ poured)

-- an entry was taken out of two lists before those that were taken already
abbrev pub IsNextPoured : Entries → Entries → Entries → Entries → List ℕ × ℕ → Type 0
IsNextPoured ls rs ls_after rs_after e = (poured : Entries) → ArePoured ls rs poured → ArePoured ls_after rs_after (e ∷ poured)

-- a key has its place at an index: what stands before it is before it in byte order, and what stands there or later is after it
pub record IsGap (es : Entries) (k : List ℕ) (i : ℕ) : Type 0 where
  pub within : i ≤ length es
  pub before : (j : ℕ) → j < i → key_cmp (entry_at es j).0 k ≡ Less
  pub after : (j : ℕ) → i ≤ j → j < length es → key_cmp k (entry_at es j).0 ≡ Less

-- the entries of what may be a Vec of them
abbrev pub listing : Option (Vec (List ℕ × ℕ)) → Entries
listing None = []
listing (Some v) = v.items

-- how many entries it has room for
abbrev pub room_of : Option (Vec (List ℕ × ℕ)) → ℕ
room_of None = 0
room_of (Some v) = vec_capacity v

-- Of each key: how many are out of a brand, and how many were retired and may come out again without memory.
use Rattle.std.specs.Prelude.{◌≡◌, ℕ, ◌+◌, ◌-◌, ◌≤◌, ◌^◌, List, [], ◌∷◌, unwrap_or, string_bytes, refl}
use Rattle.std.specs.Coded.{Coded, code_by, coded×}
use Rattle.std.specs.Prelude.{String}
use Rattle.std.specs.Global.{Global}
use Rattle.std.specs.Map.{lookup}
use Rattle.std.specs.BTreeMap.{is_at}
use Rattle.amount_math.specs.Content.{Content, coded_content, count, difference, key_cmp, nothing, of_entries, sum}
use Rattle.amount_math.specs.Entries.{Entries, at_key, entry_at, tally}
use Rattle.ertp_mint.specs.declared.place.Change.{Change}
use Rattle.ertp_mint.specs.declared.place.Change.TheVariants.{Issue, UndoIssue, Retire, UndoRetire, Forget}
use Rattle.ertp_mint.specs.declared.place.Place.{Place}

-- of all keys together
pub record OutAndKept : Type 0 where
  pub out : Content
  pub kept : Content

-- the numbers that stand for it, which a model needs
abbrev pub coded_out_and_kept : Coded OutAndKept
coded_out_and_kept = code_by (Content × Content) (coded× coded_content coded_content) (λ s. (s.out, s.kept)) (λ p. record { out = p.0; kept = p.1 }) (λ _. refl)

abbrev pub nothing_out : OutAndKept
nothing_out = record { out = nothing; kept = nothing }

-- the place of a key of which there is nothing
abbrev pub no_place : Place
no_place = record { out = 0; kept = 0 }

-- a key's counts
abbrev pub place_of : OutAndKept → List ℕ → Place
place_of s k = record { out = count s.out k; kept = count s.kept k }

-- ---- what a change makes

-- of one key
abbrev pub changed : Change → ℕ → Place → Place
changed Issue n p = record { out = p.out + n; kept = p.kept }
changed UndoIssue n p = record { out = p.out - n; kept = p.kept }
changed Retire n p = record { out = p.out - n; kept = p.kept + n }
changed UndoRetire n p = record { out = p.out + n; kept = p.kept - n }
changed Forget n p = record { out = p.out; kept = p.kept - n }

-- of all keys
abbrev pub with_change : Change → Content → OutAndKept → OutAndKept
with_change Issue c s = record { out = sum s.out c; kept = s.kept }
with_change UndoIssue c s = record { out = difference s.out c; kept = s.kept }
with_change Retire c s = record { out = difference s.out c; kept = sum s.kept c }
with_change UndoRetire c s = record { out = sum s.out c; kept = difference s.kept c }
with_change Forget c s = record { out = s.out; kept = difference s.kept c }

-- the highest count that a place can have
abbrev pub most_placed : ℕ
most_placed = 2 ^ 128 - 1

-- so many are there to be taken away, and what they are added to has room for them
abbrev pub Allows : Change → ℕ → Place → Type 0
Allows Issue n p = p.out + n ≤ most_placed
Allows UndoIssue n p = n ≤ p.out
Allows Retire n p = (n ≤ p.out) × (p.kept + n ≤ most_placed)
Allows UndoRetire n p = (n ≤ p.kept) × (p.out + n ≤ most_placed)
Allows Forget n p = n ≤ p.kept

-- and so of each key
abbrev pub AllowsAll : Change → Content → OutAndKept → Type 0
AllowsAll change c s = (k : List ℕ) → Allows change (count c k) (place_of s k)

-- ---- how they are kept: a place for each key that has a count, in a map by the key's text

abbrev pub Placed : Type 0
Placed = List (String Global × Place)

abbrev pub counts_by : (Place → ℕ) → Placed → Entries
counts_by f [] = []
counts_by f (e ∷ es) = (string_bytes e.0, f e.1) ∷ counts_by f es

abbrev pub seen : Placed → OutAndKept
seen es = record { out = of_entries (counts_by (λ p. p.out) es); kept = of_entries (counts_by (λ p. p.kept) es) }

-- the place of a key, or that of a key of which there is nothing
abbrev pub place_in : Placed → List ℕ → Place
place_in es k = unwrap_or (lookup (is_at (λ s. key_cmp k (string_bytes s))) es) no_place

-- how many of an entry's key there would be with what is out
abbrev pub together : Placed → Entries → ℕ → ℕ
together es ms j = (place_in es (entry_at ms j).0).out + (entry_at ms j).1

-- the places of all keys have what they had
abbrev pub AreSame : Placed → Placed → Type 0
AreSame before after = (k : List ℕ) → place_in after k ≡ place_in before k

-- so many of one key are changed, and no other
abbrev pub IsChanged : Change → List ℕ → ℕ → Placed → Placed → Type 0
IsChanged change key n before after = (k : List ℕ) → place_in after k ≡ changed change (at_key k key n) (place_in before k)

-- all the entries may be changed, and are
abbrev pub AllowsEach : Change → Entries → Placed → Type 0
AllowsEach change es before = (k : List ℕ) → Allows change (tally es k) (place_in before k)

abbrev pub AreChanged : Change → Entries → Placed → Placed → Type 0
AreChanged change es before after = (k : List ℕ) → place_in after k ≡ changed change (tally es k) (place_in before k)

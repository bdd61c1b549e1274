-- Runs of numbers, each from its first to its last, and which numbers are in one.
use Rattle.std.specs.Prelude.{◌≡◌, ◌≢◌, ℕ, ◌+◌, ◌<◌, ◌≤◌, ◌^◌, ◌&&◌, Bool, List, Some, leb}
use Rattle.std.specs.BTreeMap.{is_at}
use Rattle.std.specs.List.{list_any}
use Rattle.std.specs.List.Sorted.{IsStrictlySortedBy}
use Rattle.std.specs.Map.{keys_of, lookup}
use Rattle.std.specs.Ordering.{nat_cmp}

abbrev pub Runs : Type 0
Runs = List (ℕ × ℕ)

abbrev pub is_between : ℕ → ℕ × ℕ → Bool
is_between n run = leb run.0 n && leb n run.1

-- the number is in one of the runs
abbrev pub has_number : Runs → ℕ → Bool
has_number runs n = list_any (is_between n) runs

-- a run goes from that number to that one
abbrev pub IsRun : Runs → ℕ → ℕ → Type 0
IsRun runs first last = lookup (is_at (nat_cmp first)) runs ≡ Some last

-- they stand in order, none ends before it begins, and between one and the next is a number
pub record AreApart (runs : Runs) : Type 0 where
  pub sorted : IsStrictlySortedBy nat_cmp (keys_of runs)
  pub small : (first last : ℕ) → IsRun runs first last → last < 2 ^ 32
  pub forward : (first last : ℕ) → IsRun runs first last → first ≤ last
  pub apart : (first last next end : ℕ) → IsRun runs first last → IsRun runs next end → first < next → last + 1 < next

-- that run begins at the number or before it, and no other that does begins after it
pub record IsLastBefore (runs : Runs) (n : ℕ) (run : ℕ × ℕ) : Type 0 where
  pub is : IsRun runs run.0 run.1
  pub before : run.0 ≤ n
  pub last : (first last : ℕ) → IsRun runs first last → first ≤ n → first ≤ run.0

-- with the number, a run begins there: at the number itself, or where the run begins that ends just before it
pub record IsStart (runs : Runs) (n start : ℕ) : Type 0 where
  pub within : start ≤ n
  pub joined : start < n → (last : ℕ) × IsRun runs start last × (last + 1 ≡ n)
  pub alone : start ≡ n → (first last : ℕ) → IsRun runs first last → last + 1 ≢ n

-- with the number, a run ends there: at the number itself, or where the run ends that begins just behind it
pub record IsEnd (runs : Runs) (n end : ℕ) : Type 0 where
  pub within : n ≤ end
  pub joined : n < end → IsRun runs (n + 1) end
  pub alone : end ≡ n → (last : ℕ) → ¬ IsRun runs (n + 1) last

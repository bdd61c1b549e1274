-- What seats have together before a change and after it, of each brand and element (Zoe's conservation of rights, element by element).
use Rattle.std.specs.Prelude.{◌≡◌, ◌≢◌, ℕ, ◌≤◌, ◌==◌, List, map, sum_by, if◌then◌else◌}
use Rattle.std.specs.declared.cmp.Ordering.TheVariants.{Less}
use Rattle.refusals.specs.amount_math.Content.{count, key_cmp}
use Rattle.proposals.specs.declared.allocations.Share.{Share}
use Rattle.proposals.specs.declared.plans.Touched.{Touched}
use Rattle.proposals.specs.declared.plans.SeatState.{SeatState}
use Rattle.rearrange.specs.Seats.{allocation_of}
use Rattle.rearrange.specs.declared.sums.SeatShares.{SeatShares}
use Rattle.rearrange.specs.declared.sums.Unkept.{Unkept}

-- how many of an element of a brand a share has
abbrev pub share_count : ℕ → List ℕ → Share → ℕ
share_count brand element r = if r.amount.brand == brand then count r.amount.value.content element else 0

abbrev pub shares_count : ℕ → List ℕ → List Share → ℕ
shares_count brand element shares = sum_by (share_count brand element) shares

-- how many the touched seats have together
abbrev pub count_before : ℕ → List ℕ → List Touched → ℕ
count_before brand element touched = sum_by (λ t. shares_count brand element t.before) touched

abbrev pub count_after : ℕ → List ℕ → List Touched → ℕ
count_after brand element touched = sum_by (λ t. shares_count brand element t.after) touched

-- a seat with what it had by its state, and what it has while a change is worked
abbrev pub touched_of : List SeatState → SeatShares → Touched
touched_of states s = record { seat = s.seat; before = allocation_of states s.seat; after = s.shares.items }

abbrev pub all_touched : List SeatState → List SeatShares → List Touched
all_touched states list = map (touched_of states) list

-- of each element of each brand they have as many after as before
pub record AreConserved (touched : List Touched) : Type 0 where
  pub each : (brand : ℕ) (element : List ℕ) → count_before brand element touched ≡ count_after brand element touched

-- the least brand, and of its elements the first in byte order, of which they have not as many, with both counts
pub record IsFirstUnkept (touched : List Touched) (u : Unkept) : Type 0 where
  pub before : u.before ≡ count_before u.brand u.element touched
  pub after : u.after ≡ count_after u.brand u.element touched
  pub differ : u.before ≢ u.after
  pub least : (brand : ℕ) (element : List ℕ) → count_before brand element touched ≢ count_after brand element touched → u.brand ≤ brand
  pub first : (element : List ℕ) → count_before u.brand element touched ≢ count_after u.brand element touched → key_cmp element u.element ≢ Less

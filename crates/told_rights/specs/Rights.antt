-- What is kept of rights, and that it tells what the rows so far tell.
use Rattle.std.specs.Prelude.{◌≡◌, ◌≢◌, ◌≤◌, ◌<◌, ◌^◌, ◌+◌, ◌==◌, ◌&&◌, ℕ, true, false, List, ◌++◌, map, if◌then◌else◌}
use Rattle.std.specs.List.{AllByRecursion, list_any}
use Rattle.escrow.specs.Running.{portion}
use Rattle.row_records.specs.amount_math.Content.{Contains, Content, count, difference, nothing, sum}
use Rattle.row_records.specs.amount_math.Counted.{counted as size}
use Rattle.row_records.specs.amount_math.ValueView.{minted_bound}
use Rattle.row_records.specs.amount_math.declared.Kind.{Kind}
use Rattle.row_records.specs.fair_rows.Movements.{is_payment_at, movements_in, names, takes_from}
use Rattle.row_records.specs.fair_rows.Rows.{InTurn, IsFairMove}
use Rattle.row_records.specs.fair_rows.SoFar.{SoFar, sum_so_far, with_row}
use Rattle.row_records.specs.fair_rows.Values.{HaveKinds, IsValueOf, Named, content_of}
use Rattle.row_records.specs.rights_model.Supply.{is_outside, minted, supply}
use Rattle.row_records.specs.rights_model.Table.{CanMoveAll, Table, holds, no_holdings, table_after, taken}
use Rattle.row_records.specs.rights_model.Totals.{brands_of}
use Rattle.row_records.specs.rights_model.declared.Holder.TheVariants.{Outside, Payment}
use Rattle.row_records.specs.turn_rows.Turns.{Event, KeywordAmount, Move, called, exited, moved, settled}
use Rattle.told_rights.specs.BrandKinds.{Allows, Suits, seen_at}
use Rattle.told_rights.specs.Runs.{has_number}
use Rattle.told_rights.specs.Sums.{sum_at}
use Rattle.told_rights.specs.Supplies.{IsBounded, Supply, out_of}
use Rattle.told_rights.specs.declared.brand_kinds.BrandKinds.{BrandKinds}
use Rattle.told_rights.specs.declared.payments.Payments.{Payments}
use Rattle.told_rights.specs.declared.rights.Rights.{Rights}
use Rattle.told_rights.specs.declared.sums.Sums.{Sums}

-- ---- what is asked of rows

-- the movement can be made, whatever it is for, and its value is of its brand's kind
abbrev pub MayMove : InTurn → Move → Type 0
MayMove i m = IsFairMove i m × HaveKinds (with_row i.now (moved m)).amounts

-- a payment that the turn takes from is empty
abbrev pub AreEmptied : InTurn → Type 0
AreEmptied i = (p b : ℕ) → takes_from p (movements_in i.here) ≡ true → holds i.now.table (Payment p) b ≡ nothing

-- the amounts as movements and open rows name them
abbrev pub named_amounts : List KeywordAmount → List Named
named_amounts amounts = map (λ (a : KeywordAmount). (a.brand, a.value)) amounts

-- ---- what holds of the rows alone

-- the turn's movements stand behind those before it; each was defined in its turn, they made the table, and of no brand
-- more was minted than may be
pub record IsOfRows (i : InTurn) : Type 0 where
  pub all : i.now.moves ≡ i.before.moves ++ movements_in i.here
  pub table : i.now.table ≡ table_after no_holdings i.now.moves
  pub defined : CanMoveAll no_holdings i.now.moves
  pub minted : (b : ℕ) → size (minted i.now.moves b) ≤ minted_bound

-- of all that was told, rights are the same
pub record HaveSameRights (s t : SoFar) : Type 0 where
  pub table : t.table ≡ s.table
  pub moves : t.moves ≡ s.moves
  pub amounts : t.amounts ≡ s.amounts

-- ---- what is kept

-- the values of the brand are of the kind
abbrev pub AreOfKind : ℕ → Kind → List Named → Type 0
AreOfKind b kind amounts = AllByRecursion (λ (a : Named). a.0 ≡ b → IsValueOf kind a.1) amounts

-- the kinds that are allowed of a brand are those of which its values are
pub record TellsKinds (k : BrandKinds) (amounts : List Named) : Type 0 where
  pub allowed : (b : ℕ) (kind : Kind) → Allows (seen_at k b) kind → AreOfKind b kind amounts
  pub only : (b : ℕ) (kind : Kind) → AreOfKind b kind amounts → Allows (seen_at k b) kind

-- what is out of each brand is its supply, and what is over goes by each kind that is allowed
pub record TellsSupplies (k : Supply) (kinds : BrandKinds) (s : SoFar) : Type 0 where
  pub out : (b : ℕ) → out_of k b ≡ supply s.moves b
  pub bounded : (b : ℕ) (kind : Kind) → Allows (seen_at kinds b) kind → IsBounded b kind k

-- the totals of each brand, and the brands that this turn has moved
pub record TellsSums (k : Sums) (i : InTurn) : Type 0 where
  pub totals : (b : ℕ) → sum_at k.totals.entries b ≡ sum_so_far i.now b
  pub brands : k.brands.items ≡ brands_of (movements_in i.here)

-- the payments that any movement names, those that turns before took from, and those that this turn took from
pub record TellsPayments (k : Payments) (i : InTurn) : Type 0 where
  pub named : (p : ℕ) → has_number k.named p ≡ names p i.now.moves
  pub spent : (p : ℕ) → has_number k.spent p ≡ takes_from p i.before.moves
  pub taken : (p : ℕ) → list_any (λ n. n == p) k.taken.items ≡ takes_from p (movements_in i.here)

pub record TellsRights (k : Rights) (i : InTurn) : Type 0 where
  pub rows : IsOfRows i
  pub edition : k.supplies.edition ≡ k.edition
  pub places : k.places ≡ i.now.table
  pub kinds : TellsKinds k.kinds i.now.amounts
  pub supplies : TellsSupplies k.supplies k.kinds i.now
  pub sums : TellsSums k.sums i
  pub payments : TellsPayments k.payments i

-- rows that move nothing and open no seat
abbrev pub LeavesRights : Event → Type 0
LeavesRights (called c) = Unit {0}
LeavesRights (exited x) = Unit {0}
LeavesRights (settled promise s) = Unit {0}
LeavesRights _ = ⊥

-- ---- what is tested of a movement

-- no more of its brand is minted with it than may be
abbrev pub IsMintable : Rights → Move → Type 0
IsMintable k m = (sum_at k.sums.totals.entries m.brand).minted + portion is_outside m.from (size (content_of m.value)) ≤ minted_bound

-- its value is where it comes from, if that isn't Outside
abbrev pub IsThere : Rights → Move → Type 0
IsThere k m = m.from ≢ Outside → Contains (holds k.places m.from m.brand) (content_of m.value)

-- its value is of its brand's kind, it names no payment that a turn before took from, and it mints no more than may be
pub record IsPassed (k : Rights) (m : Move) : Type 0 where
  pub suits : Suits (seen_at k.kinds m.brand) m.value
  pub live_from : (p : ℕ) → has_number k.payments.spent p ≡ true → is_payment_at p m.from ≡ false
  pub live_to : (p : ℕ) → has_number k.payments.spent p ≡ true → is_payment_at p m.to ≡ false
  pub mintable : IsMintable k m

-- once it has left, what comes to a holder still fits
abbrev pub CanGive : Table → Move → Type 0
CanGive t m = m.to ≢ Outside → (k : List ℕ) → count (holds (taken t m.from m.brand (content_of m.value)) m.to m.brand) k + count (content_of m.value) k < 2 ^ 128

-- what it makes of what is out of a brand: from Outside so much more, and to Outside so much less
abbrev pub with_issue : Move → ℕ → Content → Content
with_issue m b c = if is_outside m.from && (m.brand == b) then sum c (content_of m.value) else c

abbrev pub with_retired : Move → ℕ → Content → Content
with_retired m b c = if is_outside m.to && (m.brand == b) then difference c (content_of m.value) else c

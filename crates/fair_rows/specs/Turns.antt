-- When a turn is fair after the turns before it, and a list of turns.
use Rattle.std.specs.Prelude.{◌≡◌, ◌<◌, ℕ, ◌+◌, true, List, [], ◌∷◌, None, Some, map}
use Rattle.std.specs.List.{AllByRecursion, slice_get}
use Rattle.turn_rows.specs.amount_math.Content.{Content, count, nothing}
use Rattle.turn_rows.specs.amount_math.declared.Kind.{Kind}
use Rattle.turn_rows.specs.amount_math.declared.Kind.TheVariants.{Nat}
use Rattle.turn_rows.specs.rights_model.Supply.{Balanced, supply}
use Rattle.turn_rows.specs.rights_model.Table.{holds}
use Rattle.turn_rows.specs.rights_model.Totals.{brands_of}
use Rattle.turn_rows.specs.rights_model.declared.Holder.TheVariants.{Payment}
use Rattle.turn_rows.specs.rights_model.declared.Sum.{Sum}
use Rattle.turn_rows.specs.Editions.{nat_end}
use Rattle.turn_rows.specs.declared.editions.Edition.{Edition}
use Rattle.turn_rows.specs.Form.{AreInForm}
use Rattle.turn_rows.specs.Texts.{journal_text}
use Rattle.turn_rows.specs.Turns.{Event, exited, SeatExit, Turn}
use Rattle.fair_rows.specs.Amounts.{IsReadByTurn}
use Rattle.fair_rows.specs.ExitCauses.{Owners, first_cause}
use Rattle.fair_rows.specs.Movements.{movements_in, takes_from}
use Rattle.fair_rows.specs.Rows.{InTurn, IsFairRow, after_event}
use Rattle.fair_rows.specs.Seats.{IsOpen, IsSafe, Seat}
use Rattle.fair_rows.specs.SoFar.{SoFar, nothing_so_far, sum_so_far, with_turn}
use Rattle.fair_rows.specs.Values.{AreOfKinds}

-- ---- the turn row

-- turns are numbered from 1; amounts are answered as the table has them
pub record IsFairTurnRow (s : SoFar) (t : Turn) : Type 0 where
  pub number : t.number ≡ s.turns + 1
  pub read : IsReadByTurn s.table s.seats t

abbrev pub after_turn_row : SoFar → Turn → InTurn
after_turn_row s t = record { before = s; row = t; here = []; now = s; due = [] }

-- ---- rows of events

abbrev pub after_events : InTurn → List Event → InTurn
after_events i [] = i
after_events i (e ∷ es) = after_events (after_event i e) es

abbrev pub AreFairRows : InTurn → List Event → Type 0
AreFairRows i [] = Unit {0}
AreFairRows i (e ∷ es) = IsFairRow i e × AreFairRows (after_event i e) es

-- ---- the turn's end

-- one sum for each brand that the turn's movements name, by number, with that brand's totals
abbrev pub sums_due : InTurn → List Sum
sums_due i = map (sum_so_far i.now) (brands_of (movements_in i.here))

-- no count of a nat brand's supply passes what a nat value may be in the edition; of a set and of a bag both have one bound
abbrev pub IsWithin : Edition → Kind → Content → Type 0
IsWithin e Nat c = (k : List ℕ) → count c k < nat_end e
IsWithin e _ c = Unit {0}

-- each brand's purses, payments and slots add up to minted less burned, and that is within the edition's bounds
pub record IsBalanced (e : Edition) (s : SoFar) : Type 0 where
  pub kind_of : ℕ → Kind
  pub values : AreOfKinds kind_of s.amounts
  pub adds_up : Balanced s.table kind_of (supply s.moves)
  pub within : (b : ℕ) → IsWithin e (kind_of b) (supply s.moves b)

-- what these rows of a turn show first for a seat is the cause that its exit row told
pub record HasFirstCause (seats : List Seat) (owners : Owners) (t : Turn) (es : List Event) (x : SeatExit) : Type 0 where
  pub seat : Seat
  pub was_opened : slice_get seats x.seat ≡ Some seat
  pub first : first_cause owners t es seat.opening.instance x.seat ≡ Some x.cause

abbrev pub IsCaused : List Seat → Owners → Turn → List Event → Event → Type 0
IsCaused seats owners t es (exited x) = HasFirstCause seats owners t es x
IsCaused seats owners t es _ = Unit {0}

pub record IsFairEnd (e : Edition) (i : InTurn) (told : List Sum) : Type 0 where
  -- no movement is still due
  pub complete : i.due ≡ []
  pub sums : told ≡ sums_due i
  pub balanced : IsBalanced e i.now
  -- every open seat is covered, and no cause was shown for it; every seat that exited did so for the first cause
  pub safe : (seat : ℕ) (is_open : IsOpen i.now.seats seat) → IsSafe i.now.table is_open.seat.opening
  pub stays : (seat : ℕ) (is_open : IsOpen i.now.seats seat) → first_cause i.before.owners i.row i.here is_open.seat.opening.instance seat ≡ None
  pub caused : AllByRecursion (IsCaused i.now.seats i.before.owners i.row i.here) i.here
  -- a payment that the turn takes from is empty
  pub emptied : (p b : ℕ) → takes_from p (movements_in i.here) ≡ true → holds i.now.table (Payment p) b ≡ nothing

-- ---- turns

pub record IsFairTurn (e : Edition) (s : SoFar) (t : Turn) : Type 0 where
  pub row : IsFairTurnRow s t
  pub events : AreFairRows (after_turn_row s t) t.events
  pub end : IsFairEnd e (after_events (after_turn_row s t) t.events) t.sums

-- each turn is fair after what those before it tell
abbrev pub AreFairFrom : Edition → SoFar → List Turn → Type 0
AreFairFrom e s [] = Unit {0}
AreFairFrom e s (t ∷ ts) = IsFairTurn e s t × AreFairFrom e (with_turn s t) ts

-- as turns of a text of the edition
abbrev pub AreFair : Edition → List Turn → Type 0
AreFair e ts = AreFairFrom e nothing_so_far ts

-- the bytes are the text of a fair journal in this edition: of turns in form, which are fair, with so many deliveries left
pub record IsFairJournal (e : Edition) (bytes : List ℕ) (ts : List Turn) (left : ℕ) : Type 0 where
  pub text : bytes ≡ journal_text e ts left
  pub form : AreInForm e ts left
  pub fair : AreFair e ts

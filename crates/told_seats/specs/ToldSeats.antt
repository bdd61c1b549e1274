-- What is kept of seats, and that it tells what the rows so far tell of them.
use Rattle.std.specs.Prelude.{◌≡◌, ℕ, List, [], Option, Some, None, false, length, map}
use Rattle.std.specs.BTreeSet.{contains}
use Rattle.std.specs.List.{AllByRecursion, slice_get}
use Rattle.std.specs.Ordering.{nat_cmp}
use Rattle.row_records.specs.Views.{amount_view}
use Rattle.row_records.specs.turn_records.Views.{cause_view}
use Rattle.row_records.specs.fair_rows.Rows.{InTurn, is_offer}
use Rattle.row_records.specs.fair_rows.Seats.{IsOpen, IsSafe, Seat}
use Rattle.row_records.specs.fair_rows.SoFar.{SoFar}
use Rattle.row_records.specs.turn_rows.Causes.{Cause}
use Rattle.row_records.specs.turn_rows.Form.{HasAmountForm}
use Rattle.row_records.specs.turn_rows.declared.editions.Edition.{Edition}
use Rattle.row_records.specs.rights_model.Table.{Table}
use Rattle.told_seats.specs.DueViews.{dues_view}
use Rattle.told_seats.specs.SlotViews.{slots_view}
use Rattle.told_seats.specs.declared.seats.Promised.{Promised}
use Rattle.told_seats.specs.declared.seats.Seat.{Seat as KeptSeat}
use Rattle.told_seats.specs.declared.seats.Seats.{Seats}
use Rattle.told_seats.specs.declared.seats.Stage.{Stage}
use Rattle.told_seats.specs.declared.seats.Stage.TheVariants.{Exited, Open}

-- ---- a seat

-- of an open seat its proposal is kept, whose amounts are in form
pub record TellsProposal (p : Promised) (s : Seat) : Type 0 where
  pub stays : s.last ≡ None
  pub give : s.opening.give ≡ map amount_view p.give.items
  pub want : s.opening.want ≡ map amount_view p.want.items
  pub edition : Edition
  pub give_form : AllByRecursion (HasAmountForm edition) (map amount_view p.give.items)
  pub want_form : AllByRecursion (HasAmountForm edition) (map amount_view p.want.items)

-- of one that exited what its slots had then, in their order
abbrev pub TellsStage : Stage → Seat → Type 0
TellsStage (Open p) s = TellsProposal p s
TellsStage (Exited contents cause) s = s.last ≡ Some contents.items

-- the seat of a number
pub record TellsSeat (n : ℕ) (k : KeptSeat) (s : Seat) : Type 0 where
  pub number : s.opening.seat ≡ n
  pub instance : s.opening.instance ≡ k.instance
  pub slots : s.slots ≡ slots_view k.slots.items
  pub stage : TellsStage k.stage s

abbrev pub TellsAt : ℕ → Option KeptSeat → Option Seat → Type 0
TellsAt n (Some k) (Some s) = TellsSeat n k s
TellsAt n None None = Unit {0}
TellsAt n _ _ = ⊥

pub record TellsEach (ks : List KeptSeat) (seats : List Seat) : Type 0 where
  pub as_many : length ks ≡ length seats
  pub each : (n : ℕ) → TellsAt n (slice_get ks n) (slice_get seats n)

-- ---- all seats, in a turn and between turns

-- every open seat is covered
abbrev pub AreSafe : List Seat → Table → Type 0
AreSafe seats t = (n : ℕ) (is_open : IsOpen seats n) → IsSafe t is_open.seat.opening

-- but for those that the turn opened, and those of which a movement of it named a slot, where it isn't known
abbrev pub AreSafeUntouched : Seats → List Seat → Table → Type 0
AreSafeUntouched k seats t = (n : ℕ) → contains nat_cmp k.touched n ≡ false → (is_open : IsOpen seats n) → IsSafe t is_open.seat.opening

pub record TellsSeats (k : Seats) (i : InTurn) : Type 0 where
  pub seats : TellsEach k.seats.items i.now.seats
  pub safe : AreSafeUntouched k i.now.seats i.now.table
  pub due : i.due ≡ dues_view k.due.items
  pub offer : is_offer i.row ≡ k.offer

-- between turns
pub record TellsSeatsBefore (k : Seats) (s : SoFar) : Type 0 where
  pub seats : TellsEach k.seats.items s.seats
  pub safe : AreSafe s.seats s.table
  pub none_due : k.due.items ≡ []

-- ---- why seats exited, as their exit rows said

abbrev pub cause_in : Stage → Option Cause
cause_in (Open p) = None
cause_in (Exited contents cause) = Some (cause_view cause)

abbrev pub cause_of : KeptSeat → Option Cause
cause_of k = cause_in k.stage

abbrev pub causes_of : Seats → List (Option Cause)
causes_of k = map cause_of k.seats.items

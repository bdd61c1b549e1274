-- What one step makes of the seats that are kept.
use Rattle.std.specs.Prelude.{◌≡◌, ℕ, ◌==◌, ◌||◌, Bool, true, false, List, ◌++◌, ◌∷◌, [], Option, Some, None, is_some, length, map, if◌then◌else◌}
use Rattle.std.specs.BTreeSet.{contains}
use Rattle.std.specs.List.{AllByRecursion, slice_get}
use Rattle.std.specs.Ordering.{nat_cmp}
use Rattle.row_records.specs.Views.{open_view}
use Rattle.row_records.specs.declared.rows.OpenRow.{OpenRow}
use Rattle.row_records.specs.fair_rows.Movements.{names}
use Rattle.row_records.specs.fair_rows.Rows.{InTurn, IsOpenSlot, burn, escrow, payment_under}
use Rattle.row_records.specs.fair_rows.Seats.{IsOpen, IsSafe, Seat as Told, SlotName, new_seat, with_holder}
use Rattle.row_records.specs.rights_model.Table.{Table}
use Rattle.row_records.specs.rights_model.declared.Holder.{Holder}
use Rattle.row_records.specs.rights_model.declared.Holder.TheVariants.{Slot}
use Rattle.row_records.specs.rights_model.declared.Movement.{Movement}
use Rattle.row_records.specs.turn_rows.Turns.{Opening, Payout, SeatExit}
use Rattle.told_seats.specs.DueViews.{dues_view}
use Rattle.told_seats.specs.SlotViews.{slots_view}
use Rattle.told_seats.specs.declared.seats.Seat.{Seat}
use Rattle.told_seats.specs.declared.seats.Seats.{Seats}
use Rattle.told_seats.specs.declared.seats.Stage.{Stage}
use Rattle.told_seats.specs.declared.seats.Stage.TheVariants.{Open}

-- a seat by its number before and after
abbrev pub Becomes : (ℕ → Seat → Seat → Type 0) → ℕ → Option Seat → Option Seat → Type 0
Becomes R n (Some old) (Some new) = R n old new
Becomes R n None None = Unit {0}
Becomes R n _ _ = ⊥

-- no seat comes or goes, and each becomes what it may
pub record EachBecomes (R : ℕ → Seat → Seat → Type 0) (old new : List Seat) : Type 0 where
  pub as_many : length new ≡ length old
  pub each : (n : ℕ) → Becomes R n (slice_get old n) (slice_get new n)

-- ---- an opening

-- after an offer's open row the burn and the escrows are due; all else is as it was
pub record Expects (o : Opening) (old new : Seats) : Type 0 where
  pub due : dues_view new.due.items ≡ (if old.offer then burn ∷ map (escrow o.seat) o.give else dues_view old.due.items)
  pub rest : new ≡ record old { due = new.due }

-- a seat more, last; all else is as it was
pub record Adds (row : OpenRow) (old new : Seats) : Type 0 where
  pub seat : Seat
  pub seats : new.seats.items ≡ old.seats.items ++ seat ∷ []
  pub instance : seat.instance ≡ row.instance
  pub slots : slots_view seat.slots.items ≡ (new_seat (open_view row)).slots
  pub stage : seat.stage ≡ Open (record { give = row.give; want = row.want })
  pub rest : new ≡ record old { seats = new.seats }

-- ---- a movement that names a holder

-- it is no slot, or one of an open seat and of the brand
abbrev pub MayName : List Told → Holder → ℕ → Type 0
MayName seats h brand = (seat : ℕ) (keyword : List ℕ) → h ≡ Slot seat keyword → IsOpenSlot seats seat keyword brand

-- where that is a slot of the seat, it has it; a slot that wasn't there is added, last
pub record NamesSlot (h : Holder) (brand : ℕ) (n : ℕ) (old new : Seat) : Type 0 where
  pub instance : new.instance ≡ old.instance
  pub slots : slots_view new.slots.items ≡ with_holder n brand h (slots_view old.slots.items)
  pub stage : new.stage ≡ old.stage

abbrev pub is_slot_of : ℕ → Holder → Bool
is_slot_of n (Slot seat keyword) = seat == n
is_slot_of n _ = false

pub record Names (h : Holder) (brand : ℕ) (old new : Seats) : Type 0 where
  pub seats : EachBecomes (NamesSlot h brand) old.seats.items new.seats.items
  pub touched : (n : ℕ) → contains nat_cmp new.touched n ≡ (is_slot_of n h || contains nat_cmp old.touched n)
  pub due : new.due.items ≡ old.due.items
  pub offer : new.offer ≡ old.offer

-- ---- an exit

-- a payment stands for each slot
abbrev pub AreNamed : List Payout → List SlotName → Type 0
AreNamed payouts slots = AllByRecursion (λ slot. is_some (payment_under slot.keyword payouts) ≡ true) slots

-- no movement names them
abbrev pub AreNew : List Movement → List Payout → Type 0
AreNew moves payouts = AllByRecursion (λ (p : Payout). names p.payment moves ≡ false) payouts

-- a new payment stands for each slot
pub record ArePaid (moves : List Movement) (payouts : List Payout) (slots : List SlotName) : Type 0 where
  pub as_many : length payouts ≡ length slots
  pub named : AreNamed payouts slots
  pub fresh : AreNew moves payouts

-- the seat is open, and a new payment stands for each of its slots
pub record HasPayouts (i : InTurn) (x : SeatExit) : Type 0 where
  pub is_open : IsOpen i.now.seats x.seat
  pub as_many : length x.payouts ≡ length is_open.seat.slots
  pub named : AreNamed x.payouts is_open.seat.slots
  pub fresh : AreNew i.now.moves x.payouts

-- the seat is covered, if it is open
abbrev pub IsSafeAt : List Told → Table → ℕ → Type 0
IsSafeAt seats t n = (is_open : IsOpen seats n) → IsSafe t is_open.seat.opening

-- the seat of the number is at this stage
pub record Leaves (number : ℕ) (stage : Stage) (n : ℕ) (old new : Seat) : Type 0 where
  pub instance : new.instance ≡ old.instance
  pub slots : new.slots.items ≡ old.slots.items
  pub left : (n == number) ≡ true → new.stage ≡ stage
  pub other : (n == number) ≡ false → new.stage ≡ old.stage

-- How contracts see the movements that are due, and what is due of a slot after an exit row.
use Rattle.std.specs.Prelude.{◌≡◌, ℕ, List, Option, Some, false, map}
use Rattle.row_records.specs.Views.{amount_view}
use Rattle.row_records.specs.amount_math.Content.{Content}
use Rattle.row_records.specs.fair_rows.Movements.{names}
use Rattle.row_records.specs.fair_rows.Rows.{Due, burn, escrow, payment_under, payout}
use Rattle.row_records.specs.fair_rows.Seats.{SlotName}
use Rattle.row_records.specs.rights_model.Table.{Table, holds}
use Rattle.row_records.specs.rights_model.declared.Holder.{Holder}
use Rattle.row_records.specs.rights_model.declared.Holder.TheVariants.{Payment, Slot}
use Rattle.row_records.specs.rights_model.declared.Movement.{Movement}
use Rattle.row_records.specs.turn_rows.Turns.{SeatExit}
use Rattle.told_seats.specs.SlotViews.{slot_view}
use Rattle.told_seats.specs.declared.dues.Due.{Due as KeptDue}
use Rattle.told_seats.specs.declared.dues.Due.TheVariants.{Burn, Escrow, Payout}

abbrev pub due_view : KeptDue → Due
due_view Burn = burn
due_view (Escrow seat a) = escrow seat (amount_view a)
due_view (Payout p) = payout p.seat (slot_view p.slot) p.contents p.payment

abbrev pub dues_view : List KeptDue → List Due
dues_view ds = map due_view ds

-- what each slot of a seat has
abbrev pub slot_contents : Table → ℕ → List SlotName → List Content
slot_contents t seat slots = map (λ slot. holds t (Slot seat slot.keyword) slot.brand) slots

-- what is due of a slot
abbrev pub payout_of : Table → SeatExit → SlotName → Due
payout_of t x slot = payout x.seat slot (holds t (Slot x.seat slot.keyword) slot.brand) (payment_under slot.keyword x.payouts)

-- it goes to the payment that was found, which no movement before it names
pub record PaysNew (moves : List Movement) (found : Option ℕ) (to : Holder) : Type 0 where
  pub payment : ℕ
  pub named : found ≡ Some payment
  pub is : to ≡ Payment payment
  pub new : names payment moves ≡ false

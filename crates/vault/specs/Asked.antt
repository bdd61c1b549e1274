-- What the stores are asked for, told by their lists: what a holder may be asked for, and why a put is refused.
use Rattle.std.specs.Prelude.{◌≡◌, ℕ, ◌+◌, ◌<◌, ◌≤◌, List, ◌⊎◌, IsNone, length}
use Rattle.vault_model.specs.amount_math.Amount.{Meet}
use Rattle.vault_model.specs.amount_math.Content.{Content, nothing, sum}
use Rattle.vault_model.specs.amount_math.ValueView.{IsPutRefusal, IsValue, ValueView}
use Rattle.vault_model.specs.amount_math.declared.Amount.{Amount}
use Rattle.vault_model.specs.amount_math.declared.PutFault.{PutFault}
use Rattle.vault_model.specs.amount_math.declared.PutFault.TheVariants.{NoMemory}
use Rattle.vault_model.specs.ertp_mint.Stocks.{most_made}
use Rattle.vault_model.specs.holders.PaymentViews.{live_payment, payment_view_at}
use Rattle.vault_model.specs.proposals.Shares.{amount_under, most_shares}
use Rattle.vault_model.specs.proposals.Slots.{slots_of}
use Rattle.vault_model.specs.proposals.declared.offers.Proposal.{Proposal}
use Rattle.vault_model.specs.rights_model.declared.Holder.{Holder}
use Rattle.vault_model.specs.rights_model.declared.Holder.TheVariants.{Purse, Payment, Slot, Hand, Outside}
use Rattle.vault_model.specs.Lists.{Lists, amount_of, purse_at, slot_of}
use Rattle.vault_model.specs.Seats.{HasSlotOf, IsOpenSeat, kept_seat_at}
use Rattle.vault_model.specs.Tables.{content_held}

-- a holder that a part may be asked of: a purse that was made, a payment that is live and has just that, or a slot, also of a closed seat
pub record IsPurseOf (s : Lists) (n : ℕ) (w : ValueView) : Type 0 where
  pub made : n < length s.purses
  pub kind : (purse_at s.purses n).value.kind ≡ w.kind

pub record IsPaymentOf (s : Lists) (n : ℕ) (w : ValueView) : Type 0 where
  pub made : n < length s.payments
  pub is : payment_view_at s.payments n ≡ live_payment (amount_of (payment_view_at s.payments n).brand w)

pub record IsSlotOf (s : Lists) (n : ℕ) (keyword : List ℕ) (w : ValueView) : Type 0 where
  pub slot : HasSlotOf s.seats n keyword
  pub kind : (slot_of s n keyword).value.kind ≡ w.kind

abbrev pub IsSource : Lists → Holder → ValueView → Type 0
IsSource s (Purse n) w = IsPurseOf s n w
IsSource s (Payment n) w = IsPaymentOf s n w
IsSource s (Slot n keyword) w = IsSlotOf s n keyword w
IsSource s Hand w = ⊥
IsSource s Outside w = ⊥

-- the brand of a holder, and what it has
abbrev pub brand_of : Lists → Holder → ℕ
brand_of s (Purse n) = (purse_at s.purses n).brand
brand_of s (Payment n) = (payment_view_at s.payments n).brand
brand_of s (Slot n keyword) = (slot_of s n keyword).brand
brand_of s Hand = 0
brand_of s Outside = 0

abbrev pub held_by : Lists → Holder → Content
held_by s (Purse n) = (purse_at s.purses n).value.content
held_by s (Payment n) = content_held (payment_view_at s.payments n).held
held_by s (Slot n keyword) = (slot_of s n keyword).value.content
held_by s Hand = nothing
held_by s Outside = nothing

-- a holder that takes rights of the parcel's brand: a purse, the next payment, which isn't one too many, or a slot of an open seat
pub record IsPurseFor (s : Lists) (n : ℕ) (a : Amount) : Type 0 where
  pub made : n < length s.purses
  pub meet : Meet (purse_at s.purses n) a

pub record IsNextPayment (s : Lists) (n : ℕ) : Type 0 where
  pub next : n ≡ length s.payments
  pub left : length s.payments + s.owed < most_made

pub record IsSlotFor (s : Lists) (n : ℕ) (keyword : List ℕ) (a : Amount) : Type 0 where
  pub slot : HasSlotOf s.seats n keyword
  pub is_open : IsOpenSeat (kept_seat_at s.seats n)
  pub meet : Meet (slot_of s n keyword) a

abbrev pub IsTarget : Lists → Holder → Amount → Type 0
IsTarget s (Purse n) a = IsPurseFor s n a
IsTarget s (Payment n) a = IsNextPayment s n
IsTarget s (Slot n keyword) a = IsSlotFor s n keyword a
IsTarget s Hand a = ⊥
IsTarget s Outside a = ⊥

-- an open seat in which a further slot of a keyword may be opened, for which a payment may be owed
pub record MayOpenSlot (s : Lists) (n : ℕ) (keyword : List ℕ) : Type 0 where
  pub made : n < length s.seats
  pub is_open : IsOpenSeat (kept_seat_at s.seats n)
  pub free : IsNone (amount_under keyword (kept_seat_at s.seats n).slots)
  pub few : length (kept_seat_at s.seats n).slots < most_shares
  pub left : length s.payments + s.owed < most_made

-- the sum that a put makes is a value; and why a put is refused
abbrev pub TakesIn : Lists → Holder → Amount → Type 0
TakesIn s (Purse n) a = IsValue (purse_at s.purses n).value.kind (sum (purse_at s.purses n).value.content a.value.content)
TakesIn s (Payment n) a = Unit {0}
TakesIn s (Slot n keyword) a = IsValue a.value.kind (sum (slot_of s n keyword).value.content a.value.content)
TakesIn s Hand a = Unit {0}
TakesIn s Outside a = Unit {0}

abbrev pub IsPutFault : Lists → Holder → Amount → PutFault → Type 0
IsPutFault s (Purse n) a fault = IsPutRefusal (purse_at s.purses n).value.kind (sum (purse_at s.purses n).value.content a.value.content) fault
IsPutFault s (Payment n) a fault = fault ≡ NoMemory
IsPutFault s (Slot n keyword) a fault = IsPutRefusal a.value.kind (sum (slot_of s n keyword).value.content a.value.content) fault
IsPutFault s Hand a fault = fault ≡ NoMemory
IsPutFault s Outside a fault = fault ≡ NoMemory

-- no seat can be opened for a proposal: 4,294,967,295 were made, or its slots would be payments too many
abbrev pub IsSeatTooMany : Lists → Proposal → Type 0
IsSeatTooMany s proposal = (length s.seats ≡ most_made) ⊎ (most_made < length s.payments + s.owed + length (slots_of proposal))

-- a seat that was made is open, and its payments are owed
pub record MayClose (s : Lists) (n : ℕ) : Type 0 where
  pub made : n < length s.seats
  pub is_open : IsOpenSeat (kept_seat_at s.seats n)
  pub owed : length (kept_seat_at s.seats n).slots ≤ s.owed

-- Steps worked backwards, the last first: what they give, and when they can be.
use Rattle.std.specs.Prelude.{◌≡◌, ◌<◌, ◌≤◌, ◌+◌, ◌-◌, ◌==◌, if◌then◌else◌, ℕ, List, [], ◌∷◌, IsSome, count_by, length}
use Rattle.rights_model.specs.amount_math.Content.{Content, Contains, nothing, sum, difference}
use Rattle.rights_model.specs.amount_math.Held.{HasRoom}
use Rattle.rights_model.specs.amount_math.ValueView.{Fits, ValueView, keys_of}
use Rattle.rights_model.specs.amount_math.declared.Amount.{Amount}
use Rattle.holders.specs.ertp_mint.Balances.{BalanceView, GoesIn}
use Rattle.holders.specs.ertp_mint.BrandSupply.{supply_at}
use Rattle.holders.specs.PaymentViews.{is_live, live_payment, payment_view_at, spent_payment}
use Rattle.rights_model.specs.declared.Holder.{Holder}
use Rattle.rights_model.specs.declared.Holder.TheVariants.{Purse, Payment, Slot, Hand, Outside}
use Rattle.rights_model.specs.declared.Movement.{Movement}
use Rattle.vault_model.specs.declared.Undo.{Undo}
use Rattle.vault_model.specs.declared.Undo.TheVariants.{Moves, OpensPurse, AddsBrand, OpensSeat, OpensSlot, ClosesSeat}
use Rattle.vault_model.specs.Seats.{HasEmptyShare, HasSlotOf, kept_seat_at, new_kept_seat}
use Rattle.holders.specs.ertp_mint.Stocks.{most_made}
use Rattle.proposals.specs.declared.offers.Proposal.{Proposal}
use Rattle.vault_model.specs.Lists.{Lists, GivesUp, amount_of, back, kind_of, purse_at, slot_of, SlotGivesUp, ungiven, with_reopened_seat, without_last_brand, without_last_purse, without_last_seat, without_last_slot_of}

-- what they give. Each step that moves has the next of the movements
abbrev pub all_back : Lists → List Undo → List Movement → Lists
all_back s [] ms = s
all_back s (Moves ∷ ks) [] = s
all_back s (Moves ∷ ks) (m ∷ ms) = all_back (back s m) ks ms
all_back s (OpensPurse ∷ ks) ms = all_back (without_last_purse s) ks ms
all_back s (AddsBrand ∷ ks) ms = all_back (without_last_brand s) ks ms
all_back s (OpensSeat ∷ ks) ms = all_back (without_last_seat s) ks ms
all_back s (OpensSlot n ∷ ks) ms = all_back (without_last_slot_of n s) ks ms
all_back s (ClosesSeat n ∷ ks) ms = all_back (with_reopened_seat n s) ks ms

-- ---- the hand

-- what the hand has of a brand after a movement
abbrev pub from_hand : Holder → Content → Content → Content
from_hand Hand c part = difference c part
from_hand (Purse n) c part = c
from_hand (Payment n) c part = c
from_hand (Slot seat keyword) c part = c
from_hand Outside c part = c

abbrev pub to_hand : Holder → Content → Content → Content
to_hand Hand c part = sum c part
to_hand (Purse n) c part = c
to_hand (Payment n) c part = c
to_hand (Slot seat keyword) c part = c
to_hand Outside c part = c

-- and after movements, of which the last stands first
abbrev pub in_hand : List Movement → ℕ → Content
in_hand [] b = nothing
in_hand (m ∷ ms) b = if m.brand == b then to_hand m.to (from_hand m.from (in_hand ms b) m.value.content) m.value.content else in_hand ms b

-- a movement from the hand takes what is there
abbrev pub HandHas : Holder → Content → Content → Type 0
HandHas Hand c part = Contains c part
HandHas (Purse n) c part = Unit {0}
HandHas (Payment n) c part = Unit {0}
HandHas (Slot seat keyword) c part = Unit {0}
HandHas Outside c part = Unit {0}

-- ---- what was retired

-- what is kept of a brand after a movement, which may come out again without memory
abbrev pub to_outside : Holder → Content → Content → Content
to_outside Outside c part = sum c part
to_outside (Purse n) c part = c
to_outside (Payment n) c part = c
to_outside (Slot seat keyword) c part = c
to_outside Hand c part = c

-- and after movements, of which the last stands first: what they retired
abbrev pub retired_by : List Movement → ℕ → Content
retired_by [] b = nothing
retired_by (m ∷ ms) b = if m.brand == b then to_outside m.to (retired_by ms b) m.value.content else retired_by ms b

-- ---- rooms: apart from the lists, since they only grow

-- for how many keys there is room in each purse and in each slot of a seat, and for how many live payments; and for how many keys of what the hand has of each brand
pub record Rooms : Type 0 where
  pub purses : ℕ → ℕ
  pub slots : ℕ → List ℕ → ℕ
  pub capacity : ℕ
  pub hand : ℕ → ℕ

pub record HasGrown (R Q : Rooms) : Type 0 where
  pub purses : (n : ℕ) → R.purses n ≤ Q.purses n
  pub slots : (n : ℕ) (keyword : List ℕ) → R.slots n keyword ≤ Q.slots n keyword
  pub capacity : R.capacity ≤ Q.capacity
  pub hand : (b : ℕ) → R.hand b ≤ Q.hand b

abbrev pub stored : Amount → ℕ → BalanceView
stored a room = record { amount = a; room = room }

-- ---- when they can be worked backwards, within the rooms

-- a purse takes again what it gave
pub record TakesBack (R : Rooms) (s : Lists) (n b : ℕ) (w : ValueView) : Type 0 where
  pub made : n < length s.purses
  pub goes : GoesIn (stored (purse_at s.purses n) (R.purses n)) (amount_of b w)

-- a slot takes again what it gave
pub record SlotTakesBack (R : Rooms) (s : Lists) (n : ℕ) (keyword : List ℕ) (b : ℕ) (w : ValueView) : Type 0 where
  pub slot : HasSlotOf s.seats n keyword
  pub goes : GoesIn (stored (slot_of s n keyword) (R.slots n keyword)) (amount_of b w)

-- a spent payment can be live again
pub record CanRevive (R : Rooms) (s : Lists) (n b : ℕ) (w : ValueView) : Type 0 where
  pub made : n < length s.payments
  pub spent : payment_view_at s.payments n ≡ spent_payment b
  pub vacancy : count_by is_live s.payments < R.capacity

-- what was retired may be out again: no count passes the kind's bound then. What is kept for it is what movements retired
pub record MayReturn (s : Lists) (b : ℕ) (w : ValueView) : Type 0 where
  pub kind : kind_of s b ≡ w.kind
  pub fits : Fits (kind_of s b) (sum (supply_at s.out b).outstanding.content w.content)

-- the last payment is the one that was made
pub record IsLast (s : Lists) (n b : ℕ) (w : ValueView) : Type 0 where
  pub last : length s.payments ≡ n + 1
  pub is : payment_view_at s.payments n ≡ live_payment (amount_of b w)

abbrev pub CanUntake : Rooms → Lists → Holder → ℕ → ValueView → Type 0
CanUntake R s (Purse n) b w = TakesBack R s n b w
CanUntake R s (Payment n) b w = CanRevive R s n b w
CanUntake R s (Slot n keyword) b w = SlotTakesBack R s n keyword b w
CanUntake R s Hand b w = Unit {0}
CanUntake R s Outside b w = Unit {0}

abbrev pub CanUngive : Rooms → Lists → Holder → ℕ → ValueView → Type 0
CanUngive R s (Purse n) b w = GivesUp s n b w
CanUngive R s (Payment n) b w = IsLast s n b w
CanUngive R s (Slot n keyword) b w = SlotGivesUp s n keyword b w
CanUngive R s Hand b w = Unit {0}
CanUngive R s Outside b w = MayReturn s b w

-- a movement, before which there were these. On the way back what the hand has then and what is moved are out
pub record CanBack (R : Rooms) (s : Lists) (m : Movement) (ms : List Movement) : Type 0 where
  pub ungive : CanUngive R s m.to m.brand m.value
  pub untake : CanUntake R (ungiven s m.to m.brand m.value) m.from m.brand m.value
  pub made : m.brand < length s.out
  pub kind : kind_of s m.brand ≡ m.value.kind
  pub has : HandHas m.from (in_hand ms m.brand) m.value.content
  pub out : Contains (supply_at (ungiven s m.to m.brand m.value).out m.brand).outstanding.content (sum (from_hand m.from (in_hand ms m.brand) m.value.content) m.value.content)
  pub room : HasRoom m.value.kind (keys_of (in_hand ms m.brand)) (R.hand m.brand)

-- the last purse has nothing
pub record HasEmptyLast (s : Lists) : Type 0 where
  pub some : 0 < length s.purses
  pub empty : (purse_at s.purses (length s.purses - 1)).value.content ≡ nothing

-- of the last brand nothing was issued
pub record HasFreshLast (s : Lists) : Type 0 where
  pub some : 0 < length s.out
  pub fresh : (supply_at s.out (length s.out - 1)).minted ≡ 0

-- the last seat is as it was opened, and its payments are owed
pub record HasNewLast (s : Lists) : Type 0 where
  pub some : 0 < length s.seats
  pub new : (proposal : Proposal) × (instance : ℕ) × (kept_seat_at s.seats (length s.seats - 1) ≡ new_kept_seat instance proposal)
  pub owed : length (kept_seat_at s.seats (length s.seats - 1)).slots ≤ s.owed

-- the last slot of a seat has nothing, and its payment is owed
pub record HasEmptySlot (n : ℕ) (s : Lists) : Type 0 where
  pub made : n < length s.seats
  pub empty : HasEmptyShare (kept_seat_at s.seats n).slots
  pub owed : 0 < s.owed

-- a closed seat, whose payments can be owed again
pub record MayReopen (n : ℕ) (s : Lists) : Type 0 where
  pub made : n < length s.seats
  pub exited : IsSome (kept_seat_at s.seats n).last
  pub left : length s.payments + s.owed + length (kept_seat_at s.seats n).slots ≤ most_made

abbrev pub CanAllBack : Rooms → Lists → List Undo → List Movement → Type 0
CanAllBack R s [] ms = ms ≡ []
CanAllBack R s (Moves ∷ ks) [] = ⊥
CanAllBack R s (Moves ∷ ks) (m ∷ ms) = CanBack R s m ms × CanAllBack R (back s m) ks ms
CanAllBack R s (OpensPurse ∷ ks) ms = HasEmptyLast s × CanAllBack R (without_last_purse s) ks ms
CanAllBack R s (AddsBrand ∷ ks) ms = HasFreshLast s × CanAllBack R (without_last_brand s) ks ms
CanAllBack R s (OpensSeat ∷ ks) ms = HasNewLast s × CanAllBack R (without_last_seat s) ks ms
CanAllBack R s (OpensSlot n ∷ ks) ms = HasEmptySlot n s × CanAllBack R (without_last_slot_of n s) ks ms
CanAllBack R s (ClosesSeat n ∷ ks) ms = MayReopen n s × CanAllBack R (with_reopened_seat n s) ks ms

-- The stores in memory, as lists and as rooms, and what each step, worked forwards or back, leaves of them.
use Rattle.std.specs.Prelude.{◌≡◌, ℕ, ◌<◌, ◌≤◌, List, length, map}
use Rattle.vault_model.specs.amount_math.Content.{Content}
use Rattle.vault_model.specs.amount_math.Held.{Held}
use Rattle.vault_model.specs.amount_math.ValueView.{ValueView}
use Rattle.vault_model.specs.amount_math.declared.Amount.{Amount}
use Rattle.vault_model.specs.ertp_mint.Balances.{BalanceView}
use Rattle.vault_model.specs.ertp_mint.BrandSupply.{BrandSupply}
use Rattle.vault_model.specs.ertp_mint.Circulating.{CirculationView, CanReturn, circulation_at}
use Rattle.vault_model.specs.proposals.declared.allocations.Share.{Share}
use Rattle.vault_model.specs.holders.Purses.{room_at}
use Rattle.vault_model.specs.Backwards.{CanUngive, CanUntake, HasGrown, Rooms}
use Rattle.vault_model.specs.Lists.{Lists, given, taken, with_new_slot}
use Rattle.vault_model.specs.Seats.{HasSlotOf, KeptSeat}
use Rattle.vault_model.specs.Tables.{hand_minus, hand_plus}
use Rattle.vault_model.specs.rights_model.declared.Holder.{Holder}
use Rattle.vault_model.specs.rights_model.declared.Holder.TheVariants.{Purse, Payment, Slot, Hand, Outside}
use Rattle.seats.specs.Seats.{SeatView}
use Rattle.seats.specs.Slots.{shares_in}
use Rattle.seats.specs.Store.{slot_store}
use Rattle.transit.specs.Transit.{CanHold, IsInStore, IsOnItsWay, held_at, in_store}
use Rattle.vault.specs.declared.stores.Stores.{Stores}

abbrev pub amount_in : BalanceView → Amount
amount_in s = s.amount

abbrev pub supply_of : CirculationView → BrandSupply
supply_of s = s.supply

-- a seat, whatever rooms its slots have
abbrev pub kept_seat : SeatView → KeptSeat
kept_seat s = record { instance = s.instance; proposal = s.proposal; slots = shares_in s.slots; last = s.last }

abbrev pub lists_of : Stores → Lists
lists_of p = record { purses = map amount_in p.purses; payments = p.payments.views; seats = map kept_seat p.seats.seats; owed = p.payments.slots; out = map supply_of p.transit.out }

abbrev pub rooms_of : Stores → Rooms
rooms_of p = record { purses = λ n. room_at p.purses n; slots = λ n k. (slot_store n k p.seats).room; capacity = p.payments.capacity; hand = λ b. (held_at p.transit.hand b).room }

-- what is staged of seats, apart from the lists
abbrev pub staged_of : Stores → List (ℕ × List Share)
staged_of p = p.seats.staging

-- what the hand's own store has
abbrev pub store_of : Stores → ℕ → Content
store_of p b = in_store p.transit b

-- what was retired of a brand and is kept, since it may come out again
abbrev pub kept_of : Stores → ℕ → Content
kept_of p b = (circulation_at p.transit.out b).kept

-- ---- halves worked backwards

-- the lists are these, the hand's store has this, this is kept, and no room is less
pub record IsHalf (p q : Stores) (s : Lists) (h k : ℕ → Content) : Type 0 where
  pub lists : lists_of q ≡ s
  pub hand : (b : ℕ) → store_of q b ≡ h b
  pub kept : (b : ℕ) → kept_of q b ≡ k b
  pub rooms : HasGrown (rooms_of p) (rooms_of q)

abbrev pub store_ungiven : (ℕ → Content) → Holder → ℕ → Content → ℕ → Content
store_ungiven h Hand b c = hand_minus h b c
store_ungiven h (Purse n) b c = h
store_ungiven h (Payment n) b c = h
store_ungiven h (Slot seat keyword) b c = h
store_ungiven h Outside b c = h

abbrev pub store_untaken : (ℕ → Content) → Holder → ℕ → Content → ℕ → Content
store_untaken h Hand b c = hand_plus h b c
store_untaken h (Purse n) b c = h
store_untaken h (Payment n) b c = h
store_untaken h (Slot seat keyword) b c = h
store_untaken h Outside b c = h

-- what is kept once it came back from outside, and once it went there
abbrev pub kept_ungiven : (ℕ → Content) → Holder → ℕ → Content → ℕ → Content
kept_ungiven k Outside b c = hand_minus k b c
kept_ungiven k (Purse n) b c = k
kept_ungiven k (Payment n) b c = k
kept_ungiven k (Slot seat keyword) b c = k
kept_ungiven k Hand b c = k

abbrev pub kept_given : (ℕ → Content) → Holder → ℕ → Content → ℕ → Content
kept_given k Outside b c = hand_plus k b c
kept_given k (Purse n) b c = k
kept_given k (Payment n) b c = k
kept_given k (Slot seat keyword) b c = k
kept_given k Hand b c = k

-- what was retired can be out again
pub record Returns (p : Stores) (b : ℕ) (w : ValueView) : Type 0 where
  pub made : b < length p.transit.out
  pub can : CanReturn (circulation_at p.transit.out b) w

abbrev pub CanUngiveHere : Stores → Holder → ℕ → ValueView → Type 0
CanUngiveHere p (Purse n) b w = CanUngive (rooms_of p) (lists_of p) (Purse n) b w
CanUngiveHere p (Payment n) b w = CanUngive (rooms_of p) (lists_of p) (Payment n) b w
CanUngiveHere p (Slot seat keyword) b w = CanUngive (rooms_of p) (lists_of p) (Slot seat keyword) b w
CanUngiveHere p Hand b w = IsInStore p.transit b w
CanUngiveHere p Outside b w = Returns p b w

abbrev pub CanUntakeHere : Stores → Holder → Amount → Type 0
CanUntakeHere p (Purse n) a = CanUntake (rooms_of p) (lists_of p) (Purse n) a.brand a.value
CanUntakeHere p (Payment n) a = CanUntake (rooms_of p) (lists_of p) (Payment n) a.brand a.value
CanUntakeHere p (Slot seat keyword) a = CanUntake (rooms_of p) (lists_of p) (Slot seat keyword) a.brand a.value
CanUntakeHere p Hand a = CanHold p.transit a
CanUntakeHere p Outside a = IsOnItsWay p.transit a

-- ---- openings worked backwards

-- no purse, slot or brand that is there has less room
pub record HasRooms (R : Rooms) (p : Stores) : Type 0 where
  pub purses : (n : ℕ) → n < length p.purses → R.purses n ≤ room_at p.purses n
  pub slots : (n : ℕ) (keyword : List ℕ) → HasSlotOf (lists_of p).seats n keyword → R.slots n keyword ≤ (slot_store n keyword p.seats).room
  pub capacity : R.capacity ≤ p.payments.capacity
  pub hand : (b : ℕ) → b < length p.transit.out → R.hand b ≤ (held_at p.transit.hand b).room

-- the lists are these; of the brands that are left the hand's store has what it had, and the same is kept; and what room is asked of what is left is there as it was
pub record IsBack (p q : Stores) (s : Lists) : Type 0 where
  pub lists : lists_of q ≡ s
  pub brands : length q.transit.out ≤ length p.transit.out
  pub hand : (b : ℕ) → b < length q.transit.out → store_of q b ≡ store_of p b
  pub kept : (b : ℕ) → b < length q.transit.out → kept_of q b ≡ kept_of p b
  pub rooms : (R : Rooms) → HasRooms R p → HasRooms R q

-- ---- steps forwards

-- what was given up of each brand
abbrev pub content_in_store : Held → Content
content_in_store h = h.value.content

abbrev pub given_up_in : Stores → List Content
given_up_in p = map content_in_store p.transit.hand

-- the lists are these, this is staged, what was given up is the same, this is kept, and no room is less
pub record IsForward (p q : Stores) (s : Lists) (staged : List (ℕ × List Share)) (k : ℕ → Content) : Type 0 where
  pub lists : lists_of q ≡ s
  pub staging : staged_of q ≡ staged
  pub given_up : given_up_in q ≡ given_up_in p
  pub kept : (b : ℕ) → kept_of q b ≡ k b
  pub rooms : HasGrown (rooms_of p) (rooms_of q)

-- the lists are these, and nothing else changed but that room was made
abbrev pub HasBecome : Stores → Stores → Lists → Type 0
HasBecome p q s = IsForward p q s (staged_of p) (kept_of p)

-- room alone was made
abbrev pub IsRoomed : Stores → Stores → Type 0
IsRoomed p q = HasBecome p q (lists_of p)

-- a half was made, and can be worked backwards
pub record IsTaken (p q : Stores) (h : Holder) (b : ℕ) (w : ValueView) : Type 0 where
  pub half : HasBecome p q (taken (lists_of p) h b w)
  pub back : CanUntake (rooms_of q) (lists_of q) h b w

pub record IsGiven (p q : Stores) (h : Holder) (b : ℕ) (w : ValueView) : Type 0 where
  pub half : IsForward p q (given (lists_of p) h b w) (staged_of p) (kept_given (kept_of p) h b w.content)
  pub back : CanUngive (rooms_of q) (lists_of q) h b w

-- a further slot was opened, and then a parcel was put in it
pub record IsGivenFurther (p q : Stores) (n : ℕ) (keyword : List ℕ) (a : Amount) : Type 0 where
  pub between : Stores
  pub slotted : HasBecome p between (with_new_slot (lists_of p) n keyword a.brand a.value.kind)
  pub gave : IsGiven between q (Slot n keyword) a.brand a.value

-- A vault's lists as the world's rights and seats; and a written movement as a draft makes it, by
-- way of the hand.
use Rattle.std.specs.Prelude.{◌≡◌, ◌<◌, List, [], ◌∷◌, if◌then◌else◌, is_some, length, map}
use Rattle.world_state.specs.amount_math.declared.Amount.{Amount}
use Rattle.world_state.specs.proposals.Shares.{amount_under}
use Rattle.world_state.specs.proposals.declared.allocations.Share.{Share}
use Rattle.world_state.specs.rights_model.declared.Holder.{Holder}
use Rattle.world_state.specs.rights_model.declared.Holder.TheVariants.{Purse, Payment, Slot, Hand, Outside}
use Rattle.world_state.specs.rights_model.declared.Movement.{Movement}
use Rattle.world_state.specs.vault_model.Lists.{CanTake, Lists, amount_of, given, taken, with_new_slot}
use Rattle.world_state.specs.vault_model.Seats.{KeptSeat, kept_seat_at}
use Rattle.world_state.specs.Rights.{Rights}
use Rattle.world_state.specs.Worlds.{Seat}

-- ---- what the lists are in the world

abbrev pub slots_held : KeptSeat → List Share
slots_held seat = seat.slots

-- purses, payments and what is out as they are, and of each seat its slots
abbrev pub rights_of : Lists → Rights
rights_of s = record {
  purses = s.purses;
  payments = s.payments;
  slots = map slots_held s.seats;
  out = s.out;
}

-- a seat without its slots
abbrev pub seat_of : KeptSeat → Seat
seat_of seat = record {
  instance = seat.instance;
  proposal = seat.proposal;
  last = seat.last;
}

abbrev pub seats_of : Lists → List Seat
seats_of s = map seat_of s.seats

-- ---- a written movement, as a draft makes it

-- the lists in which a parcel is put: where there is no slot for it, a further one is opened, last
abbrev pub with_slot_for : Lists → Holder → Amount → Lists
with_slot_for s (Slot n keyword) a =
    if is_some (amount_under keyword (kept_seat_at s.seats n).slots) then s
    else with_new_slot s n keyword a.brand a.value.kind
with_slot_for s (Purse n) a = s
with_slot_for s (Payment n) a = s
with_slot_for s Hand a = s
with_slot_for s Outside a = s

-- the lists once a parcel was put
abbrev pub put_to : Lists → Holder → Amount → Lists
put_to s to a = given (with_slot_for s to a) to a.brand a.value

-- what a movement moves is taken to the hand, from a slot of nothing that is opened first where there
-- is none, and put from there
abbrev pub source_of : Lists → Movement → Lists
source_of s m = with_slot_for s m.from (amount_of m.brand m.value)

abbrev pub taken_by_hand : Lists → Movement → Lists
taken_by_hand s m = taken (source_of s m) m.from m.brand m.value

abbrev pub by_hand : Lists → Movement → Lists
by_hand s m = put_to (taken_by_hand s m) m.to (amount_of m.brand m.value)

abbrev pub all_by_hand : Lists → List Movement → Lists
all_by_hand s [] = s
all_by_hand s (m ∷ ms) = all_by_hand (by_hand s m) ms

-- where a parcel may be put: a purse, the next payment, a slot of a seat that was made; or it is
-- retired
abbrev pub MayPut : Lists → Holder → Type 0
MayPut s (Purse n) = n < length s.purses
MayPut s (Payment n) = n ≡ length s.payments
MayPut s (Slot n keyword) = n < length s.seats
MayPut s Hand = ⊥
MayPut s Outside = Unit {0}

-- what a movement moves can be taken, and may be put where it goes
pub record CanByHand (s : Lists) (m : Movement) : Type 0 where
  pub take : CanTake (source_of s m) m.from m.brand m.value
  pub put : MayPut (taken_by_hand s m) m.to

-- each, after those before it
abbrev pub CanAllByHand : Lists → List Movement → Type 0
CanAllByHand s [] = Unit {0}
CanAllByHand s (m ∷ ms) = CanByHand s m × CanAllByHand (by_hand s m) ms

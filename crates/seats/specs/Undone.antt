-- What a call left of the seats that there were before: what the call that works it backwards may count on.
use Rattle.std.specs.Prelude.{◌≡◌, ℕ, ◌<◌, List, [], ◌∷◌, ◌++◌, length}
use Rattle.ertp_mint.specs.amount_math.Content.{Contains, Content}
use Rattle.ertp_mint.specs.amount_math.declared.Amount.{Amount}
use Rattle.proposals.specs.declared.offers.Proposal.{Proposal}
use Rattle.seats.specs.Seats.{IsOpen, closed_seat, new_seat, with_further, with_less, with_more}
use Rattle.seats.specs.Store.{HasSlotIn, SeatsView, at_seat, changed_at, seat_in, slot_store}

-- a seat was opened
pub record IsOpened (instance : ℕ) (proposal : Proposal) (before after : SeatsView) : Type 0 where
  pub is : after.seats ≡ before.seats ++ new_seat instance proposal ∷ []

-- a further slot was opened in a seat
pub record HasOpenedSlot (n : ℕ) (keyword : List ℕ) (amount : Amount) (before after : SeatsView) : Type 0 where
  pub made : n < length before.seats
  pub is : after ≡ at_seat n (with_further keyword amount) before

-- a content was put in a slot that was there
pub record HasPut (n : ℕ) (keyword : List ℕ) (c : Content) (before after : SeatsView) : Type 0 where
  pub made : n < length before.seats
  pub there : HasSlotIn n keyword before
  pub is : after ≡ at_seat n (with_more keyword c) before

-- a content that was there was taken out of a slot
pub record HasTaken (n : ℕ) (keyword : List ℕ) (c : Content) (before after : SeatsView) : Type 0 where
  pub made : n < length before.seats
  pub there : HasSlotIn n keyword before
  pub has : Contains (slot_store n keyword before).amount.value.content c
  pub is : after ≡ at_seat n (with_less keyword c) before

-- an open seat was closed
pub record HasClosed (n : ℕ) (before after : SeatsView) : Type 0 where
  pub made : n < length before.seats
  pub was_open : IsOpen (seat_in n before)
  pub is : after.seats ≡ changed_at n closed_seat before.seats

-- What a draft needs for a movement between holders, which it makes by way of the hand.
use Rattle.std.specs.Prelude.{◌≡◌, ◌<◌, ℕ, List, [], ◌∷◌, IsNone, false, length}
use Rattle.draft_reads.specs.amount_math.Content.{nothing}
use Rattle.draft_reads.specs.amount_math.ValueView.{ValueView}
use Rattle.draft_reads.specs.amount_math.declared.Amount.{Amount}
use Rattle.draft_reads.specs.vault.Together.{only}
use Rattle.draft_reads.specs.proposals.Shares.{amount_under}
use Rattle.draft_reads.specs.rights_model.declared.Holder.{Holder}
use Rattle.draft_reads.specs.rights_model.declared.Holder.TheVariants.{Purse, Payment, Slot, Hand, Outside}
use Rattle.draft_reads.specs.rights_model.declared.Movement.{Movement}
use Rattle.draft_reads.specs.vault_model.Lists.{CanTake, Lists, amount_of}
use Rattle.draft_reads.specs.vault_model.Seats.{kept_seat_at}
use Rattle.draft_reads.specs.world_laws.Views.{all_by_hand, by_hand, source_of, taken_by_hand}
use Rattle.draft_reads.specs.vault.Drafts.{DraftState, HandGoes, IsClean, IsOfBrand, MayPut, given_at, hand_now}
use Rattle.draft_reads.specs.vault.Asked.{MayOpenSlot, TakesIn}

-- what it moves, as an amount
abbrev pub moved_amount : Movement → Amount
moved_amount m = amount_of m.brand m.value

-- of a slot that isn't there nothing is taken, and it may be opened
pub record MayOpenEmpty (s : Lists) (n : ℕ) (keyword : List ℕ) (w : ValueView) : Type 0 where
  pub empty : w.content ≡ nothing
  pub slot : MayOpenSlot s n keyword

pub record SlotLeaves (s : Lists) (n : ℕ) (keyword : List ℕ) (w : ValueView) : Type 0 where
  pub made : n < length s.seats
  pub opens : IsNone (amount_under keyword (kept_seat_at s.seats n).slots)
      → MayOpenEmpty s n keyword w

abbrev pub MayLeave : Lists → Holder → ℕ → ValueView → Type 0
MayLeave s (Purse n) b w = Unit {0}
MayLeave s (Payment n) b w = Unit {0}
MayLeave s (Slot n keyword) b w = SlotLeaves s n keyword w
MayLeave s Hand b w = ⊥
MayLeave s Outside b w = Unit {0}

-- where it goes, it may be put, and is a value with what is there; or it is retired
pub record MayReach (s : Lists) (to : Holder) (a : Amount) : Type 0 where
  pub put : MayPut s to a
  pub value : TakesIn s to a

abbrev pub MayArrive : Lists → Holder → Amount → Type 0
MayArrive s (Purse n) a = MayReach s (Purse n) a
MayArrive s (Payment n) a = MayReach s (Payment n) a
MayArrive s (Slot n keyword) a = MayReach s (Slot n keyword) a
MayArrive s Hand a = ⊥
MayArrive s Outside a = Unit {0}

pub record CanMoveByHand (s : Lists) (m : Movement) : Type 0 where
  pub brand : IsOfBrand s m.brand m.value
  pub leaves : MayLeave s m.from m.brand m.value
  pub take : CanTake (source_of s m) m.from m.brand m.value
  pub arrives : MayArrive (taken_by_hand s m) m.to (moved_amount m)

-- each, after those before it
abbrev pub CanMoveEach : Lists → List Movement → Type 0
CanMoveEach s [] = Unit {0}
CanMoveEach s (m ∷ ms) = CanMoveByHand s m × CanMoveEach (by_hand s m) ms

-- ---- the draft between a movement's halves, and after it

-- an amount is all that the hand has, and nothing was given up
pub record HasInHand (d : DraftState) (a : Amount) : Type 0 where
  pub sound : d.is_spoiled ≡ false
  pub hand : (b : ℕ) → hand_now d b ≡ only a.brand a.value.content b
  pub free : (b : ℕ) → given_at d b ≡ nothing

-- a draft of the same start with these lists, and with this amount in the hand
pub record IsCarrying (old new : DraftState) (s : Lists) (a : Amount) : Type 0 where
  pub now : new.now ≡ s
  pub kept : new.kept ≡ old.kept
  pub staging : new.staging ≡ old.staging
  pub has : HasInHand new a

-- a draft of the same start with these lists, and with nothing in the hand
pub record IsAfter (old new : DraftState) (s : Lists) : Type 0 where
  pub now : new.now ≡ s
  pub kept : new.kept ≡ old.kept
  pub staging : new.staging ≡ old.staging
  pub clean : IsClean new

-- of movements so many are left, which can be made, and make with those that were made what all make
pub record IsMoving (old new : DraftState) (moves left : List Movement) : Type 0 where
  pub can : CanMoveEach new.now left
  pub done : all_by_hand new.now left ≡ all_by_hand old.now moves
  pub kept : new.kept ≡ old.kept
  pub staging : new.staging ≡ old.staging
  pub clean : IsClean new
  pub goes : HandGoes new

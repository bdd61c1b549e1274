-- The hand's own store in a draft: what is taken into it and put from it, one movement after another.
use Rattle.std.specs.Prelude.{◌≡◌, ℕ, List, [], ◌∷◌, false}
use Rattle.draft_reads.specs.amount_math.Content.{Content, Contains}
use Rattle.draft_reads.specs.amount_math.ValueView.{ValueView}
use Rattle.draft_effects.specs.Steps.{MayReach, moved_amount}
use Rattle.draft_reads.specs.rights_model.declared.Holder.{Holder}
use Rattle.draft_reads.specs.rights_model.declared.Holder.TheVariants.{Purse, Payment, Slot, Hand, Outside}
use Rattle.draft_reads.specs.rights_model.declared.Movement.{Movement}
use Rattle.draft_reads.specs.rights_model.Table.{movement}
use Rattle.draft_reads.specs.vault_model.Lists.{Lists, taken}
use Rattle.draft_reads.specs.world_laws.Views.{put_to}
use Rattle.draft_reads.specs.vault.Drafts.{DraftState, HandGoes, IsOfBrand, hand_now}
use Rattle.draft_reads.specs.vault.Asked.{IsSource, brand_of, held_by}
use Rattle.draft_reads.specs.world_state.Rights.{hand_after}

-- an unspoiled draft, of which all that the hand has is in its own store
pub record StoresAll (d : DraftState) : Type 0 where
  pub sound : d.is_spoiled ≡ false
  pub stored : HandGoes d

-- such a draft of the same start, with these lists, and with this in the hand
pub record IsStoring (old new : DraftState) (s : Lists) (h : ℕ → Content) : Type 0 where
  pub now : new.now ≡ s
  pub kept : new.kept ≡ old.kept
  pub staging : new.staging ≡ old.staging
  pub stores : StoresAll new
  pub hand : hand_now new ≡ h

-- a purse or a slot has the part, or a payment has just that
pub record CanStore (s : Lists) (from : Holder) (w : ValueView) : Type 0 where
  pub source : IsSource s from w
  pub brand : IsOfBrand s (brand_of s from) w
  pub has : Contains (held_by s from) w.content

-- ---- movements to the hand, and movements from there

-- the holder that one comes from has it, and is of its brand
pub record CanLose (s : Lists) (m : Movement) : Type 0 where
  pub to : m.to ≡ Hand
  pub store : CanStore s m.from m.value
  pub brand : brand_of s m.from ≡ m.brand

-- the hand has it, and the holder that one goes to takes it
pub record CanGain (s : Lists) (h : ℕ → Content) (m : Movement) : Type 0 where
  pub from : m.from ≡ Hand
  pub has : Contains (h m.brand) m.value.content
  pub brand : IsOfBrand s m.brand m.value
  pub reach : MayReach s m.to (moved_amount m)

abbrev pub CanCarryFrom : Holder → Lists → (ℕ → Content) → Movement → Type 0
CanCarryFrom Hand s h m = CanGain s h m
CanCarryFrom (Purse n) s h m = CanLose s m
CanCarryFrom (Payment n) s h m = CanLose s m
CanCarryFrom (Slot n keyword) s h m = CanLose s m
CanCarryFrom Outside s h m = ⊥

abbrev pub CanCarry : Lists → (ℕ → Content) → Movement → Type 0
CanCarry s h m = CanCarryFrom m.from s h m

-- the lists after one, and after each in its turn
abbrev pub carried : Lists → Movement → Lists
carried s m = put_to (taken s m.from m.brand m.value) m.to (moved_amount m)

abbrev pub all_carried : Lists → List Movement → Lists
all_carried s [] = s
all_carried s (m ∷ ms) = all_carried (carried s m) ms

abbrev pub hand_after_all : (ℕ → Content) → List Movement → ℕ → Content
hand_after_all h [] = h
hand_after_all h (m ∷ ms) = hand_after_all (hand_after h m) ms

-- each can be made after those before it
abbrev pub CanCarryAll : Lists → (ℕ → Content) → List Movement → Type 0
CanCarryAll s h [] = Unit {0}
CanCarryAll s h (m ∷ ms) = CanCarry s h m × CanCarryAll (carried s m) (hand_after h m) ms

-- a movement's halves: what it moves goes to the hand, and comes from there
abbrev pub into_hand : Movement → Movement
into_hand m = movement m.brand m.from Hand m.value

abbrev pub out_of_hand : Movement → Movement
out_of_hand m = movement m.brand Hand m.to m.value

-- what is left of making movements: what was made so far is the beginning of all
pub record IsCarrying (old new : DraftState) (moves left : List Movement) : Type 0 where
  pub can : CanCarryAll new.now (hand_now new) left
  pub done : all_carried new.now left ≡ all_carried old.now moves
  pub hand : hand_after_all (hand_now new) left ≡ hand_after_all (hand_now old) moves
  pub kept : new.kept ≡ old.kept
  pub staging : new.staging ≡ old.staging
  pub stores : StoresAll new

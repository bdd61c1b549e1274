-- What written movements are like that are made in each way.
use Rattle.std.specs.Prelude.{◌≡◌, ◌≢◌, ℕ, suc, List, [], ◌∷◌, map}
use Rattle.std.specs.List.{AllByRecursion}
use Rattle.vault_model.specs.amount_math.ValueView.{ValueView}
use Rattle.vault_model.specs.Flows.{Part, gathered, spread}
use Rattle.vault_model.specs.rights_model.declared.Holder.{Holder}
use Rattle.vault_model.specs.rights_model.declared.Holder.TheVariants.{Purse, Payment, Slot, Hand, Outside}
use Rattle.vault_model.specs.rights_model.declared.Movement.{Movement}
use Rattle.world_state.specs.Rights.{IsNothing}

-- ---- each by itself

abbrev pub IsNoHand : Holder → Type 0
IsNoHand (Purse n) = Unit {0}
IsNoHand (Payment n) = Unit {0}
IsNoHand (Slot seat keyword) = Unit {0}
IsNoHand Hand = ⊥
IsNoHand Outside = Unit {0}

-- where it is a payment, a movement doesn't take from it
abbrev pub IsTakenOnce : Holder → Movement → Type 0
IsTakenOnce (Purse n) m = Unit {0}
IsTakenOnce (Payment n) m = m.from ≢ Payment n
IsTakenOnce (Slot seat keyword) m = Unit {0}
IsTakenOnce Hand m = Unit {0}
IsTakenOnce Outside m = Unit {0}

-- where it is a payment, a movement doesn't go to it
abbrev pub IsGivenOnce : Holder → Movement → Type 0
IsGivenOnce (Purse n) m = Unit {0}
IsGivenOnce (Payment n) m = m.to ≢ Payment n
IsGivenOnce (Slot seat keyword) m = Unit {0}
IsGivenOnce Hand m = Unit {0}
IsGivenOnce Outside m = Unit {0}

pub record IsApart (m : Movement) (ms : List Movement) : Type 0 where
  pub from : IsNoHand m.from
  pub to : IsNoHand m.to
  pub taken : AllByRecursion (IsTakenOnce m.from) ms
  pub given : AllByRecursion (IsGivenOnce m.to) ms

-- none goes by the hand; each payment is taken from once, and given to once
abbrev pub AreMovements : List Movement → Type 0
AreMovements [] = Unit {0}
AreMovements (m ∷ ms) = IsApart m ms × AreMovements ms

-- ---- payments that are combined, and one that is split

-- a payment, by its number, with all that it has
abbrev pub payment_part : ℕ × ValueView → Part
payment_part p = (Payment p.0, p.1)

abbrev pub IsNotAmong : ℕ → List (ℕ × ValueView) → Type 0
IsNotAmong n [] = Unit {0}
IsNotAmong n (p ∷ ps) = (p.0 ≢ n) × IsNotAmong n ps

abbrev pub AreOnce : List (ℕ × ValueView) → Type 0
AreOnce [] = Unit {0}
AreOnce (p ∷ ps) = IsNotAmong p.0 ps × AreOnce ps

-- payments, at least one and none twice, each go whole to one payment, which is none of them
pub record IsCombination (ms : List Movement) : Type 0 where
  pub brand : ℕ
  pub to : ℕ
  pub first : ℕ × ValueView
  pub others : List (ℕ × ValueView)
  pub once : AreOnce (first ∷ others)
  pub apart : IsNotAmong to (first ∷ others)
  pub is : ms ≡ gathered brand (Payment to) (map payment_part (first ∷ others))

-- payments, numbered from n, each with what it gets
abbrev pub parts_from : ℕ → List ValueView → List Part
parts_from n [] = []
parts_from n (v ∷ vs) = (Payment n, v) ∷ parts_from (suc n) vs

-- a payment goes in parts, at least one, to payments that are numbered in order
pub record IsSplit (ms : List Movement) : Type 0 where
  pub brand : ℕ
  pub from : ℕ
  pub to : ℕ
  pub first : ValueView
  pub others : List ValueView
  pub is : ms ≡ spread brand (Payment from) (parts_from to (first ∷ others))

-- ---- slots that are rearranged

abbrev pub GoesByHand : Holder → Holder → Type 0
GoesByHand (Slot seat keyword) Hand = Unit {0}
GoesByHand Hand (Slot seat keyword) = Unit {0}
GoesByHand _ _ = ⊥

-- something goes from a slot to the hand, or from the hand to a slot
pub record IsHalf (m : Movement) : Type 0 where
  pub by_hand : GoesByHand m.from m.to
  pub some : IsNothing m.value.content → ⊥

abbrev pub IsRearrangement : List Movement → Type 0
IsRearrangement ms = AllByRecursion IsHalf ms

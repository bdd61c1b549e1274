-- Written movements each of which stands by itself: the payment that one goes to is the next, and is made by it.
use Rattle.std.specs.Prelude.{◌≡◌, ℕ, suc, List, [], ◌∷◌}
use Rattle.std.specs.List.{AllByRecursion}
use Rattle.draft_reads.specs.world_state.Shapes.{IsNoHand, IsTakenOnce}
use Rattle.draft_reads.specs.rights_model.declared.Holder.{Holder}
use Rattle.draft_reads.specs.rights_model.declared.Holder.TheVariants.{Purse, Payment, Slot, Hand, Outside}
use Rattle.draft_reads.specs.rights_model.declared.Movement.{Movement}

-- it doesn't go to the hand; where so many payments were made, a payment that it goes to is the next
abbrev pub GoesToHolder : ℕ → Holder → Type 0
GoesToHolder made (Purse n) = Unit {0}
GoesToHolder made (Payment n) = n ≡ made
GoesToHolder made (Slot seat keyword) = Unit {0}
GoesToHolder made Hand = ⊥
GoesToHolder made Outside = Unit {0}

abbrev pub made_with : ℕ → Holder → ℕ
made_with made (Purse n) = made
made_with made (Payment n) = suc made
made_with made (Slot seat keyword) = made
made_with made Hand = made
made_with made Outside = made

pub record StandsAlone (made : ℕ) (m : Movement) (ms : List Movement) : Type 0 where
  pub from : IsNoHand m.from
  pub to : GoesToHolder made m.to
  pub once : AllByRecursion (IsTakenOnce m.from) ms

-- movements, where so many payments were made before
abbrev pub StandAlone : ℕ → List Movement → Type 0
StandAlone made [] = Unit {0}
StandAlone made (m ∷ ms) = StandsAlone made m ms × StandAlone (made_with made m.to) ms

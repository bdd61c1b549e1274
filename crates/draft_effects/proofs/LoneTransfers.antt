-- Movements that can be made together stand by themselves.
use Rattle.std.specs.List.{AllByRecursion}
use Rattle.std.proofs.Common.{◌≡◌, ◌≢◌, inl, inr, ℕ, ◌<◌, ◌≤◌, ◌==◌, Bool, true, false, List, [], ◌∷◌, length, refl, sym, ◌∙◌, ap, subst, arith}
use Rattle.std.proofs.lemmas.Bool.{cases_eq, eqb-true}
use Rattle.draft_reads.specs.amount_math.Content.{Content}
use Rattle.draft_reads.specs.world_state.Shapes.{AreMovements, IsGivenOnce, IsNoHand}
use Rattle.draft_reads.specs.rights_model.declared.Holder.{Holder}
use Rattle.draft_reads.specs.rights_model.declared.Holder.TheVariants.{Purse, Payment, Slot, Hand, Outside}
use Rattle.draft_reads.specs.rights_model.declared.Movement.{Movement}
use Rattle.draft_reads.specs.world_state.Good.{IsFresh}
use Rattle.draft_reads.specs.world_state.Rights.{CanGive, CanMoveAll, IsNextOr, Rights, hand_after, moved, taken}
use Rattle.draft_effects.proofs.MovementsApart.{GoesToHolder, StandAlone, made_with}
use Rattle.draft_effects.proofs.MovedPayments.{moved_long, out_long, pays_taken}

-- what was made of late isn't given to again
abbrev AreGiven : ℕ → ℕ → List Movement → Type 0
AreGiven first made ms = (k : ℕ) → first ≤ k → k < made → AllByRecursion (IsGivenOnce (Payment k)) ms

module _ (first : ℕ) (r : Rights) (m : Movement) (ms : List Movement) (given : AreGiven first (length r.payments) (m ∷ ms)) where
  goes_to : (h : Holder) → IsNoHand h → CanGive (taken r m.from m.brand m.value) h m.brand m.value → IsFresh first h → ((k : ℕ) → first ≤ k → k < length r.payments → h ≢ Payment k) → GoesToHolder (length r.payments) h
  goes_to (Purse n) here gives fresh apart = tt
  goes_to (Payment n) here gives fresh apart = by (n == length out.payments) refl gives
    where
      out : Rights
      out = taken r m.from m.brand m.value

      long : length out.payments ≡ length r.payments
      long = ap length (pays_taken r m.from m.brand m.value) ∙ out_long m.value r.payments m.from

      by : (t : Bool) → (n == length out.payments) ≡ t → IsNextOr t out n m.brand m.value → n ≡ length r.payments
      by true is next = eqb-true n (length out.payments) is ∙ long
      by false is more = absurd (apart n fresh (omega (arith, more.made, long)) refl)
  goes_to (Slot n k) here gives fresh apart = tt
  goes_to Hand here gives fresh apart = absurd here
  goes_to Outside here gives fresh apart = tt

  still_given : (h : Holder) → GoesToHolder (length r.payments) h → AllByRecursion (IsGivenOnce h) ms → AreGiven first (made_with (length r.payments) h) ms
  still_given (Purse n) goes once = λ k le lt. (given k le lt).1
  still_given (Payment n) goes once = λ k le lt. elim (cases_eq n k) [
    | inl same ↦ subst (λ q. AllByRecursion (IsGivenOnce (Payment q)) ms) same once
    | inr apart ↦ (given k le (omega (arith, lt, apart, goes))).1
  ]
  still_given (Slot n j) goes once = λ k le lt. (given k le lt).1
  still_given Hand goes once = absurd goes
  still_given Outside goes once = λ k le lt. (given k le lt).1

alone_from : (first : ℕ) (r : Rights) (hand : ℕ → Content) (ms : List Movement) → AreGiven first (length r.payments) ms → AreMovements ms → CanMoveAll r hand ms → AllByRecursion (λ (m : Movement). IsFresh first m.to) ms → StandAlone (length r.payments) ms
alone_from first r hand [] given shape can fresh = tt
alone_from first r hand (m ∷ ms) given shape can fresh = (
  record { from = shape.0.from; to = goes; once = shape.0.taken },
  subst (λ n. StandAlone n ms) (moved_long r m goes) (alone_from first (moved r m) (hand_after hand m) ms (subst (λ n. AreGiven first n ms) (sym (moved_long r m goes)) (still_given first r m ms given m.to goes shape.0.given)) shape.1 can.1 fresh.1),
)
  where
    goes : GoesToHolder (length r.payments) m.to
    goes = goes_to first r m ms given m.to shape.0.to can.0.to fresh.0 (λ k le lt. (given k le lt).0)

pub stand_alone : (r : Rights) (hand : ℕ → Content) (ms : List Movement) → AreMovements ms → CanMoveAll r hand ms → AllByRecursion (λ (m : Movement). IsFresh (length r.payments) m.to) ms → StandAlone (length r.payments) ms
stand_alone r hand ms shape can fresh = alone_from (length r.payments) r hand ms (λ k le lt. absurd (omega (arith, le, lt))) shape can fresh

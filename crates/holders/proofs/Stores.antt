-- A store in a list of them that is written twice.
use Rattle.std.proofs.Common.{◌≡◌, ℕ, zero, suc, ◌<◌, List, [], ◌∷◌, length, get_or, set, refl, ap, sym, ◌∙◌, arith}
use Rattle.std.proofs.lemmas.List.{get_or_default, get_or-set_same}
use Rattle.ertp_mint.specs.amount_math.Content.{Content}
use Rattle.ertp_mint.specs.amount_math.declared.Amount.{Amount}
use Rattle.ertp_mint.specs.Balances.{BalanceView, no_store, with_taken}

written_twice : (stores : List BalanceView) (n : ℕ) (s t : BalanceView) → set (set stores n s) n t ≡ set stores n t
written_twice [] n s t = refl
written_twice (x ∷ stores) zero s t = refl
written_twice (x ∷ stores) (suc n) s t = ap (λ ys. x ∷ ys) (written_twice stores n s t)

written_as_is : (stores : List BalanceView) (n : ℕ) (t : BalanceView) → n < length stores → t ≡ get_or stores n no_store → set stores n t ≡ stores
written_as_is [] n t lt is = absurd (omega (arith, lt))
written_as_is (x ∷ stores) zero t lt is = ap (λ y. y ∷ stores) is
written_as_is (x ∷ stores) (suc n) t lt is = ap (λ ys. x ∷ ys) (written_as_is stores n t (omega (arith, lt)) is)

module _ (stores : List BalanceView) (n : ℕ) (new old : BalanceView) (lt : n < length stores) (is : old ≡ get_or stores n old) where
  there : get_or (set stores n new) n no_store ≡ new
  there = get_or-set_same stores n new no_store lt

  was : old ≡ get_or stores n no_store
  was = is ∙ sym (get_or_default stores n no_store old lt)

  -- what makes the old store of the new one makes the old list of the new list
  pub written_over : (f : BalanceView → BalanceView) → f new ≡ old → set (set stores n new) n (f (get_or (set stores n new) n no_store)) ≡ stores
  written_over f back =
      ap (λ s. set (set stores n new) n (f s)) there
      ∙ written_twice stores n new (f new)
      ∙ written_as_is stores n (f new) lt (back ∙ was)

  -- where the room has changed too, all but it is as before
  pub taken_over : (c : Content) → (with_taken new c).amount ≡ old.amount → set (set stores n new) n (with_taken (get_or (set stores n new) n no_store) c) ≡ set stores n (record { amount = (get_or stores n no_store).amount; room = (get_or (set stores n new) n no_store).room })
  taken_over c back =
      ap (λ s. set (set stores n new) n (with_taken s c)) there
      ∙ written_twice stores n new (with_taken new c)
      ∙ written (with_taken new c).amount _ (back ∙ ap (λ (s : BalanceView). s.amount) was)
      ∙ ap (λ (s : BalanceView). set stores n (record { amount = (get_or stores n no_store).amount; room = s.room })) (sym there)
    where
      written : (a b : Amount) → a ≡ b → set stores n (record { amount = a; room = new.room }) ≡ set stores n (record { amount = b; room = new.room })
      written a b e = ap (λ x. set stores n (record { amount = x; room = new.room })) e

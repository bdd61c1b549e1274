-- A place of the table is a holder with a brand. Places are in the order of a list of numbers that tells them apart.
use Rattle.std.specs.Prelude.{◌≡◌, ℕ, zero, suc, List, [], ◌∷◌, refl}
use Rattle.std.proofs.Common.{sym, ◌∙◌, ap}
use Rattle.std.specs.Ordering.{nat_cmp, on}
use Rattle.std.specs.declared.cmp.Ordering.{Ordering}
use Rattle.std.specs.Cmp.{IsTotalOrder, on_total}
use Rattle.std.specs.Cmp.Lexicographic.{slice_cmp, nat_list_cmp_total}
use Rattle.std.specs.FinMap.{IsAntisymmetric, nat_cmp-IsAntisymmetric, slice_cmp-IsAntisymmetric}
use Rattle.std.specs.Coded.{Coded, code_by, coded_ℕ, coded_list}
use Rattle.rights_model.specs.declared.Holder.{Holder}
use Rattle.rights_model.specs.declared.Holder.TheVariants.{Purse, Payment, Slot, Hand, Outside}

abbrev pub Place : Type 0
Place = Holder × ℕ

abbrev pub numbers : Place → List ℕ
numbers (Purse n, b) = b ∷ 0 ∷ n ∷ []
numbers (Payment n, b) = b ∷ 1 ∷ n ∷ []
numbers (Slot seat keyword, b) = b ∷ 2 ∷ seat ∷ keyword
numbers (Hand, b) = b ∷ 3 ∷ []
numbers (Outside, b) = b ∷ 4 ∷ []

abbrev pub holder_of : List ℕ → Holder
holder_of (zero ∷ n ∷ ks) = Purse n
holder_of (suc zero ∷ n ∷ ks) = Payment n
holder_of (suc (suc zero) ∷ seat ∷ ks) = Slot seat ks
holder_of (suc (suc (suc zero)) ∷ ks) = Hand
holder_of _ = Outside

abbrev pub place_of : List ℕ → Place
place_of [] = (Outside, 0)
place_of (b ∷ ks) = (holder_of ks, b)

pub back : (p : Place) → place_of (numbers p) ≡ p
back (Purse n, b) = refl
back (Payment n, b) = refl
back (Slot seat keyword, b) = refl
back (Hand, b) = refl
back (Outside, b) = refl

abbrev pub place_cmp : Place → Place → Ordering
place_cmp = on numbers (slice_cmp nat_cmp)

pub place_total : IsTotalOrder place_cmp
place_total = on_total numbers nat_list_cmp_total

pub place_same : IsAntisymmetric place_cmp
place_same p q e = sym (back p) ∙ ap place_of (slice_cmp-IsAntisymmetric nat_cmp-IsAntisymmetric (numbers p) (numbers q) e) ∙ back q

abbrev pub coded_place : Coded Place
coded_place = code_by (List ℕ) (coded_list coded_ℕ) numbers place_of back

abbrev pub place : Holder → ℕ → Place
place h b = (h, b)

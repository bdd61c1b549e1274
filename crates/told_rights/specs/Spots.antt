-- The order in which places are kept: by holder's sort and number, then by brand, then by keyword.
use Rattle.std.specs.Prelude.{◌≡◌, ℕ, zero, suc, List, [], ◌∷◌, refl}
use Rattle.std.proofs.Common.{sym, ◌∙◌, ap}
use Rattle.std.specs.Ordering.{nat_cmp, on}
use Rattle.std.specs.declared.cmp.Ordering.{Ordering}
use Rattle.std.specs.Cmp.{IsTotalOrder, on_total}
use Rattle.std.specs.Cmp.Lexicographic.{slice_cmp, nat_list_cmp_total}
use Rattle.std.specs.FinMap.{IsAntisymmetric, nat_cmp-IsAntisymmetric, slice_cmp-IsAntisymmetric}
use Rattle.row_records.specs.rights_model.Place.{Place}
use Rattle.row_records.specs.rights_model.declared.Holder.{Holder}
use Rattle.row_records.specs.rights_model.declared.Holder.TheVariants.{Purse, Payment, Slot, Hand, Outside}

abbrev pub sort_of : Holder → ℕ
sort_of (Purse n) = 0
sort_of (Payment n) = 1
sort_of (Slot seat keyword) = 2
sort_of Hand = 3
sort_of Outside = 4

abbrev pub number_of : Holder → ℕ
number_of (Purse n) = n
number_of (Payment n) = n
number_of (Slot seat keyword) = seat
number_of Hand = 0
number_of Outside = 0

abbrev pub keyword_of : Holder → List ℕ
keyword_of (Slot seat keyword) = keyword
keyword_of _ = []

abbrev pub numbers : Place → List ℕ
numbers p = sort_of p.0 ∷ number_of p.0 ∷ p.1 ∷ keyword_of p.0

abbrev pub holder_of : ℕ → ℕ → List ℕ → Holder
holder_of zero n ks = Purse n
holder_of (suc zero) n ks = Payment n
holder_of (suc (suc zero)) n ks = Slot n ks
holder_of (suc (suc (suc zero))) n ks = Hand
holder_of _ n ks = Outside

abbrev pub place_of : List ℕ → Place
place_of (sort ∷ n ∷ b ∷ ks) = (holder_of sort n ks, b)
place_of _ = (Outside, 0)

pub back : (p : Place) → place_of (numbers p) ≡ p
back (Purse n, b) = refl
back (Payment n, b) = refl
back (Slot seat keyword, b) = refl
back (Hand, b) = refl
back (Outside, b) = refl

abbrev pub spot_cmp : Place → Place → Ordering
spot_cmp = on numbers (slice_cmp nat_cmp)

pub spot_total : IsTotalOrder spot_cmp
spot_total = on_total numbers nat_list_cmp_total

pub spot_same : IsAntisymmetric spot_cmp
spot_same p q e = sym (back p) ∙ ap place_of (slice_cmp-IsAntisymmetric nat_cmp-IsAntisymmetric (numbers p) (numbers q) e) ∙ back q

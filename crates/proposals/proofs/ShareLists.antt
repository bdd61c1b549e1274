-- Shares of keywords apart, and what stands under a keyword.
use Rattle.std.proofs.Common.{◌≡◌, ℕ, ◌<◌, List, [], ◌∷◌, ◌++◌, length, Bool, true, false, Some, None, cond, refl, sym, ◌∙◌, ap, arith, length-append}
use Rattle.std.specs.Str.{bytes_eq}
use Rattle.std.proofs.lemmas.Slice.Eq.{bytes_eq-Decides}
use Rattle.proposals.specs.declared.allocations.Share.{Share}
use Rattle.proposals.specs.Shares.{AreApart, AreShares, amount_under, most_shares}

-- bytes that don't match don't match the other way round
pub bytes_eq-turned : (a b : List ℕ) → bytes_eq a b ≡ false → bytes_eq b a ≡ false
bytes_eq-turned a b h = by (bytes_eq b a) (λ e. (bytes_eq-Decides b a).0 e)
  where
    both : b ≡ a → true ≡ false
    both e = sym ((bytes_eq-Decides a b).1 (sym e)) ∙ h

    by : (t : Bool) → (t ≡ true → b ≡ a) → t ≡ false
    by true f = both (f refl)
    by false f = refl

-- what stands nowhere stands neither first nor later
module _ (keyword : List ℕ) (r : Share) (rs : List Share) where
  first_by : (t : Bool) → cond t (Some r.amount) (amount_under keyword rs) ≡ None → t ≡ false
  first_by true e = absurd (cc)
  first_by false e = refl

  later_by : (t : Bool) → cond t (Some r.amount) (amount_under keyword rs) ≡ None → amount_under keyword rs ≡ None
  later_by true e = absurd (cc)
  later_by false e = e

  pub not_first : amount_under keyword (r ∷ rs) ≡ None → bytes_eq keyword r.keyword ≡ false
  not_first h = first_by (bytes_eq keyword r.keyword) h

  pub not_later : amount_under keyword (r ∷ rs) ≡ None → amount_under keyword rs ≡ None
  not_later h = later_by (bytes_eq keyword r.keyword) h

  pub none_under-cons : bytes_eq keyword r.keyword ≡ false → amount_under keyword rs ≡ None → amount_under keyword (r ∷ rs) ≡ None
  none_under-cons other none = ap (λ t. cond t (Some r.amount) (amount_under keyword rs)) other ∙ none

pub none_under-append : (keyword : List ℕ) (rs ss : List Share) → amount_under keyword rs ≡ None → amount_under keyword ss ≡ None → amount_under keyword (rs ++ ss) ≡ None
none_under-append keyword [] ss h k = k
none_under-append keyword (r ∷ rs) ss h k = none_under-cons keyword r (rs ++ ss) (not_first keyword r rs h) (none_under-append keyword rs ss (not_later keyword r rs h) k)

-- a keyword more
pub AreApart-push : (rs : List Share) (r : Share) → AreApart rs → amount_under r.keyword rs ≡ None → AreApart (rs ++ r ∷ [])
AreApart-push [] r apart free = (refl, tt)
AreApart-push (s ∷ rs) r apart free = (
  none_under-append s.keyword rs (r ∷ []) apart.0 (none_under-cons s.keyword r [] (bytes_eq-turned r.keyword s.keyword (not_first r.keyword s rs free)) refl),
  AreApart-push rs r apart.1 (not_later r.keyword s rs free),
)

pub AreShares-push : (rs : List Share) (r : Share) → AreShares rs → amount_under r.keyword rs ≡ None → length rs < most_shares → AreShares (rs ++ r ∷ [])
AreShares-push rs r shares free room = record { few = omega (arith, length-append rs (r ∷ []), room); apart = AreApart-push rs r shares.apart free }

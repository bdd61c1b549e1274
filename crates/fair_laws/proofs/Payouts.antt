-- The payouts that an exit row names: one for each slot, each under its keyword, whatever their order.
use Rattle.std.specs.Prelude.{◌≡◌, ◌≤◌, ◌+◌, ℕ, suc, Bool, true, false, cond, List, [], ◌∷◌, Option, Some, None, length, map, refl}
use Rattle.std.specs.Cmp.Lexicographic.{slice_cmp}
use Rattle.std.specs.FinMap.{nat_cmp-IsAntisymmetric, slice_cmp-IsAntisymmetric}
use Rattle.std.specs.List.{AllByRecursion}
use Rattle.std.specs.Ordering.{match_ordering, nat_cmp}
use Rattle.std.specs.Str.{bytes_eq}
use Rattle.std.specs.declared.cmp.Ordering.{Ordering}
use Rattle.std.specs.declared.cmp.Ordering.TheVariants.{Equal, Greater, Less}
use Rattle.std.proofs.Common.{sym, ◌∙◌, ap, subst, arith}
use Rattle.std.proofs.lemmas.Slice.Eq.{bytes_eq-Decides}
use Rattle.delivery_laws.specs.proposals.Shares.{AreApart, amount_under}
use Rattle.delivery_laws.specs.proposals.declared.allocations.Share.{Share}
use Rattle.delivery_laws.specs.turn_records.Printed.{printed_payouts}
use Rattle.fair_rows.specs.turn_rows.Order.{put_payout}
use Rattle.fair_rows.specs.turn_rows.Turns.{Payout}
use Rattle.fair_rows.specs.Acts.{AreNamed}
use Rattle.fair_rows.specs.Rows.{payment_under}
use Rattle.delivery_laws.specs.world_state.Worlds.{payouts_from}
use Rattle.delivery_laws.proofs.world_laws.Changes.{bytes_same}
use Rattle.fair_laws.specs.Places.{slot_name}

-- ---- one payout put among others

module _ (p : Payout) where
  not_it : (u : Payout) (us : List Payout) → payment_under p.keyword (u ∷ us) ≡ None → bytes_eq p.keyword u.keyword ≡ false
  not_it u us none = by (bytes_eq p.keyword u.keyword) none
    where
      by : (t : Bool) → cond t (Some u.payment) (payment_under p.keyword us) ≡ None → t ≡ false
      by true h = absurd cc
      by false h = refl

  none_behind : (u : Payout) (us : List Payout) → payment_under p.keyword (u ∷ us) ≡ None → payment_under p.keyword us ≡ None
  none_behind u us none = by (bytes_eq p.keyword u.keyword) none
    where
      by : (t : Bool) → cond t (Some u.payment) (payment_under p.keyword us) ≡ None → payment_under p.keyword us ≡ None
      by true h = absurd cc
      by false h = h

  not_equal : (u : Payout) (us : List Payout) → payment_under p.keyword (u ∷ us) ≡ None → slice_cmp nat_cmp p.keyword u.keyword ≡ Equal → ⊥
  not_equal u us none e = let clash : true ≡ false = sym ((bytes_eq-Decides p.keyword u.keyword).1 (slice_cmp-IsAntisymmetric nat_cmp-IsAntisymmetric p.keyword u.keyword e)) ∙ not_it u us none in cc

  put_count : (us : List Payout) → payment_under p.keyword us ≡ None → length (put_payout p us) ≡ suc (length us)
  put_count [] none = refl
  put_count (u ∷ us) none = by (slice_cmp nat_cmp p.keyword u.keyword) refl (put_count us (none_behind u us none))
    where
      by : (o : Ordering) → slice_cmp nat_cmp p.keyword u.keyword ≡ o → length (put_payout p us) ≡ suc (length us)
          → length (match_ordering o (p ∷ u ∷ us) (record p { keyword = u.keyword } ∷ us) (u ∷ put_payout p us)) ≡ suc (suc (length us))
      by Less e later = refl
      by Equal e later = absurd (not_equal u us none e)
      by Greater e later = ap suc later

  put_read : (k : List ℕ) (us : List Payout) → payment_under p.keyword us ≡ None → payment_under k (put_payout p us) ≡ payment_under k (p ∷ us)
  put_read k [] none = refl
  put_read k (u ∷ us) none = by (slice_cmp nat_cmp p.keyword u.keyword) refl (put_read k us (none_behind u us none))
    where
      -- under a keyword of the one there is none of the other
      swap : (s t : Bool) → bytes_eq k p.keyword ≡ s → bytes_eq k u.keyword ≡ t → cond t (Some u.payment) (cond s (Some p.payment) (payment_under k us)) ≡ cond s (Some p.payment) (cond t (Some u.payment) (payment_under k us))
      swap true true is also = let same : p.keyword ≡ u.keyword = sym ((bytes_eq-Decides k p.keyword).0 is) ∙ (bytes_eq-Decides k u.keyword).0 also in
          let clash : true ≡ false = sym ((bytes_eq-Decides p.keyword u.keyword).1 same) ∙ not_it u us none in absurd cc
      swap true false is also = refl
      swap false true is also = refl
      swap false false is also = refl

      by : (o : Ordering) → slice_cmp nat_cmp p.keyword u.keyword ≡ o → payment_under k (put_payout p us) ≡ payment_under k (p ∷ us)
          → payment_under k (match_ordering o (p ∷ u ∷ us) (record p { keyword = u.keyword } ∷ us) (u ∷ put_payout p us)) ≡ payment_under k (p ∷ u ∷ us)
      by Less e later = refl
      by Equal e later = absurd (not_equal u us none e)
      by Greater e later = ap (λ o. cond (bytes_eq k u.keyword) (Some u.payment) o) later ∙ swap (bytes_eq k p.keyword) (bytes_eq k u.keyword) refl refl

-- ---- those of a seat's slots

none_from : (k : List ℕ) (n : ℕ) (rs : List Share) → amount_under k rs ≡ None → payment_under k (payouts_from n rs) ≡ None
none_from k n [] none = refl
none_from k n (r ∷ rs) none = by (bytes_eq k r.keyword) none (none_from k (suc n) rs)
  where
    by : (t : Bool) → cond t (Some r.amount) (amount_under k rs) ≡ None → (amount_under k rs ≡ None → payment_under k (payouts_from (suc n) rs) ≡ None) → cond t (Some n) (payment_under k (payouts_from (suc n) rs)) ≡ None
    by true h later = absurd cc
    by false h later = later h

read_printed : (k : List ℕ) (n : ℕ) (rs : List Share) → AreApart rs → payment_under k (printed_payouts (payouts_from n rs)) ≡ payment_under k (payouts_from n rs)
read_printed k n [] a = refl
read_printed k n (r ∷ rs) a =
    put_read (record { keyword = r.keyword; payment = n }) k (printed_payouts (payouts_from (suc n) rs)) (read_printed r.keyword (suc n) rs a.1 ∙ none_from r.keyword (suc n) rs a.0)
    ∙ ap (λ o. cond (bytes_eq k r.keyword) (Some n) o) (read_printed k (suc n) rs a.1)

pub payouts_count : (n : ℕ) (rs : List Share) → AreApart rs → length (printed_payouts (payouts_from n rs)) ≡ length (map slot_name rs)
payouts_count n [] a = refl
payouts_count n (r ∷ rs) a =
    put_count (record { keyword = r.keyword; payment = n }) (printed_payouts (payouts_from (suc n) rs)) (read_printed r.keyword (suc n) rs a.1 ∙ none_from r.keyword (suc n) rs a.0)
    ∙ ap suc (payouts_count (suc n) rs a.1)

-- each slot has its own, from a number on
abbrev AreFrom : (List ℕ → Option ℕ) → ℕ → List Share → Type 0
AreFrom f n [] = Unit {0}
AreFrom f n (r ∷ rs) = (f r.keyword ≡ Some n) × AreFrom f (n + 1) rs

behind : (f : List ℕ → Option ℕ) (x : Share) (m n : ℕ) (rs : List Share) → amount_under x.keyword rs ≡ None → AreFrom f n rs → AreFrom (λ k. cond (bytes_eq k x.keyword) (Some m) (f k)) n rs
behind f x m n [] none are = tt
behind f x m n (r ∷ rs) none are = (ap (λ t. cond t (Some m) (f r.keyword)) away ∙ are.0, behind f x m (n + 1) rs rest are.1)
  where
    away : bytes_eq r.keyword x.keyword ≡ false
    away = by (bytes_eq r.keyword x.keyword) refl
      where
        clash : (t : Bool) → t ≡ true → cond t (Some r.amount) (amount_under x.keyword rs) ≡ None → ⊥
        clash true e h = cc
        clash false e h = cc

        by : (t : Bool) → bytes_eq r.keyword x.keyword ≡ t → t ≡ false
        by false e = refl
        by true e = absurd (clash (bytes_eq x.keyword r.keyword) ((bytes_eq-Decides x.keyword r.keyword).1 (sym ((bytes_eq-Decides r.keyword x.keyword).0 e))) none)

    rest : amount_under x.keyword rs ≡ None
    rest = by (bytes_eq x.keyword r.keyword) none
      where
        by : (t : Bool) → cond t (Some r.amount) (amount_under x.keyword rs) ≡ None → amount_under x.keyword rs ≡ None
        by true h = absurd cc
        by false h = h

own_from : (n : ℕ) (rs : List Share) → AreApart rs → AreFrom (λ k. payment_under k (payouts_from n rs)) n rs
own_from n [] a = tt
own_from n (r ∷ rs) a = (
  ap (λ t. cond t (Some n) (payment_under r.keyword (payouts_from (suc n) rs))) (bytes_same r.keyword),
  behind (λ k. payment_under k (payouts_from (suc n) rs)) r n (n + 1) rs a.0 (subst (λ m. AreFrom (λ k. payment_under k (payouts_from (suc n) rs)) m rs) (let e : suc n ≡ n + 1 = omega arith in e) (own_from (suc n) rs a.1)),
)

named_by : (ps : List Payout) (f : List ℕ → Option ℕ) → ((k : List ℕ) → payment_under k ps ≡ f k) → (n : ℕ) (rs : List Share) → AreFrom f n rs → AreNamed ps n (map slot_name rs)
named_by ps f same n [] are = tt
named_by ps f same n (r ∷ rs) are = (same r.keyword ∙ are.0, named_by ps f same (n + 1) rs are.1)

pub payouts_named : (n : ℕ) (rs : List Share) → AreApart rs → AreNamed (printed_payouts (payouts_from n rs)) n (map slot_name rs)
payouts_named n rs a = named_by (printed_payouts (payouts_from n rs)) (λ k. payment_under k (payouts_from n rs)) (λ k. read_printed k n rs a) n rs (own_from n rs a)

-- ---- they are of payments from a number on

put_fresh : (first : ℕ) (p : Payout) (us : List Payout) → first ≤ p.payment → AllByRecursion (λ (u : Payout). first ≤ u.payment) us → AllByRecursion (λ (u : Payout). first ≤ u.payment) (put_payout p us)
put_fresh first p [] le all = (le, tt)
put_fresh first p (u ∷ us) le all = by (slice_cmp nat_cmp p.keyword u.keyword) (put_fresh first p us le all.1)
  where
    by : (o : Ordering) → AllByRecursion (λ (v : Payout). first ≤ v.payment) (put_payout p us) → AllByRecursion (λ (v : Payout). first ≤ v.payment) (match_ordering o (p ∷ u ∷ us) (record p { keyword = u.keyword } ∷ us) (u ∷ put_payout p us))
    by Less later = (le, all)
    by Equal later = (le, all.1)
    by Greater later = (all.0, later)

fresh_from : (first n : ℕ) (rs : List Share) → first ≤ n → AllByRecursion (λ (u : Payout). first ≤ u.payment) (printed_payouts (payouts_from n rs))
fresh_from first n [] le = tt
fresh_from first n (r ∷ rs) le = put_fresh first (record { keyword = r.keyword; payment = n }) (printed_payouts (payouts_from (suc n) rs)) le (fresh_from first (suc n) rs (omega (arith, le)))

pub payouts_fresh : (first : ℕ) (rs : List Share) → AllByRecursion (λ (u : Payout). first ≤ u.payment) (printed_payouts (payouts_from first rs))
payouts_fresh first rs = fresh_from first first rs (omega arith)

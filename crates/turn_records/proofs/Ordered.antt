-- Rows and payouts are printed in form, in byte order of their keywords.
use Rattle.std.proofs.Common.{◌≡◌, ◌≤◌, ◌<◌, ℕ, suc, List, [], ◌∷◌, Bool, true, false, ◌||◌, Some, None, is_some, if◌then◌else◌, length, map, Ordering, Less, Equal, Greater, refl, sym, ◌∙◌, ap, subst, arith}
use Rattle.std.specs.Cmp.Lexicographic.{slice_cmp}
use Rattle.std.specs.FinMap.{nat_cmp-IsAntisymmetric, slice_cmp-IsAntisymmetric}
use Rattle.std.specs.List.{AllByRecursion}
use Rattle.std.specs.List.Sorted.{IsStrictlySortedBy}
use Rattle.std.specs.Ordering.{match_ordering, nat_cmp}
use Rattle.std.specs.Str.{bytes_eq}
use Rattle.std.proofs.lemmas.Slice.Eq.{bytes_eq-Decides}
use Rattle.serde_json.specs.Data as json
use Rattle.turn_rows.specs.host_text.Words.{is_keyword}
use Rattle.turn_rows.specs.amount_math.Content.{key_cmp}
use Rattle.turn_records.proofs.Fields.{sorted_put}
use Rattle.turn_records.proofs.Values.{value_form}
use Rattle.proposals.specs.Shares.{amount_under}
use Rattle.proposals.specs.declared.allocations.Share.{Share}
use Rattle.turn_rows.proofs.Order.{puts_amount, puts_payout}
use Rattle.turn_rows.specs.Form.{AreAmounts, HasAmountForm, has_keyword, names_of, objects_end}
use Rattle.turn_rows.specs.Order.{put_amount, put_payout}
use Rattle.turn_rows.specs.Rows.{amount_json, amounts_json, payment_name, payouts_json}
use Rattle.turn_rows.specs.Turns.{KeywordAmount, Payout}
use Rattle.turn_records.specs.Printed.{printed_payouts, printed_share, printed_shares}
use Rattle.turn_records.specs.Tellable.{IsTellablePayout, IsTellableShare}
use Rattle.turn_rows.specs.Editions.{written}

none_sorted : IsStrictlySortedBy key_cmp []
unfolding IsStrictlySortedBy
none_sorted = tt

Rise : List (List ℕ) → Type 0
Rise names = IsStrictlySortedBy key_cmp names

-- ---- amounts

amount_names : (rs : List KeywordAmount) → names_of (amounts_json rs) ≡ map (λ a. a.keyword) rs
amount_names [] = refl
amount_names (r ∷ rs) = ap (λ names. r.keyword ∷ names) (amount_names rs)

amounts_rise : (r : KeywordAmount) (rs : List KeywordAmount) → IsStrictlySortedBy key_cmp (map (λ a. a.keyword) rs) → IsStrictlySortedBy key_cmp (map (λ a. a.keyword) (put_amount r rs))
unfolding Rise
amounts_rise r rs h =
    subst Rise (sym (ap names_of (puts_amount r rs)) ∙ amount_names (put_amount r rs))
    (sorted_put r.keyword (amount_json r.brand r.value) (amounts_json rs) (subst Rise (sym (amount_names rs)) h))

shares_rise : (rs : List Share) → IsStrictlySortedBy key_cmp (map (λ a. a.keyword) (printed_shares rs))
shares_rise [] = none_sorted
shares_rise (r ∷ rs) = amounts_rise (printed_share r) (printed_shares rs) (shares_rise rs)

share_is : (r : Share) → IsTellableShare r → HasAmountForm written (printed_share r)
share_is r h = record { keyword = h.keyword; brand = h.brand; value = value_form r.amount.value h.value.value h.value.texts }

put_each : (o : Ordering) (r u : KeywordAmount) (us vs : List KeywordAmount) → HasAmountForm written r → AllByRecursion (HasAmountForm written) (u ∷ us) → AllByRecursion (HasAmountForm written) vs
    → AllByRecursion (HasAmountForm written) (match_ordering o (r ∷ u ∷ us) (record r { keyword = u.keyword } ∷ us) (u ∷ vs))
put_each Less r u us vs is h more = (is, h)
put_each Equal r u us vs is h more = (record { keyword = h.0.keyword; brand = is.brand; value = is.value }, h.1)
put_each Greater r u us vs is h more = (h.0, more)

amounts_put : (r : KeywordAmount) (rs : List KeywordAmount) → HasAmountForm written r → AllByRecursion (HasAmountForm written) rs → AllByRecursion (HasAmountForm written) (put_amount r rs)
amounts_put r [] is h = (is, tt)
amounts_put r (u ∷ us) is h = put_each (slice_cmp nat_cmp r.keyword u.keyword) r u us (put_amount r us) is h (amounts_put r us is h.1)

shares_each : (rs : List Share) → AllByRecursion IsTellableShare rs → AllByRecursion (HasAmountForm written) (printed_shares rs)
shares_each [] h = tt
shares_each (r ∷ rs) h = amounts_put (printed_share r) (printed_shares rs) (share_is r h.0) (shares_each rs h.1)

pub shares_are : (rs : List Share) → AllByRecursion IsTellableShare rs → AreAmounts written (printed_shares rs)
shares_are rs h = record { each = shares_each rs h; rising = shares_rise rs }

-- ---- keywords

either_first : (a b c : Bool) → (b || (a || c)) ≡ (a || (b || c))
either_first true true c = refl
either_first true false c = refl
either_first false b c = refl

same_twice : (a c : Bool) → (a || c) ≡ (a || (a || c))
same_twice true c = refl
same_twice false c = refl

keyword_put : (k : List ℕ) (r : KeywordAmount) (rs : List KeywordAmount) → has_keyword k (put_amount r rs) ≡ (bytes_eq k r.keyword || has_keyword k rs)
keyword_put k r [] = refl
keyword_put k r (u ∷ us) = by (slice_cmp nat_cmp r.keyword u.keyword) refl (keyword_put k r us)
  where
    by : (o : Ordering) → slice_cmp nat_cmp r.keyword u.keyword ≡ o → has_keyword k (put_amount r us) ≡ (bytes_eq k r.keyword || has_keyword k us)
        → has_keyword k (match_ordering o (r ∷ u ∷ us) (record r { keyword = u.keyword } ∷ us) (u ∷ put_amount r us)) ≡ (bytes_eq k r.keyword || (bytes_eq k u.keyword || has_keyword k us))
    by Less e rest = refl
    by Equal e rest =
        let same : r.keyword ≡ u.keyword = slice_cmp-IsAntisymmetric nat_cmp-IsAntisymmetric r.keyword u.keyword e in
        same_twice (bytes_eq k u.keyword) (has_keyword k us) ∙ ap (λ s. bytes_eq k s || (bytes_eq k u.keyword || has_keyword k us)) (sym same)
    by Greater e rest = ap (λ b. bytes_eq k u.keyword || b) rest ∙ either_first (bytes_eq k r.keyword) (bytes_eq k u.keyword) (has_keyword k us)

some_under : (k : List ℕ) (r : Share) (rs : List Share) → is_some (amount_under k (r ∷ rs)) ≡ (bytes_eq k r.keyword || is_some (amount_under k rs))
some_under k r rs = by (bytes_eq k r.keyword)
  where
    by : (b : Bool) → is_some (if b then Some r.amount else amount_under k rs) ≡ (b || is_some (amount_under k rs))
    by true = refl
    by false = refl

shares_keyword : (k : List ℕ) (rs : List Share) → has_keyword k (printed_shares rs) ≡ is_some (amount_under k rs)
shares_keyword k [] = refl
shares_keyword k (r ∷ rs) = keyword_put k (printed_share r) (printed_shares rs) ∙ ap (λ b. bytes_eq k r.keyword || b) (shares_keyword k rs) ∙ sym (some_under k r rs)

-- what stands under a keyword of one list stands under none of the other
apart_under : (k : List ℕ) (rs us : List Share) → AllByRecursion (λ (r : Share). amount_under r.keyword us ≡ None) rs → is_some (amount_under k rs) ≡ true → amount_under k us ≡ None
apart_under k [] us apart has = cc
apart_under k (r ∷ rs) us apart has = by (bytes_eq k r.keyword) refl has (apart_under k rs us apart.1)
  where
    by : (b : Bool) → bytes_eq k r.keyword ≡ b → is_some (if b then Some r.amount else amount_under k rs) ≡ true → (is_some (amount_under k rs) ≡ true → amount_under k us ≡ None) → amount_under k us ≡ None
    by true e h rest = ap (λ s. amount_under s us) ((bytes_eq-Decides k r.keyword).0 e) ∙ apart.0
    by false e h rest = rest h

pub shares_apart : (rs us : List Share) → AllByRecursion (λ (r : Share). amount_under r.keyword us ≡ None) rs → (k : List ℕ) → has_keyword k (printed_shares rs) ≡ true → has_keyword k (printed_shares us) ≡ false
shares_apart rs us apart k has = shares_keyword k us ∙ ap is_some (apart_under k rs us apart (sym (shares_keyword k rs) ∙ has))

-- ---- how many

put_count : (o : Ordering) (r u v : KeywordAmount) (us vs : List KeywordAmount) → length vs ≤ suc (length us) → length (match_ordering o (r ∷ u ∷ us) (v ∷ us) (u ∷ vs)) ≤ suc (suc (length us))
put_count Less r u v us vs h = omega (arith, h)
put_count Equal r u v us vs h = omega (arith, h)
put_count Greater r u v us vs h = omega (arith, h)

amounts_count : (r : KeywordAmount) (rs : List KeywordAmount) → length (put_amount r rs) ≤ suc (length rs)
amounts_count r [] = omega arith
amounts_count r (u ∷ us) = put_count (slice_cmp nat_cmp r.keyword u.keyword) r u (record r { keyword = u.keyword }) us (put_amount r us) (amounts_count r us)

pub shares_count : (rs : List Share) → length (printed_shares rs) ≤ length rs
shares_count [] = omega arith
shares_count (r ∷ rs) = omega (arith, amounts_count (printed_share r) (printed_shares rs), shares_count rs)

-- ---- payouts

payout_names : (ps : List Payout) → names_of (payouts_json ps) ≡ map (λ p. p.keyword) ps
payout_names [] = refl
payout_names (p ∷ ps) = ap (λ names. p.keyword ∷ names) (payout_names ps)

payout_rises : (p : Payout) (ps : List Payout) → IsStrictlySortedBy key_cmp (map (λ q. q.keyword) ps) → IsStrictlySortedBy key_cmp (map (λ q. q.keyword) (put_payout p ps))
unfolding Rise
payout_rises p ps h =
    subst Rise (sym (ap names_of (puts_payout p ps)) ∙ payout_names (put_payout p ps))
    (sorted_put p.keyword (json.string (payment_name p.payment)) (payouts_json ps) (subst Rise (sym (payout_names ps)) h))

pub payouts_rise : (ps : List Payout) → IsStrictlySortedBy key_cmp (map (λ p. p.keyword) (printed_payouts ps))
payouts_rise [] = none_sorted
payouts_rise (p ∷ ps) = payout_rises p (printed_payouts ps) (payouts_rise ps)

payout_each : (o : Ordering) (p u : Payout) (us vs : List Payout) → IsTellablePayout p → AllByRecursion IsTellablePayout (u ∷ us) → AllByRecursion IsTellablePayout vs
    → AllByRecursion IsTellablePayout (match_ordering o (p ∷ u ∷ us) (record p { keyword = u.keyword } ∷ us) (u ∷ vs))
payout_each Less p u us vs is h more = (is, h)
payout_each Equal p u us vs is h more = ((h.0.0, is.1), h.1)
payout_each Greater p u us vs is h more = (h.0, more)

payout_put : (p : Payout) (ps : List Payout) → IsTellablePayout p → AllByRecursion IsTellablePayout ps → AllByRecursion IsTellablePayout (put_payout p ps)
payout_put p [] is h = (is, tt)
payout_put p (u ∷ us) is h = payout_each (slice_cmp nat_cmp p.keyword u.keyword) p u us (put_payout p us) is h (payout_put p us is h.1)

pub payouts_each : (ps : List Payout) → AllByRecursion IsTellablePayout ps → AllByRecursion IsTellablePayout (printed_payouts ps)
payouts_each [] h = tt
payouts_each (p ∷ ps) h = payout_put p (printed_payouts ps) h.0 (payouts_each ps h.1)

pub payout_keywords : (ps : List Payout) → AllByRecursion IsTellablePayout ps → AllByRecursion (λ p. is_keyword p.keyword ≡ true) ps
payout_keywords [] h = tt
payout_keywords (p ∷ ps) h = (h.0.0, payout_keywords ps h.1)

pub payout_numbers : (ps : List Payout) → AllByRecursion IsTellablePayout ps → AllByRecursion (λ p. p.payment < objects_end) ps
payout_numbers [] h = tt
payout_numbers (p ∷ ps) h = (h.0.1, payout_numbers ps h.1)

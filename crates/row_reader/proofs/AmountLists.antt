-- Amounts and payouts by the members of their JSON.
use Rattle.std.proofs.Common.{◌≡◌, ◌<◌, ℕ, true, List, [], ◌∷◌, ◌++◌, map, String, Global, string_bytes, string_cmp, refl, sym, ap, subst, ◌∙◌, append-nil}
use Rattle.std.specs.List.{AllByRecursion}
use Rattle.std.specs.List.Sorted.{IsStrictlySortedBy}
use Rattle.std.specs.Map.{keys_of}
use Rattle.std.specs.declared.cmp.Ordering.TheVariants.{Less}
use Rattle.serde_json.specs.Data as json
use Rattle.serde_json.specs.Data.{Data, Members, no_members, member}
use Rattle.serde_json.specs.View.{members_view, view}
use Rattle.serde_json.proofs.Views.{Entry}
use Rattle.turn_rows.specs.Form.{AreAmounts, HasAmountForm, names_of, objects_end}
use Rattle.turn_rows.specs.Rows.{amount_json, amounts_json, payment_name, payouts_json}
use Rattle.turn_rows.specs.Turns.{KeywordAmount, Payout}
use Rattle.turn_rows.specs.amount_math.Content.{key_cmp}
use Rattle.turn_rows.specs.declared.editions.Edition.{Edition}
use Rattle.turn_rows.specs.host_text.Words.{is_keyword}
use Rattle.row_reader.specs.Amounts.{ArePayouts, HasPayoutForm, amount_pair, payout_pair}

pub all_more : {A B : Type 0} (P : B → Type 0) (f : A → B) (xs : List A) (x : A) → AllByRecursion P (map f xs) → P (f x) → AllByRecursion P (map f (xs ++ x ∷ []))
all_more P f [] x h one = (one, tt)
all_more P f (y ∷ xs) x h one = (h.0, all_more P f xs x h.1 one)

pub map_more : {A B : Type 0} (f : A → B) (xs : List A) (x : A) → map f (xs ++ x ∷ []) ≡ map f xs ++ f x ∷ []
map_more f [] x = refl
map_more f (y ∷ xs) x = ap (λ (ys : List _). f y ∷ ys) (map_more f xs x)

-- ---- amounts, one after another

pub amounts_grow : (rows : List KeywordAmount) (a : KeywordAmount) (es : List Entry) (e : Entry) → amounts_json rows ≡ members_view es → amount_pair a ≡ (string_bytes e.0, view e.1)
    → amounts_json (rows ++ a ∷ []) ≡ members_view (es ++ e ∷ [])
amounts_grow [] a [] e h p = ap (λ (q : List ℕ × Data). member q.0 q.1 no_members) p
amounts_grow [] a (d ∷ es) e h p = absurd (cc)
amounts_grow (r ∷ rs) a [] e h p = absurd (cc)
amounts_grow (r ∷ rs) a (d ∷ es) e h p =
    let name : r.keyword ≡ string_bytes d.0 = cc in
    let value : amount_json r.brand r.value ≡ view d.1 = cc in
    let rest : amounts_json rs ≡ members_view es = cc in
    let more : amounts_json (rs ++ a ∷ []) ≡ members_view (es ++ e ∷ []) = amounts_grow rs a es e rest p in
    ap (λ k. member k (amount_json r.brand r.value) (amounts_json (rs ++ a ∷ []))) name ∙ ap (λ v. member (string_bytes d.0) v (amounts_json (rs ++ a ∷ []))) value ∙ ap (member (string_bytes d.0) (view d.1)) more

pub amounts_stop : (d : Edition) (rows : List KeywordAmount) (es : List Entry) (e : Entry) (more : List Entry) → ((a : KeywordAmount) → HasAmountForm d a → amount_pair a ≡ (string_bytes e.0, view e.1) → ⊥)
    → AllByRecursion (HasAmountForm d) rows → amounts_json rows ≡ members_view (es ++ e ∷ more) → ⊥
amounts_stop d [] [] e more bad h same = absurd (cc)
amounts_stop d [] (x ∷ es) e more bad h same = absurd (cc)
amounts_stop d (r ∷ rs) [] e more bad h same =
    let name : r.keyword ≡ string_bytes e.0 = cc in
    let value : amount_json r.brand r.value ≡ view e.1 = cc in
    bad r h.0 (λ i. (name i, value i))
amounts_stop d (r ∷ rs) (x ∷ es) e more bad h same = let rest : amounts_json rs ≡ members_view (es ++ e ∷ more) = cc in amounts_stop d rs es e more bad h.1 rest

pub keywords_are : (rows : List KeywordAmount) → names_of (amounts_json rows) ≡ map (λ a. a.keyword) rows
keywords_are [] = refl
keywords_are (r ∷ rs) = ap (λ (ks : List (List ℕ)). r.keyword ∷ ks) (keywords_are rs)

-- ---- names stand in order

all_below : (k : String Global) (es : List Entry) → AllByRecursion (λ y. string_cmp k y ≡ Less) (keys_of es) → AllByRecursion (λ y. key_cmp (string_bytes k) y ≡ Less) (names_of (members_view es))
all_below k [] h = tt
all_below k (e ∷ es) h = (h.0, all_below k es h.1)

pub names_rise : (es : List Entry) → IsStrictlySortedBy string_cmp (keys_of es) → IsStrictlySortedBy key_cmp (names_of (members_view es))
unfolding IsStrictlySortedBy
names_rise [] h = tt
names_rise (e ∷ es) h = (all_below e.0 es h.0, names_rise es h.1)

-- all were read
pub amounts_all : (d : Edition) (rows : List KeywordAmount) (es : List Entry) → IsStrictlySortedBy string_cmp (keys_of es) → amounts_json rows ≡ members_view es → AllByRecursion (HasAmountForm d) rows → AreAmounts d rows
amounts_all d rows es up same each = record {
  each = each;
  rising = subst (IsStrictlySortedBy key_cmp) (sym (ap names_of same) ∙ keywords_are rows) (names_rise es up);
}

-- ---- payouts

pub payouts_grow : (ps : List Payout) (p : Payout) (es : List Entry) (e : Entry) → payouts_json ps ≡ members_view es → payout_pair p ≡ (string_bytes e.0, view e.1)
    → payouts_json (ps ++ p ∷ []) ≡ members_view (es ++ e ∷ [])
payouts_grow [] p [] e h one = ap (λ (q : List ℕ × Data). member q.0 q.1 no_members) one
payouts_grow [] p (d ∷ es) e h one = absurd (cc)
payouts_grow (r ∷ rs) p [] e h one = absurd (cc)
payouts_grow (r ∷ rs) p (d ∷ es) e h one =
    let name : r.keyword ≡ string_bytes d.0 = cc in
    let value : json.string (payment_name r.payment) ≡ view d.1 = cc in
    let rest : payouts_json rs ≡ members_view es = cc in
    let more : payouts_json (rs ++ p ∷ []) ≡ members_view (es ++ e ∷ []) = payouts_grow rs p es e rest one in
    ap (λ k. member k (json.string (payment_name r.payment)) (payouts_json (rs ++ p ∷ []))) name ∙ ap (λ v. member (string_bytes d.0) v (payouts_json (rs ++ p ∷ []))) value ∙ ap (member (string_bytes d.0) (view d.1)) more

pub payouts_stop : (ps : List Payout) (es : List Entry) (e : Entry) (more : List Entry) → ((p : Payout) → HasPayoutForm p → payout_pair p ≡ (string_bytes e.0, view e.1) → ⊥)
    → ArePayouts ps → payouts_json ps ≡ members_view (es ++ e ∷ more) → ⊥
unfolding IsStrictlySortedBy
payouts_stop [] [] e more bad h same = absurd (cc)
payouts_stop [] (x ∷ es) e more bad h same = absurd (cc)
payouts_stop (r ∷ rs) [] e more bad h same =
    let name : r.keyword ≡ string_bytes e.0 = cc in
    let value : json.string (payment_name r.payment) ≡ view e.1 = cc in
    bad r (h.keywords.0, h.payments.0) (λ i. (name i, value i))
payouts_stop (r ∷ rs) (x ∷ es) e more bad h same =
    let rest : payouts_json rs ≡ members_view (es ++ e ∷ more) = cc in
    payouts_stop rs es e more bad (record { keywords = h.keywords.1; payments = h.payments.1; rising = h.rising.1 }) rest

pub payout_names : (ps : List Payout) → names_of (payouts_json ps) ≡ map (λ p. p.keyword) ps
payout_names [] = refl
payout_names (r ∷ rs) = ap (λ (ks : List (List ℕ)). r.keyword ∷ ks) (payout_names rs)

all_keywords : (ps : List Payout) → AllByRecursion HasPayoutForm ps → AllByRecursion (λ p. is_keyword p.keyword ≡ true) ps
all_keywords [] h = tt
all_keywords (p ∷ ps) h = (h.0.0, all_keywords ps h.1)

all_payments : (ps : List Payout) → AllByRecursion HasPayoutForm ps → AllByRecursion (λ p. p.payment < objects_end) ps
all_payments [] h = tt
all_payments (p ∷ ps) h = (h.0.1, all_payments ps h.1)

pub payouts_all : (ps : List Payout) (es : List Entry) → IsStrictlySortedBy string_cmp (keys_of es) → payouts_json ps ≡ members_view es → AllByRecursion HasPayoutForm ps → ArePayouts ps
payouts_all ps es up same each = record {
  keywords = all_keywords ps each;
  payments = all_payments ps each;
  rising = subst (IsStrictlySortedBy key_cmp) (sym (ap names_of same) ∙ payout_names ps) (names_rise es up);
}

-- the entries, up to one and from there on
pub up_to : (es done more : List Entry) (rest : List Entry) (e : Entry) → es ≡ done ++ rest → rest ≡ e ∷ more → es ≡ done ++ e ∷ more
up_to es done more rest e all is = all ∙ ap (λ (xs : List Entry). done ++ xs) is

pub to_end : (es done rest : List Entry) → es ≡ done ++ rest → rest ≡ [] → es ≡ done
to_end es done rest all is = all ∙ ap (λ (xs : List Entry). done ++ xs) is ∙ append-nil done

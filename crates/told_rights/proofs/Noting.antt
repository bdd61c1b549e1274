-- What is out of brands: what one more issue makes of it, and of what passes the bounds.
use Rattle.std.proofs.Common.{◌≡◌, ◌≢◌, inl, inr, ℕ, ◌+◌, ◌-◌, ◌<◌, ◌==◌, true, false, cond, Some, List, [], ◌∷◌, get_or, length, map, refl, sym, ap, subst, ◌∙◌, arith}
use Rattle.std.proofs.lemmas.Bool.{cases_eq, eq-eqb, false≢true, ne_eqb, true≢false}
use Rattle.std.specs.BTreeMap.{is_at}
use Rattle.std.specs.Cmp.{nat_cmp_total, tied_itself}
use Rattle.std.specs.Map.{lookup}
use Rattle.std.specs.Option.{unwrap_or}
use Rattle.std.specs.Ordering.{is_eq, nat_cmp}
use Rattle.row_records.specs.amount_math.Content.{Content, count, count-difference, count-nothing, count-sum, difference, listed, nothing, same_content, sum}
use Rattle.row_records.specs.amount_math.declared.Kind.{Kind}
use Rattle.row_records.specs.Views.{element_view}
use Rattle.row_records.specs.amount_math.ValueView.{bag_bound}
use Rattle.row_records.specs.amount_math.declared.Kind.TheVariants as kinds
use Rattle.row_records.specs.declared.rows.Element.{Element as CodeElement}
use Rattle.row_records.specs.fair_rows.Values.{IsValueOf, content_of}
use Rattle.row_records.specs.turn_rows.Editions.{nat_end}
use Rattle.row_records.specs.turn_rows.Turns.{Element, Value, counted, elements, key, number}
use Rattle.row_records.specs.turn_rows.declared.editions.Edition.{Edition}
use Rattle.told_rights.specs.Listing.{entries_of}
use Rattle.told_rights.specs.Shelves.{AreFilled, IsPut, content_at}
use Rattle.told_rights.specs.Supplies.{AreWithin, IsBounded, IsNoted, Supply, most_of, out_of, over_of}
use Rattle.told_rights.proofs.Formed.{bag_has_counts, bag_is_no_number, nat_has_none, set_has_keys, set_is_no_number}
use Rattle.told_rights.proofs.Joined.{at_other}
use Rattle.told_rights.proofs.ValueElements.{count_listed_in, first_of}

abbrev Rows : Type 0
Rows = List (ℕ × Content)

tied_at : (n : ℕ) → is_at (nat_cmp n) n ≡ true
tied_at n = ap is_eq (tied_itself nat_cmp_total n)

pub put_here : (old new : Rows) (k : ℕ) (c : Content) → IsPut nat_cmp old new k c → content_at nat_cmp new k ≡ c
put_here old new k c is = is.each k ∙ ap (λ b. cond b c (content_at nat_cmp old k)) (tied_at k)

pub put_else : (old new : Rows) (k : ℕ) (c : Content) → IsPut nat_cmp old new k c → (b : ℕ) → b ≢ k → content_at nat_cmp new b ≡ content_at nat_cmp old b
put_else old new k c is b other = is.each b ∙ ap (λ t. cond t c (content_at nat_cmp old b)) (at_other k b (λ e. other (sym e)))

-- contents were pulled, and others put in their place
module _ (old mid new : Rows) (k : ℕ) (c : Content) (gone : IsPut nat_cmp old mid k nothing) (back : IsPut nat_cmp mid new k c) where
  pub swapped_else : (b : ℕ) → b ≢ k → content_at nat_cmp new b ≡ content_at nat_cmp old b
  swapped_else b other = put_else mid new k c back b other ∙ put_else old mid k nothing gone b other

  pub swapped_here : content_at nat_cmp new k ≡ c
  swapped_here = put_here mid new k c back

  pub swapped : (f : Content → Content) → c ≡ f (content_at nat_cmp old k) → (b : ℕ) → content_at nat_cmp new b ≡ cond (k == b) (f (content_at nat_cmp old b)) (content_at nat_cmp old b)
  swapped f is b = elim (cases_eq b k) [
    | inl same ↦ subst (λ x. content_at nat_cmp new x ≡ cond (k == x) (f (content_at nat_cmp old x)) (content_at nat_cmp old x)) (sym same) (swapped_here ∙ is ∙ ap (λ t. cond t (f (content_at nat_cmp old k)) (content_at nat_cmp old k)) (sym (eq-eqb k k refl)))
    | inr other ↦ swapped_else b other ∙ ap (λ t. cond t (f (content_at nat_cmp old b)) (content_at nat_cmp old b)) (sym (apart b other))
  ]
    where
      apart : (b : ℕ) → b ≢ k → (k == b) ≡ false
      apart b other = ne_eqb k b (λ e. other (sym e))

-- the excess of a brand was noted
pub noted : (old mid new : Rows) (brand : ℕ) (v : Value) (out : Content) (most : ℕ) (held after : Content) → held ≡ content_at nat_cmp old brand → IsPut nat_cmp old mid brand nothing → IsPut nat_cmp mid new brand after
    → ((k : List ℕ) → count (content_of v) k ≢ 0 → count after k ≡ count out k - most)
    → ((k : List ℕ) → count (content_of v) k ≡ 0 → count after k ≡ count held k)
    → IsNoted brand v out most old new
noted old mid new brand v out most held after pulled gone back listed others = record {
  listed = λ k some. ap (λ c. count c k) (put_here mid new brand after back) ∙ listed k some;
  others = λ k none. ap (λ c. count c k) (put_here mid new brand after back) ∙ others k none ∙ ap (λ c. count c k) pulled;
  brands = λ b other. swapped_else old mid new brand after gone back b other;
}

not_empty : (v : Value) (k : List ℕ) → count (content_of v) k ≢ 0 → entries_of v ≢ []
not_empty v k some is = some (count_listed_in v k ∙ ap (λ es. listed es k) is)

-- what is over stays what passes the bound, of each kind of which the values are
module _ (s t : Supply) (brand : ℕ) (v : Value) (out : Content) (most : ℕ) (edition : t.edition ≡ s.edition) (is : IsNoted brand v out most s.over t.over) (now : out_of t brand ≡ out) (rest : (b : ℕ) → b ≢ brand → out_of t b ≡ out_of s b) (same : (k : List ℕ) → count (content_of v) k ≡ 0 → count out k ≡ count (out_of s brand) k) (bound : (kind : Kind) → IsValueOf kind v → entries_of v ≢ [] → most ≡ most_of s.edition kind) where
  here : (kind : Kind) → IsValueOf kind v → IsBounded brand kind s → (k : List ℕ) → count (over_of t brand) k ≡ count (out_of t brand) k - most_of t.edition kind
  here kind value bounded k =
      let after : count out k - most_of s.edition kind ≡ count (out_of t brand) k - most_of t.edition kind = λ i. count (sym now i) k - most_of (sym edition i) kind in
      elim (cases_eq (count (content_of v) k) 0) [
        | inl none ↦ is.others k none ∙ bounded.over k ∙ ap (λ n. n - most_of s.edition kind) (sym (same k none)) ∙ after
        | inr some ↦ is.listed k some ∙ ap (λ n. count out k - n) (bound kind value (not_empty v k some)) ∙ after
      ]

  pub stays_bounded : (b : ℕ) (kind : Kind) → (b ≡ brand → IsValueOf kind v) → IsBounded b kind s → IsBounded b kind t
  stays_bounded b kind value bounded = elim (cases_eq b brand) [
    | inl at ↦ subst (λ x. IsBounded x kind t) (sym at) (record { over = here kind (value at) (subst (λ x. IsBounded x kind s) at bounded) })
    | inr other ↦ record { over = λ k. ap (λ c. count c k) (is.brands b other) ∙ bounded.over k ∙ (λ i. count (sym (rest b other) i) k - most_of (sym edition i) kind) }
  ]

pub sum_same : (c : Content) (v : Value) (k : List ℕ) → count (content_of v) k ≡ 0 → count (sum c (content_of v)) k ≡ count c k
sum_same c v k none = count-sum c (content_of v) k ∙ zero_right none
  where
    zero_right : count (content_of v) k ≡ 0 → count c k + count (content_of v) k ≡ count c k
    zero_right h = omega (arith, h)

pub difference_same : (c : Content) (v : Value) (k : List ℕ) → count (content_of v) k ≡ 0 → count (difference c (content_of v)) k ≡ count c k
difference_same c v k none = count-difference c (content_of v) k ∙ minus_none none
  where
    minus_none : count (content_of v) k ≡ 0 → count c k - count (content_of v) k ≡ count c k
    minus_none h = omega (arith, h)

module _ (edition : Edition) (old mid new over over_new : Rows) (brand : ℕ) (v : Value) (held after : Content) (most : ℕ) (pulled : held ≡ content_at nat_cmp old brand) (gone : IsPut nat_cmp old mid brand nothing) (is : IsNoted brand v after most over over_new) (back : IsPut nat_cmp mid new brand after) where
  abbrev before : Supply
  before = record { edition = edition; out = old; over = over }

  abbrev behind : Supply
  behind = record { edition = edition; out = new; over = over_new }

  pub out_after : (s : Supply) → before ≡ s → (f : Content → Content) → after ≡ f held → (b : ℕ) → content_at nat_cmp new b ≡ cond (brand == b) (f (out_of s b)) (out_of s b)
  out_after s view f made b = subst (λ (x : Supply). content_at nat_cmp new b ≡ cond (brand == b) (f (out_of x b)) (out_of x b)) view (swapped old mid new brand after gone back f (made ∙ ap f pulled) b)

  pub bounded_after : (s : Supply) → before ≡ s → ((kind : Kind) → IsValueOf kind v → entries_of v ≢ [] → most ≡ most_of edition kind) → ((k : List ℕ) → count (content_of v) k ≡ 0 → count after k ≡ count held k) → (b : ℕ) (kind : Kind) → (b ≡ brand → IsValueOf kind v) → IsBounded b kind s → IsBounded b kind behind
  bounded_after s view bound same b kind value bounded =
      stays_bounded before behind brand v after most refl is (swapped_here old mid new brand after gone back) (swapped_else old mid new brand after gone back) (λ k none. same k none ∙ ap (λ c. count c k) pulled) bound b kind value
      (subst (λ (x : Supply). IsBounded b kind x) (sym view) bounded)

-- ---- within the bounds

nothing_from : (c : Content) → ((k : List ℕ) → count c k ≡ 0) → c ≡ nothing
nothing_from c each = same_content c nothing (λ k. each k ∙ sym (count-nothing k))

no_rows : (rows : Rows) → AreFilled nat_cmp rows → ((b : ℕ) → content_at nat_cmp rows b ≡ nothing) → length rows ≡ 0
no_rows [] filled none = refl
no_rows (e ∷ es) filled none = absurd (filled.filled e.0 (found ∙ ap Some (sym (ap (λ o. unwrap_or o nothing) found) ∙ none e.0)))
  where
    found : lookup (is_at (nat_cmp e.0)) (e ∷ es) ≡ Some e.1
    found = ap (λ b. cond b (Some e.1) (lookup (is_at (nat_cmp e.0)) es)) (tied_at e.0)

none_in : (rows : Rows) → length rows ≡ 0 → (b : ℕ) → content_at nat_cmp rows b ≡ nothing
none_in [] e b = refl
none_in (r ∷ rows) e b = absurd (omega (arith, e))

module _ (s : Supply) (filled : AreFilled nat_cmp s.over) (kind_of : ℕ → Kind) (bounded : (b : ℕ) → IsBounded b (kind_of b) s) where
  pub within_if_none : length s.over ≡ 0 → AreWithin kind_of s
  within_if_none none = record { each = λ b k. let over = (bounded b).over k in let zero_over = ap (λ c. count c k) (none_in s.over none b) in let nothing_counts = count-nothing k in omega (arith, over, zero_over, nothing_counts) }

  pub none_if_within : AreWithin kind_of s → length s.over ≡ 0
  none_if_within within = no_rows s.over filled (λ b. nothing_from (over_of s b) (λ k. let over = (bounded b).over k in let small = within.each b k in omega (arith, over, small)))

pub none_bounded : (s : Supply) → s.out ≡ [] → s.over ≡ [] → (b : ℕ) (kind : Kind) → IsBounded b kind s
none_bounded s out over b kind = record {
  over = λ k.
      let nothing_over = ap (λ (rows : Rows). count (content_at nat_cmp rows b) k) over in
      let nothing_out = ap (λ (rows : Rows). count (content_at nat_cmp rows b) k) out in
      let none = count-nothing k in
      omega (arith, nothing_over, nothing_out, none);
}

-- ---- the most of a kind

most_set : (e : Edition) (kind : Kind) (s : List ℕ) (es : List Element) → IsValueOf kind (elements (key s ∷ es)) → 1 ≡ most_of e kind
most_set e kinds.Nat s es v = absurd (nat_has_none (key s ∷ es) v)
most_set e kinds.Set s es v = refl
most_set e kinds.Bag s es v = absurd (true≢false (bag_has_counts (key s ∷ es) v).0)

most_bag : (e : Edition) (kind : Kind) (s : List ℕ) (n : ℕ) (es : List Element) → IsValueOf kind (elements (counted s n ∷ es)) → bag_bound ≡ most_of e kind
most_bag e kinds.Nat s n es v = absurd (nat_has_none (counted s n ∷ es) v)
most_bag e kinds.Set s n es v = absurd (false≢true (set_has_keys (counted s n ∷ es) v).0)
most_bag e kinds.Bag s n es v = refl

most_nat : (e : Edition) (kind : Kind) (n : ℕ) → IsValueOf kind (number n) → nat_end e - 1 ≡ most_of e kind
most_nat e kinds.Nat n v = refl
most_nat e kinds.Set n v = absurd (set_is_no_number n v)
most_nat e kinds.Bag n v = absurd (bag_is_no_number n v)

pub nat_most : (e : Edition) (w : Value) (n m : ℕ) → w ≡ number n → m ≡ nat_end e - 1 → (kind : Kind) → IsValueOf kind w → entries_of w ≢ [] → m ≡ most_of e kind
nat_most e w n m is most kind v some = most ∙ most_nat e kind n (subst (λ x. IsValueOf kind x) is v)

pub set_most : (e : Edition) (w : Value) (es : List CodeElement) (r : CodeElement) (s : List ℕ) → w ≡ elements (map element_view es) → 0 < length es → r ≡ get_or es 0 r → element_view r ≡ key s → (kind : Kind) → IsValueOf kind w → entries_of w ≢ [] → 1 ≡ most_of e kind
set_most e w es r s is some at shows kind v other =
    let it = first_of es r some at in
    most_set e kind s it.0 (subst (λ x. IsValueOf kind x) (is ∙ ap elements (it.1 ∙ ap (λ (x : Element). x ∷ it.0) shows)) v)

pub bag_most : (e : Edition) (w : Value) (es : List CodeElement) (r : CodeElement) (s : List ℕ) (n : ℕ) → w ≡ elements (map element_view es) → 0 < length es → r ≡ get_or es 0 r → element_view r ≡ counted s n → (kind : Kind) → IsValueOf kind w → entries_of w ≢ [] → bag_bound ≡ most_of e kind
bag_most e w es r s n is some at shows kind v other =
    let it = first_of es r some at in
    most_bag e kind s n it.0 (subst (λ x. IsValueOf kind x) (is ∙ ap elements (it.1 ∙ ap (λ (x : Element). x ∷ it.0) shows)) v)

pub none_most : (w : Value) (es : List CodeElement) → w ≡ elements (map element_view es) → length es ≡ 0 → entries_of w ≡ []
none_most w [] is none = ap entries_of is
none_most w (e ∷ es) is none = absurd (omega (arith, none))

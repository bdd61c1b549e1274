-- A value in form is one of a kind, and is printed as its content is.
use Rattle.std.specs.Ordering.{eq_by_cmp, is_lt}
use Rattle.std.proofs.Common.{◌≡◌, ◌≤◌, ◌<◌, ◌⊎◌, ℕ, zero, suc, Bool, true, false, cond, ◌&&◌, List, [], ◌∷◌, map, length, unwrap_or, refl, sym, ap, subst, ◌∙◌, inl, inr, arith, Less}
use Rattle.std.proofs.lemmas.Bool.{true≢false}
use Rattle.std.proofs.lemmas.List.{length-map}
use Rattle.std.proofs.lemmas.List.Elements.{All-from_recursion}
use lib.Dec.{T}
use Rattle.std.specs.FinMap as fin
use Rattle.std.specs.FinMap.{is_sorted}
use Rattle.std.specs.FinMap.Entries.{below_all}
use Rattle.std.specs.List.{All, AllByRecursion}
use Rattle.std.specs.List.Sorted.{IsStrictlySortedBy}
use Rattle.row_records.specs.amount_math.Content.{Content, count-of_entries, count-of_nat, count-of_nat_unit, key_cmp, listed, of_entries, of_nat, unit}
use Rattle.row_records.specs.amount_math.Entries.{AreEntries, Entries, IsEntry, most_of_key}
use Rattle.row_records.specs.amount_math.ValueView.{Fits, IsKeyed, IsValue, most_keys, nat_bound}
use Rattle.row_records.specs.amount_math.declared.Kind.{Kind}
use Rattle.row_records.specs.amount_math.declared.Kind.TheVariants.{Bag, Nat, Set}
use Rattle.row_records.specs.fair_rows.Amounts.{IsPrinted}
use Rattle.row_records.specs.fair_rows.Values.{IsValueOf, content_of, entry_of, value_of}
use Rattle.row_records.proofs.fair_rows.Values.{whole}
use Rattle.row_records.proofs.fair_rows.amount_math.Listed.{count_bounded, entries-of_entries, found, keys_have_form}
use Rattle.row_records.specs.turn_rows.Editions.{nat_end}
use Rattle.row_records.specs.turn_rows.Form.{AreElements, HasElementForm, HasValueForm, is_key, key_of}
use Rattle.row_records.specs.turn_rows.Turns.{Element, Value, counted, elements, key, number}
use Rattle.row_records.specs.turn_rows.declared.editions.Edition.{Edition}
use Rattle.row_records.specs.turn_rows.declared.editions.Edition.TheVariants.{First, Second}

-- ---- entries

both : (a b : Bool) → T a → T b → T (a && b)
both true b p q = q
both false b p q = absurd p

below : (k : List ℕ) (es : List Element) → AllByRecursion (λ y. key_cmp k y ≡ Less) (map key_of es) → T (below_all key_cmp k (map entry_of es))
below k [] h = tt
below k (key s ∷ es) h = both _ _ (subst (λ o. T (is_lt o)) (sym h.0) tt) (below k es h.1)
below k (counted s n ∷ es) h = both _ _ (subst (λ o. T (is_lt o)) (sym h.0) tt) (below k es h.1)

rising : (es : List Element) → IsStrictlySortedBy key_cmp (map key_of es) → T (is_sorted key_cmp (map entry_of es))
unfolding IsStrictlySortedBy
rising [] h = tt
rising (key s ∷ es) h = both _ _ (below s es h.0) (rising es h.1)
rising (counted s n ∷ es) h = both _ _ (below s es h.0) (rising es h.1)

each_entry : (es : List Element) → AllByRecursion HasElementForm es → AllByRecursion IsEntry (map entry_of es)
each_entry [] h = tt
each_entry (key s ∷ es) h = (record { key = record { filled = h.0.filled; short = h.0.short }; some = omega arith; bounded = omega arith }, each_entry es h.1)
each_entry (counted s n ∷ es) h = (record { key = record { filled = h.0.0.filled; short = h.0.0.short }; some = h.0.1; bounded = h.0.2 }, each_entry es h.1)

-- the elements of a value in form are rising entries
pub are_entries : (es : List Element) → AreElements es → AreEntries (map entry_of es)
are_entries es form = record { rising = rising es form.rising; each = All-from_recursion IsEntry (map entry_of es) (each_entry es form.each) }

keyed : (es : List Element) → AreElements es → IsKeyed (of_entries (map entry_of es))
keyed es form =
    let are = are_entries es form in
    record {
      keys = keys_have_form (map entry_of es) are;
      few = subst (λ (n : ℕ). n ≤ most_keys) (sym (fin.len-entries (of_entries (map entry_of es)).held ∙ ap (λ (fs : Entries). length fs) (entries-of_entries (map entry_of es) are) ∙ length-map es entry_of)) form.few;
    }

-- ---- the kinds

keys_once : (es : List Element) → AllByRecursion (λ e. is_key e ≡ true) es → AllByRecursion (λ (e : List ℕ × ℕ). e.1 ≤ 1) (map entry_of es)
keys_once [] h = tt
keys_once (key s ∷ es) h = (omega arith, keys_once es h.1)
keys_once (counted s n ∷ es) h = absurd (true≢false (sym h.0))

set_fits : (es : List Element) → AllByRecursion (λ e. is_key e ≡ true) es → Fits Set (of_entries (map entry_of es))
set_fits es keys = record { each = λ k. subst (λ n. n ≤ 1) (sym (count-of_entries (map entry_of es) k)) (few k) }
  where
    few : (k : List ℕ) → listed (map entry_of es) k ≤ 1
    few k = elim (found (λ e. e.1 ≤ 1) (map entry_of es) k (All-from_recursion (λ (e : List ℕ × ℕ). e.1 ≤ 1) (map entry_of es) (keys_once es keys))) [
      | inl none ↦ omega (arith, ap (λ o. unwrap_or o 0) none)
      | inr at ↦ omega (arith, ap (λ o. unwrap_or o 0) at.1, at.2)
    ]

as_keys : (es : List Element) → AllByRecursion (λ e. is_key e ≡ true) es → map (λ (e : List ℕ × ℕ). key e.0) (map entry_of es) ≡ es
as_keys [] h = refl
as_keys (key s ∷ es) h = ap (λ (fs : List Element). key s ∷ fs) (as_keys es h.1)
as_keys (counted s n ∷ es) h = absurd (true≢false (sym h.0))

as_counted : (es : List Element) → AllByRecursion (λ e. is_key e ≡ false) es → map (λ (e : List ℕ × ℕ). counted e.0 e.1) (map entry_of es) ≡ es
as_counted [] h = refl
as_counted (key s ∷ es) h = absurd (true≢false h.0)
as_counted (counted s n ∷ es) h = ap (λ (fs : List Element). counted s n ∷ fs) (as_counted es h.1)

fits_nat : (n : ℕ) → n ≤ nat_bound → Fits Nat (of_nat n)
fits_nat n few = record { each = λ k. subst (λ x. x ≤ nat_bound) (sym (count-of_nat n k)) (either (eq_by_cmp key_cmp k unit)) }
  where
    either : (b : Bool) → cond b n 0 ≤ nat_bound
    either true = few
    either false = omega arith

-- a number is of the nats
pub number_is : (n : ℕ) → n ≤ nat_bound → IsValueOf Nat (number n)
number_is n few = record { content = of_nat n; value = record { only_units = ap of_nat (sym (count-of_nat_unit n)); fits = fits_nat n few }; is = ap number (sym (count-of_nat_unit n)) }

-- keys are of a set
pub keys_are : (es : List Element) → AreElements es → AllByRecursion (λ e. is_key e ≡ true) es → IsValueOf Set (elements es)
keys_are es form keys = record {
  content = of_entries (map entry_of es);
  value = record { keyed = keyed es form; fits = set_fits es keys };
  is = ap elements (sym (ap (λ (fs : Entries). map (λ (e : List ℕ × ℕ). key e.0) fs) (entries-of_entries (map entry_of es) (are_entries es form)) ∙ as_keys es keys));
}

-- keys with counts are of a bag
pub counted_are : (es : List Element) → AreElements es → AllByRecursion (λ e. is_key e ≡ false) es → IsValueOf Bag (elements es)
counted_are es form counts = record {
  content = of_entries (map entry_of es);
  value = record { keyed = keyed es form; fits = record { each = count_bounded (map entry_of es) (are_entries es form) } };
  is = ap elements (sym (ap (λ (fs : Entries). map (λ (e : List ℕ × ℕ). counted e.0 e.1) fs) (entries-of_entries (map entry_of es) (are_entries es form)) ∙ as_counted es counts));
}

-- ---- and of no other

all_keys : (es : Entries) → AllByRecursion (λ e. is_key e ≡ true) (map (λ (e : List ℕ × ℕ). key e.0) es)
all_keys [] = tt
all_keys (e ∷ es) = (refl, all_keys es)

all_counted : (es : Entries) → AllByRecursion (λ e. is_key e ≡ false) (map (λ (e : List ℕ × ℕ). counted e.0 e.1) es)
all_counted [] = tt
all_counted (e ∷ es) = (refl, all_counted es)

-- a value of the nats has no elements, and others are no number
pub nat_has_none : (es : List Element) → IsValueOf Nat (elements es) → ⊥
nat_has_none es v = cc (v.is)

pub set_is_no_number : (n : ℕ) → IsValueOf Set (number n) → ⊥
set_is_no_number n v = cc (v.is)

pub bag_is_no_number : (n : ℕ) → IsValueOf Bag (number n) → ⊥
bag_is_no_number n v = cc (v.is)

same_elements : (es fs : List Element) → elements es ≡ elements fs → es ≡ fs
same_elements es fs is = cc

pub set_has_keys : (es : List Element) → IsValueOf Set (elements es) → AllByRecursion (λ e. is_key e ≡ true) es
set_has_keys es v = subst (λ fs. AllByRecursion (λ e. is_key e ≡ true) fs) (sym (same_elements _ _ v.is)) (all_keys _)

pub bag_has_counts : (es : List Element) → IsValueOf Bag (elements es) → AllByRecursion (λ e. is_key e ≡ false) es
bag_has_counts es v = subst (λ fs. AllByRecursion (λ e. is_key e ≡ false) fs) (sym (same_elements _ _ v.is)) (all_counted _)

-- ---- a value in form

pub within : (e : Edition) (n : ℕ) → n < nat_end e → n ≤ nat_bound
within First n h = omega arith
within Second n h = omega arith

-- which is printed as some content of some kind
pub record IsOfAKind (v : Value) : Type 0 where
  pub kind : Kind
  pub is : IsValueOf kind v

pub formed : (e : Edition) (v : Value) → HasValueForm e v → IsOfAKind v
formed e (number n) form = record { kind = Nat; is = number_is n (within e n form) }
formed e (elements es) form = elim form.of_one_kind [
  | inl keys ↦ record { kind = Set; is = keys_are es form keys }
  | inr counts ↦ record { kind = Bag; is = counted_are es form counts }
]

-- what is printed of a content is its content
pub printed_content : (c : Content) (v : Value) → IsPrinted c v → content_of v ≡ c
printed_content c v p = ap content_of p.is ∙ whole p.kind c p.value

-- and of a value in form what its content is of prints it
pub content_printed : (e : Edition) (v : Value) (c : Content) → HasValueForm e v → content_of v ≡ c → IsPrinted c v
content_printed e v c form is =
    let of = formed e v form in
    let same : of.is.content ≡ c = sym (whole of.kind of.is.content of.is.value) ∙ ap content_of (sym of.is.is) ∙ is in
    record {
      kind = of.kind;
      value = subst (λ d. IsValue of.kind d) same of.is.value;
      is = of.is.is ∙ ap (λ d. value_of of.kind d) same;
    }

-- Values that are printed as those of a kind, by a test that computes.
use Rattle.std.specs.Ordering.{eq_by_cmp}
use Rattle.std.proofs.Common.{◌≡◌, ◌≤◌, ℕ, zero, suc, Bool, true, false, cond, not, ◌&&◌, nat_le, List, [], ◌∷◌, map, length, unwrap_or, refl, sym, ap, subst, ◌∙◌, inl, inr, arith, leb-true}
use Rattle.std.proofs.lemmas.Bool.{and_parts, true≢false}
use Rattle.std.proofs.lemmas.List.Elements.{All-from_recursion}
use lib.Dec.{T}
use Rattle.std.specs.FinMap as fin
use Rattle.std.specs.FinMap.{is_sorted}
use Rattle.std.specs.List.{AllByRecursion, list_all}
use Rattle.fair_rows.specs.amount_math.Content.{count-of_entries, count-of_nat, count-of_nat_unit, key_cmp, listed, of_entries, of_nat, unit}
use Rattle.fair_rows.specs.amount_math.Entries.{AreEntries, Entries, IsEntry, most_of_key}
use Rattle.fair_rows.specs.amount_math.ValueView.{Fits, IsKeyed, IsValue, most_keys, nat_bound}
use Rattle.fair_rows.specs.amount_math.declared.Kind.{Kind}
use Rattle.fair_rows.specs.amount_math.declared.Kind.TheVariants.{Bag, Nat, Set}
use Rattle.fair_rows.proofs.amount_math.Listed.{count_bounded, entries-of_entries, found, keys_have_form}
use Rattle.fair_rows.specs.turn_rows.Form.{is_key}
use Rattle.fair_rows.specs.turn_rows.Turns.{counted, Element, elements, key, number, Value}
use Rattle.fair_rows.specs.Values.{AreOfKinds, IsValueOf, Named, content_of, entry_of, value_of}

pub every : {A : Type 0} (test : A → Bool) (xs : List A) → list_all test xs ≡ true → AllByRecursion (λ x. test x ≡ true) xs
every test [] all = tt
every test (x ∷ xs) all = ((and_parts _ _ all).0, every test xs (and_parts _ _ all).1)

pub each_so : {A : Type 0} (P Q : A → Type 0) → ((x : A) → P x → Q x) → (xs : List A) → AllByRecursion P xs → AllByRecursion Q xs
each_so P Q so [] h = tt
each_so P Q so (x ∷ xs) h = (so x h.0, each_so P Q so xs h.1)

abbrev is_entry : List ℕ × ℕ → Bool
is_entry e = nat_le 1 (length e.0) && (nat_le (length e.0) 64 && (nat_le 1 e.1 && nat_le e.1 most_of_key))

entry_is : (e : List ℕ × ℕ) → is_entry e ≡ true → IsEntry e
entry_is e test =
    let a = and_parts (nat_le 1 (length e.0)) (nat_le (length e.0) 64 && (nat_le 1 e.1 && nat_le e.1 most_of_key)) test in
    let b = and_parts (nat_le (length e.0) 64) (nat_le 1 e.1 && nat_le e.1 most_of_key) a.1 in
    let c = and_parts (nat_le 1 e.1) (nat_le e.1 most_of_key) b.1 in
    record { key = record { filled = leb-true _ _ a.0; short = leb-true _ _ b.0 }; some = leb-true _ _ c.0; bounded = leb-true _ _ c.1 }

abbrev pub are_entries : Entries → Bool
are_entries es = is_sorted key_cmp es && (list_all is_entry es && nat_le (length es) most_keys)

pub entries_are : (es : Entries) → are_entries es ≡ true → AreEntries es
entries_are es test =
    let a = and_parts (is_sorted key_cmp es) (list_all is_entry es && nat_le (length es) most_keys) test in
    let b = and_parts (list_all is_entry es) (nat_le (length es) most_keys) a.1 in
    record { rising = subst T (sym a.0) tt; each = All-from_recursion IsEntry es (each_so (λ e. is_entry e ≡ true) IsEntry entry_is es (every is_entry es b.0)) }

abbrev pub is_value : Kind → Value → Bool
is_value Nat (number n) = nat_le n nat_bound
is_value Set (elements es) = list_all is_key es && are_entries (map entry_of es)
is_value Bag (elements es) = list_all (λ e. not (is_key e)) es && are_entries (map entry_of es)
is_value _ _ = false

fits_nat : (n : ℕ) → n ≤ nat_bound → Fits Nat (of_nat n)
fits_nat n few = record { each = λ k. subst (λ x. x ≤ nat_bound) (sym (count-of_nat n k)) (either (eq_by_cmp key_cmp k unit)) }
  where
    either : (b : Bool) → cond b n 0 ≤ nat_bound
    either true = few
    either false = omega arith

keyed : (es : Entries) → are_entries es ≡ true → IsKeyed (of_entries es)
keyed es test =
    let are = entries_are es test in
    let few : length es ≤ most_keys = leb-true _ _ (and_parts _ _ (and_parts _ _ test).1).1 in
    record { keys = keys_have_form es are; few = subst (λ (n : ℕ). n ≤ most_keys) (sym (fin.len-entries (of_entries es).held ∙ ap (λ (fs : Entries). length fs) (entries-of_entries es are))) few }

keys_once : (es : List Element) → AllByRecursion (λ e. is_key e ≡ true) es → AllByRecursion (λ (e : List ℕ × ℕ). e.1 ≤ 1) (map entry_of es)
keys_once [] h = tt
keys_once (key s ∷ es) h = (omega arith, keys_once es h.1)
keys_once (counted s n ∷ es) h = absurd (true≢false (sym h.0))

set_fits : (es : List Element) → list_all is_key es ≡ true → Fits Set (of_entries (map entry_of es))
set_fits es keys = record { each = λ k. subst (λ n. n ≤ 1) (sym (count-of_entries (map entry_of es) k)) (few k) }
  where
    few : (k : List ℕ) → listed (map entry_of es) k ≤ 1
    few k = elim (found (λ e. e.1 ≤ 1) (map entry_of es) k (All-from_recursion (λ (e : List ℕ × ℕ). e.1 ≤ 1) (map entry_of es) (keys_once es (every is_key es keys)))) [
      | inl none ↦ omega (arith, ap (λ o. unwrap_or o 0) none)
      | inr at ↦ omega (arith, ap (λ o. unwrap_or o 0) at.1, at.2)
    ]

as_keys : (es : List Element) → AllByRecursion (λ e. is_key e ≡ true) es → map (λ (e : List ℕ × ℕ). key e.0) (map entry_of es) ≡ es
as_keys [] h = refl
as_keys (key s ∷ es) h = ap (λ (fs : List Element). key s ∷ fs) (as_keys es h.1)
as_keys (counted s n ∷ es) h = absurd (true≢false (sym h.0))

as_counted : (es : List Element) → AllByRecursion (λ e. not (is_key e) ≡ true) es → map (λ (e : List ℕ × ℕ). counted e.0 e.1) (map entry_of es) ≡ es
as_counted [] h = refl
as_counted (key s ∷ es) h = absurd (true≢false (sym h.0))
as_counted (counted s n ∷ es) h = ap (λ (fs : List Element). counted s n ∷ fs) (as_counted es h.1)

-- the value is of the kind, and printed as its content is
pub value_is : (kind : Kind) (v : Value) → is_value kind v ≡ true → IsValue kind (content_of v) × (v ≡ value_of kind (content_of v))
value_is Nat (number n) test = (record { only_units = ap of_nat (sym (count-of_nat_unit n)); fits = fits_nat n (leb-true _ _ test) }, ap number (sym (count-of_nat_unit n)))
value_is Nat (elements es) test = absurd (true≢false (sym test))
value_is Set (number n) test = absurd (true≢false (sym test))
value_is Bag (number n) test = absurd (true≢false (sym test))
value_is Set (elements es) test =
    let t = and_parts _ _ test in (
      record { keyed = keyed (map entry_of es) t.1; fits = set_fits es t.0 },
      ap elements (sym (ap (λ (fs : Entries). map (λ (e : List ℕ × ℕ). key e.0) fs) (entries-of_entries (map entry_of es) (entries_are (map entry_of es) t.1)) ∙ as_keys es (every is_key es t.0))),
    )
value_is Bag (elements es) test =
    let t = and_parts _ _ test in (
      record { keyed = keyed (map entry_of es) t.1; fits = record { each = count_bounded (map entry_of es) (entries_are (map entry_of es) t.1) } },
      ap elements (sym (ap (λ (fs : Entries). map (λ (e : List ℕ × ℕ). counted e.0 e.1) fs) (entries-of_entries (map entry_of es) (entries_are (map entry_of es) t.1)) ∙ as_counted es (every (λ e. not (is_key e)) es t.0))),
    )

-- ---- of the samples: brand 0 and 3 are sets, brand 4 is a bag, all others are of numbers

abbrev pub kind_at : ℕ → Kind
kind_at zero = Set
kind_at (suc (suc (suc zero))) = Set
kind_at (suc (suc (suc (suc zero)))) = Bag
kind_at _ = Nat

abbrev pub are_of_kinds : List Named → Bool
are_of_kinds amounts = list_all (λ (a : Named). is_value (kind_at a.0) a.1) amounts

pub of_kinds : (amounts : List Named) → are_of_kinds amounts ≡ true → AreOfKinds kind_at amounts
of_kinds amounts test = each_so (λ (a : Named). is_value (kind_at a.0) a.1 ≡ true) (λ a. IsValueOf (kind_at a.0) a.1) (λ a t. (let v = value_is (kind_at a.0) a.1 t in record { content = content_of a.1; value = v.0; is = v.1 })) amounts (every (λ (a : Named). is_value (kind_at a.0) a.1) amounts test)

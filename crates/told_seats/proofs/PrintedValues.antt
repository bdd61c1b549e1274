-- Printed values that hold one element once, and the amount of nothing.
use Rattle.std.proofs.Common.{◌≡◌, ◌<◌, ◌≤◌, ℕ, Bool, true, false, cond, List, [], ◌∷◌, Some, None, length, map, get_or, refl, sym, ap, subst, ◌∙◌, arith}
use Rattle.std.specs.Prelude.{unwrap_or, ◌↔◌}
use Rattle.std.specs.List.Sorted.{IsStrictlySortedBy}
use Rattle.std.specs.Ordering.{eq_by_cmp, is_eq}
use Rattle.std.specs.declared.cmp.Ordering.TheVariants.{Less}
use Rattle.std.specs.FinMap.{find}
use Rattle.std.specs.Prelude.{◌==◌}
use Rattle.std.proofs.lemmas.Bool.Decides.{nat_tests}
use Rattle.std.proofs.lemmas.Map.Text.{is_eq-slice_cmp}
use Rattle.std.proofs.lemmas.Slice.Eq.{bytes_eq-Decides}
use Rattle.row_records.specs.Views.{element_view}
use Rattle.row_records.specs.declared.rows.Element.{Element as KeptElement}
use Rattle.row_records.specs.amount_math.Content.{Content, count, count-nothing, count-of_entries, count-of_nat, count-one_of, entries, key_cmp, listed, nothing, of_entries, of_entries-nil, of_entries-one, of_nat, one_of, same_content, unit}
use Rattle.row_records.specs.amount_math.KindLaws.{nothing_is_value}
use Rattle.row_records.specs.amount_math.declared.Kind.{Kind}
use Rattle.row_records.specs.amount_math.declared.Kind.TheVariants.{Nat, Set, Bag}
use Rattle.row_records.specs.fair_rows.Amounts.{IsPrinted}
use Rattle.row_records.specs.fair_rows.Values.{content_of, entry_of, value_of}
use Rattle.row_records.specs.turn_rows.Form.{AreElements, HasElementForm, HasValueForm, key_of}
use Rattle.row_records.specs.turn_rows.Turns.{Element, Value, counted, elements, key, number}
use Rattle.row_records.specs.turn_rows.declared.editions.Edition.{Edition}
use Rattle.row_records.proofs.journal_rows.fair_rows.amount_math.Listed.{no_entries}

-- ---- one element, once

is_same : (q k : List ℕ) → eq_by_cmp key_cmp q k ≡ true → q ≡ k
is_same q k e = (bytes_eq-Decides q k).0 (sym (is_eq-slice_cmp q k) ∙ e)

abbrev pub IsOnce : Value → Type 0
IsOnce v = (k : List ℕ) × (content_of v ≡ one_of k)

same_key : (k : List ℕ) → eq_by_cmp key_cmp k k ≡ true
same_key k = is_eq-slice_cmp k k ∙ (bytes_eq-Decides k k).1 refl

one_itself : (k : List ℕ) → count (one_of k) k ≡ 1
one_itself k = count-one_of k k ∙ ap (λ b. cond b 1 0) (same_key k)

choose_one : (b : Bool) (n : ℕ) → cond b n 0 ≡ 1 → n ≡ 1
choose_one true n e = e
choose_one false n e = absurd (omega (arith, e))

choose_key : (b : Bool) → 0 < cond b 1 0 → b ≡ true
choose_key true h = refl
choose_key false h = absurd (omega (arith, h))

-- what is there is the one element
only_key : (c : Content) (k q : List ℕ) → c ≡ one_of k → 0 < count c q → q ≡ k
only_key c k q is some = is_same q k (choose_key (eq_by_cmp key_cmp q k) (subst (λ n. 0 < n) (ap (λ (x : Content). count x q) is ∙ count-one_of k q) some))

one_unit : of_nat 1 ≡ one_of unit
one_unit = same_content (of_nat 1) (one_of unit) (λ k. count-of_nat 1 k ∙ sym (count-one_of unit k))

pub once_number : (n : ℕ) → (n ≡ 1) ↔ IsOnce (number n)
once_number n = (
  λ is. (unit, ap of_nat is ∙ one_unit),
  λ (k, is). choose_one (eq_by_cmp key_cmp k unit) n (sym (count-of_nat n k) ∙ ap (λ (c : Content). count c k) is ∙ one_itself k),
)

pub once_element : (e : Element) → ((entry_of e).1 ≡ 1) ↔ IsOnce (elements (e ∷ []))
once_element e = (
  λ is. ((entry_of e).0, ap (λ n. of_entries (((entry_of e).0, n) ∷ [])) is ∙ of_entries-one (entry_of e).0),
  λ (k, is). choose_one (eq_by_cmp key_cmp k (entry_of e).0) (entry_of e).1 (by (eq_by_cmp key_cmp k (entry_of e).0) ∙ sym (count-of_entries (entry_of e ∷ []) k) ∙ ap (λ (c : Content). count c k) is ∙ one_itself k),
)
  where
    by : (b : Bool) → cond b (entry_of e).1 0 ≡ unwrap_or (cond b (Some (entry_of e).1) None) 0
    by true = refl
    by false = refl

pub never_none : IsOnce (elements []) → ⊥
never_none (k, is) = absurd (omega (arith, sym (one_itself k) ∙ sym (ap (λ (c : Content). count c k) (sym of_entries-nil ∙ is)) ∙ count-nothing k))

some_counted : (e : Element) → HasElementForm e → 0 < (entry_of e).1
some_counted (key s) form = omega arith
some_counted (counted s n) form = form.1

entry_key : (e : Element) → (entry_of e).0 ≡ key_of e
entry_key (key s) = refl
entry_key (counted s n) = refl

first_listed : (k : List ℕ) (n : ℕ) (es : List (List ℕ × ℕ)) → listed ((k, n) ∷ es) k ≡ n
first_listed k n es = ap (λ b. unwrap_or (cond b (Some n) (find key_cmp k es)) 0) (same_key k)

second_listed : (j k : List ℕ) (m n : ℕ) (es : List (List ℕ × ℕ)) → eq_by_cmp key_cmp k j ≡ false → listed ((j, m) ∷ (k, n) ∷ es) k ≡ n
second_listed j k m n es apart = ap (λ b. unwrap_or (cond b (Some m) (find key_cmp k ((k, n) ∷ es))) 0) apart ∙ first_listed k n es

-- a key that is below another isn't it
below_apart : (j k : List ℕ) → key_cmp j k ≡ Less → eq_by_cmp key_cmp k j ≡ false
below_apart j k less = by (eq_by_cmp key_cmp k j) refl
  where
    by : (b : Bool) → eq_by_cmp key_cmp k j ≡ b → b ≡ false
    by false is = refl
    by true is =
        let same : k ≡ j = is_same k j is in
        let clash : true ≡ false = sym (same_key j) ∙ ap (λ q. eq_by_cmp key_cmp j q) (sym same) ∙ ap is_eq less in clash

pub never_more : (a b : Element) (es : List Element) → AreElements (a ∷ b ∷ es) → IsOnce (elements (a ∷ b ∷ es)) → ⊥
unfolding IsStrictlySortedBy
never_more a b es form (k, is) = apart_keys refl
  where
    first : (entry_of a).0 ≡ k
    first = only_key (content_of (elements (a ∷ b ∷ es))) k (entry_of a).0 is
        (subst (λ n. 0 < n) (sym (count-of_entries (map entry_of (a ∷ b ∷ es)) (entry_of a).0 ∙ first_listed (entry_of a).0 (entry_of a).1 (map entry_of (b ∷ es)))) (some_counted a form.each.0))

    less : key_cmp (entry_of a).0 (entry_of b).0 ≡ Less
    less = ap (λ q. key_cmp q (entry_of b).0) (entry_key a) ∙ ap (key_cmp (key_of a)) (entry_key b) ∙ form.rising.0.0

    second : (entry_of b).0 ≡ k
    second = only_key (content_of (elements (a ∷ b ∷ es))) k (entry_of b).0 is
        (subst (λ n. 0 < n) (sym (count-of_entries (map entry_of (a ∷ b ∷ es)) (entry_of b).0 ∙ second_listed (entry_of a).0 (entry_of b).0 (entry_of a).1 (entry_of b).1 (map entry_of es) (below_apart (entry_of a).0 (entry_of b).0 less))) (some_counted b form.each.1.0))

    apart_keys : k ≡ k → ⊥
    apart_keys same =
        let clash : true ≡ false = sym (same_key (entry_of a).0) ∙ ap (λ q. eq_by_cmp key_cmp q (entry_of a).0) (first ∙ sym second) ∙ below_apart (entry_of a).0 (entry_of b).0 less in absurd (cc)

pub once_tested : (n : ℕ) → (n == 1) ≡ true ↔ IsOnce (number n)
once_tested n = let is = once_number n in (λ h. let one : n ≡ 1 = grind (arith, nat_tests) in is.0 one, λ once. let one = is.1 once in grind (arith, nat_tests))

-- ---- of kept elements

pub none_once : (es : List KeptElement) → length es < 1 → IsOnce (elements (map element_view es)) → ⊥
none_once [] few once = never_none once
none_once (x ∷ es) few once = absurd (omega (arith, few))

pub two_once : (e : Edition) (es : List KeptElement) → 2 ≤ length es → HasValueForm e (elements (map element_view es)) → IsOnce (elements (map element_view es)) → ⊥
two_once e [] many form once = absurd (omega (arith, many))
two_once e (x ∷ []) many form once = absurd (omega (arith, many))
two_once e (x ∷ y ∷ es) many form once = never_more (element_view x) (element_view y) (map element_view es) form once

one_item : (es : List KeptElement) (x : KeptElement) → 1 ≤ length es → length es < 2 → x ≡ get_or es 0 x → es ≡ x ∷ []
one_item [] x some few is = absurd (omega (arith, some))
one_item (y ∷ []) x some few is = ap (λ z. z ∷ []) (sym is)
one_item (y ∷ z ∷ es) x some few is = absurd (omega (arith, few))

pub one_once : (es : List KeptElement) (x : KeptElement) (b : Bool) → 1 ≤ length es → length es < 2 → x ≡ get_or es 0 x → (b ≡ true ↔ ((entry_of (element_view x)).1 ≡ 1)) → b ≡ true ↔ IsOnce (elements (map element_view es))
one_once es x b some few is tested =
    let once = once_element (element_view x) in
    subst (λ (xs : List KeptElement). b ≡ true ↔ IsOnce (elements (map element_view xs))) (sym (one_item es x some few is)) (λ h. once.0 (tested.0 h), λ h. tested.1 (once.1 h))

pub empty_tested : (es : List KeptElement) (n : ℕ) (b : Bool) → length es ≡ n → b ≡ (n == 0) → b ≡ true ↔ (map element_view es ≡ [])
empty_tested [] n b len is = (λ h. refl, λ h. is ∙ ap (λ m. m == 0) (sym len))
empty_tested (x ∷ es) n b len is = (λ h. let none : n ≡ 0 = grind (arith, nat_tests) in absurd (omega (arith, len, none)), λ h. absurd (cc))

-- ---- nothing

pub nothing_number : (n : ℕ) → (n ≡ 0) ↔ IsPrinted nothing (number n)
nothing_number n = (
  λ is. record { kind = Nat; value = nothing_is_value Nat; is = ap number (is ∙ sym (count-nothing unit)) },
  λ printed. by printed.kind printed.is,
)
  where
    by : (kind : Kind) → number n ≡ value_of kind nothing → n ≡ 0
    by Nat is = let same : n ≡ count nothing unit = cc in same ∙ count-nothing unit
    by Set is = absurd (cc)
    by Bag is = absurd (cc)

pub nothing_elements : (es : List Element) → (es ≡ []) ↔ IsPrinted nothing (elements es)
nothing_elements es = (
  λ is. record { kind = Set; value = nothing_is_value Set; is = ap elements (is ∙ ap (map (λ (e : List ℕ × ℕ). key e.0)) (sym no_entries)) },
  λ printed. by printed.kind printed.is,
)
  where
    by : (kind : Kind) → elements es ≡ value_of kind nothing → es ≡ []
    by Nat is = absurd (cc)
    by Set is = let same : es ≡ map (λ (e : List ℕ × ℕ). key e.0) (entries nothing) = cc in same ∙ ap (map (λ (e : List ℕ × ℕ). key e.0)) no_entries
    by Bag is = let same : es ≡ map (λ (e : List ℕ × ℕ). counted e.0 e.1) (entries nothing) = cc in same ∙ ap (map (λ (e : List ℕ × ℕ). counted e.0 e.1)) no_entries

pub number_tested : (n : ℕ) → (n == 0) ≡ true ↔ IsPrinted nothing (number n)
number_tested n = let is = nothing_number n in (λ h. let none : n ≡ 0 = grind (arith, nat_tests) in is.0 none, λ printed. let none = is.1 printed in grind (arith, nat_tests))

pub none_tested : (es : List Element) (b : Bool) → (b ≡ true ↔ (es ≡ [])) → b ≡ true ↔ IsPrinted nothing (elements es)
none_tested es b empty = let is = nothing_elements es in (λ h. is.0 (empty.0 h), λ printed. empty.1 (is.1 printed))

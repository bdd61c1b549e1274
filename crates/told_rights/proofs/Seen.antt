-- The values of amounts, one after another, are seen.
use Rattle.std.proofs.Common.{◌≡◌, ◌<◌, ◌+◌, ◌≤◌, ℕ, zero, suc, List, [], ◌∷◌, ◌++◌, map, length, get_or, take, Result, Ok, Err, OnOk, refl, sym, ap, subst, ◌∙◌, arith, append_assoc}
use Rattle.std.proofs.lemmas.List.{get_or-map, length-map, take_more}
use Rattle.std.specs.List.{AllByRecursion}
use Rattle.row_records.specs.Views.{amount_view, value_view}
use Rattle.row_records.specs.declared.rows.KeywordAmount.{KeywordAmount}
use Rattle.row_records.specs.fair_rows.Values.{HaveKinds, IsValueOf, Named}
use Rattle.row_records.proofs.fair_rows.Lists.{all_both, all_first, all_second}
use Rattle.row_records.specs.turn_rows.Form.{HasAmountForm}
use Rattle.row_records.specs.turn_rows.Turns as turns
use Rattle.row_records.specs.turn_rows.declared.editions.Edition.{Edition}
use Rattle.told_rights.specs.Rights.{named_amounts}

abbrev named : turns.KeywordAmount → Named
named a = (a.brand, a.value)

abbrev pub named_of : List KeywordAmount → List Named
named_of xs = named_amounts (map amount_view xs)

pub all_at : {A : Type 0} (P : A → Type 0) (xs : List A) (i : ℕ) (d : A) → AllByRecursion P xs → i < length xs → P (get_or xs i d)
all_at P [] i d all lt = absurd (omega (arith, lt))
all_at P (x ∷ xs) zero d all lt = all.0
all_at P (x ∷ xs) (suc i) d all lt = all_at P xs i d all.1 (omega (arith, lt))

all_take : {A : Type 0} (P : A → Type 0) (n : ℕ) (xs : List A) → AllByRecursion P xs → AllByRecursion P (take n xs)
all_take P zero xs all = tt
all_take P (suc n) [] all = tt
all_take P (suc n) (x ∷ xs) all = (all.0, all_take P n xs all.1)

pub kinds_of_front : (before ys : List Named) (n : ℕ) → HaveKinds (before ++ ys) → HaveKinds (before ++ take n ys)
kinds_of_front before ys n h = record { kind_of = h.kind_of; values = all_both P before (take n ys) (all_first P before ys h.values) (all_take P n ys (all_second P before ys h.values)) }
  where
    P : Named → Type 0
    P a = IsValueOf (h.kind_of a.0) a.1

module _ (xs : List KeywordAmount) (i : ℕ) (x : KeywordAmount) (lt : i < length xs) (is : x ≡ get_or xs i x) where
  view_is : get_or (map amount_view xs) i (amount_view x) ≡ amount_view x
  view_is = get_or-map amount_view xs i x (amount_view x) lt ∙ ap amount_view (sym is)

  pub amount_form : (e : Edition) → AllByRecursion (HasAmountForm e) (map amount_view xs) → HasAmountForm e (amount_view x)
  amount_form e all = subst (HasAmountForm e) view_is (all_at (HasAmountForm e) (map amount_view xs) i (amount_view x) all (omega (arith, length-map xs amount_view)))

  named_is : get_or (named_of xs) i (x.brand, value_view x.value) ≡ (x.brand, value_view x.value)
  named_is = get_or-map named (map amount_view xs) i (amount_view x) (x.brand, value_view x.value) (omega (arith, length-map xs amount_view)) ∙ ap named view_is

  pub named_more : (before : List Named) → before ++ take (i + 1) (named_of xs) ≡ (before ++ take i (named_of xs)) ++ (x.brand, value_view x.value) ∷ []
  named_more before =
      ap (λ ys. before ++ ys) (take_more (named_of xs) i (x.brand, value_view x.value) (omega (arith, length-map xs amount_view, length-map (map amount_view xs) named)) ∙ ap (λ y. take i (named_of xs) ++ y ∷ []) named_is)
      ∙ sym (append_assoc before (take i (named_of xs)) ((x.brand, value_view x.value) ∷ []))

pub length_named : (xs : List KeywordAmount) → length (named_of xs) ≡ length xs
length_named xs = length-map (map amount_view xs) named ∙ length-map xs amount_view

pub on_ok : {A E : Type 0} (r : Result A E) (P Q : Type 0) → (P → Q) → OnOk r P → OnOk r Q
on_ok (Ok x) P Q f h = f h
on_ok (Err e) P Q f h = tt

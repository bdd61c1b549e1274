-- How much elements count, one after another, and tests of numbers in lists.
use Rattle.std.proofs.Common.{◌≡◌, ◌≤◌, ◌<◌, ◌==◌, ◌+◌, ◌*◌, ◌⊎◌, ◌||◌, ℕ, zero, suc, Bool, true, false, List, [], ◌∷◌, ◌++◌, map, length, get_or, take, Result, Ok, Err, IfOk, refl, sym, ap, subst, ◌∙◌, inl, inr, arith}
use Rattle.std.proofs.lemmas.Bool.{eq-eqb, eqb-true, or_cases, true≢false}
use Rattle.std.proofs.lemmas.List.{get_or-map, length-map, take_more}
use Rattle.std.specs.List.{All, AllByRecursion, list_any}
use Rattle.row_records.specs.Views.{element_view}
use Rattle.row_records.specs.amount_math.Content.{of_entries}
use Rattle.row_records.specs.amount_math.Counted.{counted as size}
use Rattle.row_records.specs.amount_math.Entries.{Entries, most_of_key}
use Rattle.row_records.specs.amount_math.Totals.{weighed}
use Rattle.row_records.proofs.fair_rows.amount_math.Together.{counted-of_entries, weighed_more}
use Rattle.row_records.specs.fair_rows.Values.{entry_of}
use Rattle.row_records.specs.declared.rows.Element.{Element}
use Rattle.row_records.specs.turn_rows.Form.{AreElements}
use Rattle.told_rights.proofs.Formed.{are_entries}
use Rattle.told_rights.proofs.Movements.{any_push}

abbrev pub by_count : List ℕ → ℕ → ℕ
by_count k n = n

abbrev pub listing_of : List Element → Entries
listing_of xs = map entry_of (map element_view xs)

module _ (xs : List Element) (i : ℕ) (x : Element) (lt : i < length xs) (is : x ≡ get_or xs i x) where
  entry_is : get_or (listing_of xs) i ([], 0) ≡ entry_of (element_view x)
  entry_is = get_or-map entry_of (map element_view xs) i (element_view x) ([], 0) (omega (arith, length-map xs element_view)) ∙ ap entry_of (get_or-map element_view xs i x (element_view x) lt ∙ ap element_view (sym is))

  within : i < length (listing_of xs)
  within = omega (arith, length-map xs element_view, length-map (map element_view xs) entry_of)

  pub size_more : weighed by_count (take (i + 1) (listing_of xs)) ≡ weighed by_count (take i (listing_of xs)) + (entry_of (element_view x)).1
  size_more = weighed_more by_count (listing_of xs) i ([], 0) within ∙ ap (λ e. weighed by_count (take i (listing_of xs)) + e.1) entry_is

  pub count_few : AreElements (map element_view xs) → (entry_of (element_view x)).1 ≤ most_of_key
  count_few form = subst (λ (e : List ℕ × ℕ). e.1 ≤ most_of_key) entry_is ((are_entries (map element_view xs) form).each i ([], 0) within).bounded

pub size_is : (xs : List Element) → AreElements (map element_view xs) → size (of_entries (listing_of xs)) ≡ weighed by_count (listing_of xs)
size_is xs form = counted-of_entries (listing_of xs) (are_entries (map element_view xs) form)

pub length_is : (xs : List Element) → length (listing_of xs) ≡ length xs
length_is xs = length-map (map element_view xs) entry_of ∙ length-map xs element_view

-- ---- numbers in a list

same_test : (p n : ℕ) → (p == n) ≡ (n == p)
same_test p n = by (p == n) (n == p) (λ e. eq-eqb n p (sym (eqb-true p n e))) (λ e. eq-eqb p n (sym (eqb-true n p e)))
  where
    by : (a b : Bool) → (a ≡ true → b ≡ true) → (b ≡ true → a ≡ true) → a ≡ b
    by true b f g = sym (f refl)
    by false true f g = g refl
    by false false f g = refl

joined : (a b c : Bool) → (a || (b || c)) ≡ ((b || a) || c)
joined true true c = refl
joined true false c = refl
joined false true c = refl
joined false false c = refl

-- one number more, of those that are put in
pub one_joined : (xs : List ℕ) (i p : ℕ) (old new : Bool) → i < length xs → (mid : Bool) → mid ≡ (list_any (λ n. n == p) (take i xs) || old) → new ≡ ((p == get_or xs i 0) || mid) → new ≡ (list_any (λ n. n == p) (take (i + 1) xs) || old)
one_joined xs i p old new lt mid was is =
    is ∙ ap (λ x. (p == get_or xs i 0) || x) was ∙ ap (λ x. x || (list_any (λ n. n == p) (take i xs) || old)) (same_test p (get_or xs i 0))
    ∙ joined (get_or xs i 0 == p) (list_any (λ n. n == p) (take i xs)) old
    ∙ ap (λ x. x || old) (sym (ap (λ ys. list_any (λ n. n == p) ys) (take_more xs i 0 lt) ∙ any_push (λ n. n == p) (take i xs) (get_or xs i 0)))

-- what holds of each number so far, and of the next, holds of one more
pub one_more : (P : ℕ → Type 0) (xs : List ℕ) (i : ℕ) → i < length xs → ((p : ℕ) → list_any (λ n. n == p) (take i xs) ≡ true → P p) → P (get_or xs i 0) → (p : ℕ) → list_any (λ n. n == p) (take (i + 1) xs) ≡ true → P p
one_more P xs i lt before here p any = elim (or_cases _ _ (sym (ap (λ ys. list_any (λ n. n == p) ys) (take_more xs i 0 lt) ∙ any_push (λ n. n == p) (take i xs) (get_or xs i 0)) ∙ any)) [
  | inl old ↦ before p old
  | inr new ↦ subst P (eqb-true (get_or xs i 0) p new) here
]

or_true : (a b : Bool) → b ≡ true → (a || b) ≡ true
or_true true b e = refl
or_true false b e = e

or_first : (a b : Bool) → a ≡ true → (a || b) ≡ true
or_first true b e = refl
or_first false b e = absurd (true≢false (sym e))

pub any_there : (xs : List ℕ) (i : ℕ) → i < length xs → list_any (λ n. n == get_or xs i 0) xs ≡ true
any_there [] i lt = absurd (omega (arith, lt))
any_there (x ∷ xs) zero lt = or_first _ _ (eq-eqb x x refl)
any_there (x ∷ xs) (suc i) lt = or_true _ _ (any_there xs i (omega (arith, lt)))

-- ---- results

pub if_ok : {A E : Type 0} (r : Result A E) (P Q : A → Type 0) → ((x : A) → P x → Q x) → IfOk r P → IfOk r Q
if_ok (Ok x) P Q f h = f x h
if_ok (Err e) P Q f h = tt

-- A value of its kind is told whole by how it is printed.
use Rattle.std.proofs.Common.{◌≡◌, ◌≤◌, ℕ, zero, suc, Bool, true, false, cond, List, [], ◌∷◌, map, Option, Some, None, refl, sym, ap, ◌∙◌, arith}
use Rattle.std.specs.Prelude.{option_map, unwrap_or}
use Rattle.std.specs.FinMap as fin
use Rattle.std.specs.FinMap.{find}
use Rattle.std.specs.Ordering.{is_eq}
use lib.Dec.{T}
use Rattle.turn_rows.specs.amount_math.Content.{Content, count-of_entries, entries, is_zero, key_cmp, of_entries, of_entries-entries, same_content}
use Rattle.turn_rows.specs.amount_math.Sparse.{is_something}
use Rattle.turn_rows.specs.amount_math.ValueView.{IsValue}
use Rattle.turn_rows.specs.amount_math.declared.Kind.{Kind}
use Rattle.turn_rows.specs.amount_math.declared.Kind.TheVariants.{Nat, Set, Bag}
use Rattle.turn_rows.specs.Turns.{counted, key}
use Rattle.fair_rows.specs.Values.{content_of, entry_of, value_of}

keys_once : (es : List (List ℕ × ℕ)) (k : List ℕ) → find key_cmp k (map entry_of (map (λ (e : List ℕ × ℕ). key e.0) es)) ≡ option_map (λ n. 1) (find key_cmp k es)
keys_once [] k = refl
keys_once (e ∷ es) k = by (is_eq (key_cmp k e.0)) (keys_once es k)
  where
    by : (b : Bool) → find key_cmp k (map entry_of (map (λ (e : List ℕ × ℕ). key e.0) es)) ≡ option_map (λ n. 1) (find key_cmp k es)
        → cond b (Some 1) (find key_cmp k (map entry_of (map (λ (e : List ℕ × ℕ). key e.0) es))) ≡ option_map (λ n. 1) (cond b (Some e.1) (find key_cmp k es))
    by true rest = refl
    by false rest = rest

one_or_none : (o : Option ℕ) → T (is_something is_zero o) → unwrap_or o 0 ≤ 1 → unwrap_or (option_map (λ n. 1) o) 0 ≡ unwrap_or o 0
one_or_none None some few = refl
one_or_none (Some zero) some few = absurd some
one_or_none (Some (suc n)) some few = omega (arith, few)

counts_as : (es : List (List ℕ × ℕ)) → map entry_of (map (λ (e : List ℕ × ℕ). counted e.0 e.1) es) ≡ es
counts_as [] = refl
counts_as (e ∷ es) = ap (λ (fs : List (List ℕ × ℕ)). e ∷ fs) (counts_as es)

pub whole : (kind : Kind) (c : Content) → IsValue kind c → content_of (value_of kind c) ≡ c
whole Nat c value = sym value.only_units
whole Bag c value = ap of_entries (counts_as (entries c)) ∙ of_entries-entries c
whole Set c value = same_content _ _ (λ k.
    let o : Option ℕ = fin.get c.held k in
    let found : o ≡ find key_cmp k (entries c) = fin.get-entries c.held k in
    let few : unwrap_or o 0 ≤ 1 = value.fits.each k in
    count-of_entries _ k ∙ ap (λ p. unwrap_or p 0) (keys_once (entries c) k) ∙ ap (λ p. unwrap_or (option_map (λ n. 1) p) 0) (sym found) ∙ one_or_none o (c.listed k) few)

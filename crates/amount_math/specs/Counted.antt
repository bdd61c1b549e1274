-- How much a content has of all elements together.
use Rattle.std.specs.Prelude.{◌≡◌, ℕ, ◌+◌, List, [], ◌∷◌, unwrap_or, refl}
use Rattle.std.proofs.Common.{sym, ◌∙◌, ap, arith}
use lib.Dec.{T}
use Rattle.std.specs.FinMap as fin
use Rattle.std.specs.FinMap.{is_sorted}
use Rattle.amount_math.specs.Content.{Content, counts, key_cmp, count, entries, nothing, of_nat, unit, sum, difference, combined, Contains, sum-difference, count-nothing, count-combined}
use Rattle.amount_math.specs.Totals.{total, total-put, total-empty, weighed, absent_below, sorted_rest}

abbrev by_count : List ℕ → ℕ → ℕ
by_count k n = n

-- the sum of the counts
abbrev pub counted : Content → ℕ
counted c = total by_count counts c

pub counted-nothing : counted nothing ≡ 0
counted-nothing = total-empty by_count counts

pub counted-of_nat : (n : ℕ) → counted (of_nat n) ≡ n
unfolding of_nat
counted-of_nat n = omega (arith, total-put by_count counts (λ _. refl) nothing unit n, count-nothing unit, counted-nothing)

along : (c : Content) (es : List (List ℕ × ℕ)) → T (is_sorted key_cmp es) → counted (combined (λ m n. m + n) c es) ≡ counted c + weighed by_count es
along c [] h = omega arith
along c (e ∷ es) h =
    let rest = combined (λ m n. m + n) c es in
    let here : count rest e.0 ≡ count c e.0 = count-combined (λ m n. m + n) (λ n. omega arith) c es e.0 ∙ ap (λ o. count c e.0 + unwrap_or o 0) (absent_below by_count counts.total counts.same e es h) ∙ omega arith in
    omega (arith, total-put by_count counts (λ _. refl) rest e.0 (count c e.0 + e.1), here, along c es (sorted_rest by_count counts.total counts.same e es h))

pub counted-sum : (a b : Content) → counted (sum a b) ≡ counted a + counted b
unfolding sum
counted-sum a b = along a (entries b) (fin.entries_sorted b.held)

pub counted-difference : (a b : Content) → Contains a b → counted (difference a b) + counted b ≡ counted a
counted-difference a b h = sym (counted-sum (difference a b) b) ∙ ap counted (sum-difference a b h)

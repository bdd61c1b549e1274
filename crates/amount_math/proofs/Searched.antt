-- What a search by halving finds in rising entries, and where a key stands.
use Rattle.std.proofs.Common.{◌⊎◌, inl, inr, ◌≡◌, ℕ, zero, suc, ◌+◌, ◌<◌, true, false, cond, Result, Ok, Err, IfOk, IfErr, IsErr, MatchResult, List, [], ◌∷◌, length, get_or, refl, sym, ap, subst, ◌∙◌, arith}
use Rattle.std.proofs.lemmas.Bool.{cases_lt, false≢true}
use Rattle.std.proofs.lemmas.List.{get_or_default}
use Rattle.std.proofs.lemmas.List.Sorted.{searchable_from_sorted}
use lib.Dec.{T}
use Rattle.std.specs.List.Sorted.{IsSearchInRange, IsBinarySearchResult, IsSortedBy}
use Rattle.std.specs.Ordering.{is_eq, is_lt, eq_by_cmp, ordering_reverse}
use Rattle.std.specs.declared.cmp.Ordering.{Ordering}
use Rattle.std.specs.declared.cmp.Ordering.TheVariants.{Less, Greater}
use Rattle.std.specs.FinMap.Entries.{below_all}
use Rattle.amount_math.specs.Totals.{first, second, less}
use Rattle.amount_math.specs.Content.{key_cmp, counts}
use Rattle.amount_math.specs.Entries.{Entries, IsGap, IsRising, entry_at, tally}
use Rattle.amount_math.proofs.Listed.{below_rest, rising_rest, listed-tally, listed_at, same_key}

-- an earlier key is before a later one
pub rises : (es : Entries) (i j : ℕ) → IsRising es → i < j → j < length es → key_cmp (entry_at es i).0 (entry_at es j).0 ≡ Less
rises [] i j h lt within = absurd (omega (arith, within))
rises (e ∷ es) zero zero h lt within = absurd (omega (arith, lt))
rises (e ∷ es) zero (suc j) h lt within = above e.0 es j (below_rest e es h) (omega (arith, within))
  where
    above : (k : List ℕ) (fs : Entries) (j : ℕ) → T (below_all key_cmp k fs) → j < length fs → key_cmp k (entry_at fs j).0 ≡ Less
    above k [] j b lt = absurd (omega (arith, lt))
    above k (f ∷ fs) zero b lt = less _ (first _ (below_all key_cmp k fs) b)
    above k (f ∷ fs) (suc j) b lt = above k fs j (second (is_lt (key_cmp k f.0)) _ b) (omega (arith, lt))
rises (e ∷ es) (suc i) zero h lt within = absurd (omega (arith, lt))
rises (e ∷ es) (suc i) (suc j) h lt within = rises es i j (rising_rest e es h) (omega (arith, lt)) (omega (arith, within))

pub turned : (k q : List ℕ) (o : Ordering) → key_cmp k q ≡ o → key_cmp q k ≡ ordering_reverse o
turned k q o e = counts.total.antisymm q k ∙ ap ordering_reverse e

-- a key that stands nowhere is not there
pub nowhere : (es : Entries) (k : List ℕ) → ((j : ℕ) → j < length es → eq_by_cmp key_cmp k (entry_at es j).0 ≡ false) → tally es k ≡ 0
nowhere [] k apart = refl
nowhere (e ∷ es) k apart = ap (λ b. cond b e.1 0 + tally es k) (apart 0 (omega arith)) ∙ omega (arith, nowhere es k (λ j lt. apart (suc j) (omega (arith, lt))))

-- a key stands somewhere, or there is none of it
pub somewhere : (es : Entries) (k : List ℕ) → (tally es k ≡ 0) ⊎ ((j : ℕ) × (j < length es) × ((entry_at es j).0 ≡ k))
somewhere [] k = inl refl
somewhere (e ∷ es) k = elim (eq_by_cmp key_cmp k e.0) as (λ b. eq_by_cmp key_cmp k e.0 ≡ b → (cond b e.1 0 + tally es k ≡ 0) ⊎ ((j : ℕ) × (j < length (e ∷ es)) × ((entry_at (e ∷ es) j).0 ≡ k))) [
  | true ↦ λ t. inr (0, omega arith, sym (same_key k e.0 t))
  | false ↦ λ t. elim (somewhere es k) [
    | inl none ↦ inl (omega (arith, none))
    | inr at ↦ inr (suc at.0, omega (arith, at.1), at.2)
  ]
] refl

pub tally_at : (es : Entries) (i : ℕ) → IsRising es → i < length es → tally es (entry_at es i).0 ≡ (entry_at es i).1
tally_at es i h lt = sym (listed-tally es (entry_at es i).0 h) ∙ listed_at es i h lt

module _ (es : Entries) (h : IsRising es) (k : List ℕ) where
  in_order : IsSortedBy (λ a b. is_lt (key_cmp a.0 b.0)) es
  in_order i d low high =
      ap is_lt (turned (get_or es i d).0 (get_or es (i + 1) d).0 Less
      (subst (λ e. key_cmp (get_or es i d).0 e.0 ≡ Less) (get_or_default es (i + 1) ([], 0) d (omega (arith, high)))
      (subst (λ e. key_cmp e.0 (entry_at es (i + 1)).0 ≡ Less) (get_or_default es i ([], 0) d (omega (arith, high)))
      (rises es i (i + 1) h (omega arith) (omega (arith, high))))))

  not_equal : (q : List ℕ) (o : Ordering) → key_cmp q k ≡ o → is_eq (ordering_reverse o) ≡ false → eq_by_cmp key_cmp k q ≡ false
  not_equal q o e differs = ap is_eq (turned q k o e) ∙ differs

  -- a search by halving ends at the key, or where it has its place
  pub searched : (r : Result ℕ ℕ) → IsSearchInRange r (length es) → IsBinarySearchResult (λ (e : List ℕ × ℕ). key_cmp e.0 k) es r → MatchResult r (λ i. (i < length es) × ((entry_at es i).0 ≡ k)) (λ i. IsGap es k i)
  searched (Ok i) within at = (within, counts.same (entry_at es i).0 k (at ([], 0)))
  searched (Err i) within parted =
      let sides = parted (searchable_from_sorted counts.total (λ e. e.0) es k in_order) in
      record {
        within = within;
        before = λ j lt. sides.0 j ([], 0) (omega (arith, within, lt)) lt;
        after = λ j le lt. turned (entry_at es j).0 k Greater (sides.1 j ([], 0) le lt);
      }

  -- where it has its place there is none of it
  pub none_at_gap : (i : ℕ) → IsGap es k i → tally es k ≡ 0
  none_at_gap i gap = nowhere es k (λ j lt. elim (cases_lt j i) [
    | inl before ↦ not_equal (entry_at es j).0 Less (gap.before j before) refl
    | inr after ↦ ap is_eq (gap.after j after lt)
  ])

-- what a search found, and what it missed
pub if_found : (r : Result ℕ ℕ) (P Q : ℕ → Type 0) → MatchResult r P Q → IfOk r P
if_found (Ok i) P Q h = h
if_found (Err i) P Q h = tt

pub if_missed : (r : Result ℕ ℕ) (P Q : ℕ → Type 0) → MatchResult r P Q → IfErr r Q
if_missed (Ok i) P Q h = tt
if_missed (Err i) P Q h = h

pub absent_if : (es : Entries) (h : IsRising es) (k : List ℕ) (r : Result ℕ ℕ) → IfErr r (IsGap es k) → IsErr r → tally es k ≡ 0
absent_if es h k (Ok i) gap is = absurd (false≢true is)
absent_if es h k (Err i) gap is = none_at_gap es h k i gap

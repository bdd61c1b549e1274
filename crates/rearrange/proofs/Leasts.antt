-- The least of numbers, and the first element that passes a test.
use Rattle.std.specs.Prelude.{unwrap_or}
use Rattle.std.specs.FinMap as fin
use Rattle.std.specs.FinMap.Entries.{below_all}
use Rattle.std.specs.List.{AllByRecursion, find}
use Rattle.std.specs.Ordering.{eq_by_cmp, is_lt}
use Rattle.std.specs.declared.cmp.Ordering.TheVariants.{Less}
use Rattle.std.proofs.Common.{◌≡◌, ◌≢◌, ℕ, ◌≤◌, min, Bool, true, false, cond, List, [], ◌∷◌, filter, map, IfSome, Option, Some, None, inl, inr, refl, sym, ap, subst, ◌∙◌, arith}
use lib.Dec.{T}
use Rattle.refusals.specs.amount_math.Content.{key_cmp, listed}
use Rattle.refusals.specs.amount_math.Entries.{Entries, IsRising}
use Rattle.refusals.specs.amount_math.Totals.{first, less, second}
use Rattle.refusals.proofs.amount_math.Listed.{below_rest, rising_rest, same_key}
use Rattle.proposals.specs.Leasts.{least, least_of}
use Rattle.rearrange.proofs.TestedConservation.{Named}

-- ---- the least

module _ (n : ℕ) where
  abbrev pub AllFrom : List ℕ → Type 0
  AllFrom ms = AllByRecursion (λ m. n ≤ m) ms

  least_from : (ms : List ℕ) → AllFrom ms → IfSome (least ms) (λ m. n ≤ m)
  least_from [] all = tt
  least_from (m ∷ ms) all = by (least ms) (least_from ms all.1)
    where
      by : (o : Option ℕ) → IfSome o (λ q. n ≤ q) → IfSome (least_of (Some m) o) (λ q. n ≤ q)
      by None rest = all.0
      by (Some q) rest = omega (arith, all.0, rest)

  not_less : (o : Option ℕ) → IfSome o (λ m. n ≤ m) → least_of (Some n) o ≡ Some n
  not_less None from = refl
  not_less (Some m) from = let same : min n m ≡ n = omega (arith, from) in ap Some same

  pub least_is : (ms : List ℕ) → Named n ms → AllFrom ms → least ms ≡ Some n
  least_is [] named all = absurd named
  least_is (m ∷ ms) (inl same) all = ap (λ k. least_of (Some k) (least ms)) same ∙ not_less (least ms) (least_from ms all.1)
  least_is (m ∷ ms) (inr later) all =
      let same : min m n ≡ n = omega (arith, all.0) in
      ap (least_of (Some m)) (least_is ms later all.1) ∙ ap Some same

module _ (p : ℕ → Bool) (n : ℕ) where
  pub named_among : p n ≡ true → (ms : List ℕ) → Named n ms → Named n (filter p ms)
  named_among passes [] named = absurd named
  named_among passes (m ∷ ms) named = by (p m) refl named (named_among passes ms)
    where
      by : (b : Bool) → p m ≡ b → Named n (m ∷ ms) → (Named n ms → Named n (filter p ms)) → Named n (cond b (m ∷ filter p ms) (filter p ms))
      by true is (inl same) later = inl same
      by true is (inr rest) later = inr (later rest)
      by false is (inr rest) later = later rest
      by false is (inl same) later = let clash : true ≡ false = sym passes ∙ ap p (sym same) ∙ is in absurd (cc)

  pub all_among : ((m : ℕ) → p m ≡ true → n ≤ m) → (ms : List ℕ) → AllFrom n (filter p ms)
  all_among from [] = tt
  all_among from (m ∷ ms) = by (p m) refl (all_among from ms)
    where
      by : (b : Bool) → p m ≡ b → AllFrom n (filter p ms) → AllFrom n (cond b (m ∷ filter p ms) (filter p ms))
      by true is rest = (from m is, rest)
      by false is rest = rest

-- ---- the first that passes

pub found_passes : {A : Type 0} (p : A → Bool) (xs : List A) → IfSome (find p xs) (λ x. p x ≡ true)
found_passes p [] = tt
found_passes p (x ∷ xs) = by (p x) refl (found_passes p xs)
  where
    by : (b : Bool) → p x ≡ b → IfSome (find p xs) (λ y. p y ≡ true) → IfSome (cond b (Some x) (find p xs)) (λ y. p y ≡ true)
    by true is rest = is
    by false is rest = rest

-- a key that stands further on is behind the first
behind : (e : List ℕ × ℕ) (es : Entries) (k : List ℕ) → T (below_all key_cmp e.0 es) → listed es k ≢ 0 → key_cmp e.0 k ≡ Less
behind e [] k h there = absurd (there refl)
behind e (f ∷ fs) k h there = elim (eq_by_cmp key_cmp k f.0) as (λ b. eq_by_cmp key_cmp k f.0 ≡ b → unwrap_or (cond b (Some f.1) (fin.find key_cmp k fs)) 0 ≢ 0 → key_cmp e.0 k ≡ Less) [
  | true ↦ λ p r. subst (λ q. key_cmp e.0 q ≡ Less) (sym (same_key k f.0 p)) (less _ (first _ _ h))
  | false ↦ λ p r. behind e fs k (second (is_lt (key_cmp e.0 f.0)) _ h) r
] refl there

module _ (p : List ℕ → Bool) (k : List ℕ) (passes : p k ≡ true) (leads : (q : List ℕ) → p q ≡ true → key_cmp q k ≢ Less) where
  earlier : (q : List ℕ) (b : Bool) → p q ≡ b → key_cmp q k ≡ Less → b ≡ false
  earlier q false is before = refl
  earlier q true is before = absurd (leads q is before)

  pub first_in : (es : Entries) → IsRising es → listed es k ≢ 0 → find p (map (λ e. e.0) es) ≡ Some k
  first_in [] h there = absurd (there refl)
  first_in (e ∷ es) h there =
      let rest = find p (map (λ (f : List ℕ × ℕ). f.0) es) in
      elim (eq_by_cmp key_cmp k e.0) as (λ b. eq_by_cmp key_cmp k e.0 ≡ b → unwrap_or (cond b (Some e.1) (fin.find key_cmp k es)) 0 ≢ 0 → cond (p e.0) (Some e.0) rest ≡ Some k) [
        | true ↦ λ t r. let is = same_key k e.0 t in ap (λ b. cond b (Some e.0) rest) (ap p (sym is) ∙ passes) ∙ ap Some (sym is)
        | false ↦ λ t r. ap (λ b. cond b (Some e.0) rest) (earlier e.0 (p e.0) refl (behind e es k (below_rest e es h) r)) ∙ first_in es (rising_rest e es h) r
      ] refl there

-- What the values of a sparse map weigh together, and what a change at one key makes of that.
use Rattle.std.specs.Prelude.{◌≡◌, ℕ, ◌+◌, Bool, true, false, cond, ◌&&◌, List, [], ◌∷◌, length, unwrap_or, Option, Some, None, refl}
use Rattle.std.proofs.Common.{sym, ◌∙◌, ap, subst, arith}
use Rattle.std.specs.Ordering.{eq_by_cmp, is_eq, is_lt}
use Rattle.std.specs.declared.cmp.Ordering.{Ordering}
use Rattle.std.specs.declared.cmp.Ordering.TheVariants.{Less, Equal, Greater}
use lib.Dec.{T, T_not}
use Rattle.std.specs.Cmp.{IsTotalOrder, tied_itself}
use Rattle.std.specs.FinMap as fin
use Rattle.std.specs.FinMap.{FinMap, find, is_sorted, IsAntisymmetric}
use Rattle.std.specs.FinMap.Entries.{by_order, below_all}
use Rattle.amount_math.specs.Sparse.{Setting, Sparse, at, put, put_by, empty, is_something}

pub first : (a b : Bool) → T (a && b) → T a
first true b p = tt
first false b p = p

pub second : (a b : Bool) → T (a && b) → T b
second true b p = p
second false b p = absurd p

pub less : (r : Ordering) → T (is_lt r) → r ≡ Less
less Less p = refl
less Equal p = absurd p
less Greater p = absurd p

pub equal : (r : Ordering) → is_eq r ≡ true → r ≡ Equal
equal Equal e = refl
equal Less e = absurd (subst T (sym e) tt)
equal Greater e = absurd (subst T (sym e) tt)

no_entries : {A : Type 0} (es : List A) → length es ≡ 0 → es ≡ []
no_entries [] e = refl
no_entries (x ∷ es) e = absurd (omega arith)

module _ {K X : Type 0} (w : K → X → ℕ) where
  -- the weights of entries, added up
  abbrev pub weighed : List (K × X) → ℕ
  weighed [] = 0
  weighed (e ∷ es) = w e.0 e.1 + weighed es

  abbrev was : K → Option X → ℕ
  was k None = 0
  was k (Some x) = w k x

  module _ {R : K → K → Ordering} (o : IsTotalOrder R) (same : IsAntisymmetric R) where
    lost : (k y : K) (es : List (K × X)) → R k y ≡ Less → T (below_all R y es) → find R k es ≡ None
    lost k y [] p h = refl
    lost k y (e ∷ es) p h = ap (λ r. cond (is_eq r) (Some e.1) (find R k es)) (o.trans k y e.0 p (less _ (first _ _ h))) ∙ lost k y es p (second _ _ h)

    -- the first key of a sorted list stands there once
    pub absent_below : (e : K × X) (es : List (K × X)) → T (is_sorted R (e ∷ es)) → find R e.0 es ≡ None
    absent_below e es h = gone es (first _ _ h)
      where
        gone : (fs : List (K × X)) → T (below_all R e.0 fs) → find R e.0 fs ≡ None
        gone [] p = refl
        gone (f ∷ fs) p = ap (λ r. cond (is_eq r) (Some f.1) (find R e.0 fs)) (less _ (first _ _ p)) ∙ gone fs (second _ _ p)

    pub sorted_rest : (e : K × X) (es : List (K × X)) → T (is_sorted R (e ∷ es)) → T (is_sorted R es)
    sorted_rest e es h = second (below_all R e.0 es) (is_sorted R es) h

    weighed-put : (k : K) (v : X) (es : List (K × X)) → T (is_sorted R es) → weighed (fin.put R k v es) + was k (find R k es) ≡ weighed es + w k v
    weighed-put k v [] h = omega arith
    weighed-put k v (e ∷ es) h =
        elim (R k e.0) as (λ r. R k e.0 ≡ r → weighed (by_order r ((k, v) ∷ e ∷ es) ((e.0, v) ∷ es) (e ∷ fin.put R k v es)) + was k (cond (is_eq r) (Some e.1) (find R k es)) ≡ (w e.0 e.1 + weighed es) + w k v) [
          | Less ↦ λ p. subst (λ f. (w k v + (w e.0 e.1 + weighed es)) + was k f ≡ (w e.0 e.1 + weighed es) + w k v) (sym (lost k e.0 es p (first _ _ h))) (omega arith)
          | Equal ↦ λ p. subst (λ x. (w x v + weighed es) + w k e.1 ≡ (w x e.1 + weighed es) + w k v) (same k e.0 p) (omega arith)
          | Greater ↦ λ p. omega (arith, weighed-put k v es (second (below_all R e.0 es) (is_sorted R es) h))
        ] refl

    abbrev in_map : FinMap R X → ℕ
    in_map m = weighed (fin.entries m)

    in_map-insert : (m : FinMap R X) (k : K) (v : X) → in_map (fin.insert m k v) + was k (fin.get m k) ≡ in_map m + w k v
    in_map-insert m k v = ap (λ es. weighed es + was k (fin.get m k)) (fin.entries-insert o m k v) ∙ ap (λ f. weighed (fin.put R k v (fin.entries m)) + was k f) (fin.get-entries m k) ∙ weighed-put k v (fin.entries m) (fin.entries_sorted m)

    in_map-remove : (m : FinMap R X) (k : K) → in_map (fin.remove m k) + was k (fin.get m k) ≡ in_map m
    in_map-remove m k = elim (fin.get m k) as (λ g. fin.get m k ≡ g → in_map (fin.remove m k) + was k g ≡ in_map m) [
      | None ↦ λ is. omega (arith, ap in_map (no_change is))
      | Some x ↦ λ is. let back = in_map-insert (fin.remove m k) k x in let kept = ap in_map (put_back x is) in let gone = ap (was k) (removed) in omega (arith, back, kept, gone)
    ] refl
      where
        removed : fin.get (fin.remove m k) k ≡ None
        removed = fin.get-remove o m k k ∙ ap (λ b. cond b None (fin.get m k)) (ap is_eq (tied_itself o k))

        no_change : fin.get m k ≡ None → fin.remove m k ≡ m
        no_change is = fin.same_map o same _ _ (λ q. fin.get-remove o m k q ∙ pick q)
          where
            pick : (q : K) → cond (eq_by_cmp R q k) None (fin.get m q) ≡ fin.get m q
            pick q = elim (eq_by_cmp R q k) as (λ b. eq_by_cmp R q k ≡ b → cond b None (fin.get m q) ≡ fin.get m q) [
              | true ↦ λ e. sym (ap (fin.get m) (same q k (equal _ e)) ∙ is)
              | false ↦ λ e. refl
            ] refl

        put_back : (x : X) → fin.get m k ≡ Some x → fin.insert (fin.remove m k) k x ≡ m
        put_back x is = fin.same_map o same _ _ (λ q. fin.get-insert o (fin.remove m k) k x q ∙ ap (cond (eq_by_cmp R q k) (Some x)) (fin.get-remove o m k q) ∙ pick q)
          where
            pick : (q : K) → cond (eq_by_cmp R q k) (Some x) (cond (eq_by_cmp R q k) None (fin.get m q)) ≡ fin.get m q
            pick q = elim (eq_by_cmp R q k) as (λ b. eq_by_cmp R q k ≡ b → cond b (Some x) (cond b None (fin.get m q)) ≡ fin.get m q) [
              | true ↦ λ e. sym (ap (fin.get m) (same q k (equal _ e)) ∙ is)
              | false ↦ λ e. refl
            ] refl

  module _ {R : K → K → Ordering} {is_nothing : X → Bool} {nothing : X} (s : Setting R is_nothing nothing) where
    abbrev pub total : Sparse R is_nothing → ℕ
    total m = weighed (fin.entries m.held)

    module _ (weightless : (k : K) → w k nothing ≡ 0) where
      was_at : (m : Sparse R is_nothing) (k : K) → was k (fin.get m.held k) ≡ w k (at s m k)
      was_at m k = elim (fin.get m.held k) as (λ g. was k g ≡ w k (unwrap_or g nothing)) [ None ↦ sym (weightless k) | Some x ↦ refl ]

      total-put_by : (m : Sparse R is_nothing) (k : K) (x : X) (b : Bool) (e : is_nothing x ≡ b) → total (put_by s m k x b e) + w k (at s m k) ≡ total m + w k x
      unfolding put_by
      total-put_by m k x true e = omega (arith, in_map-remove s.total s.same m.held k, was_at m k, weightless k, ap (w k) (s.nothing_is x (subst T (sym e) tt)))
      total-put_by m k x false e = omega (arith, in_map-insert s.total s.same m.held k x, was_at m k)

      -- what is put weighs in place of what was there
      pub total-put : (m : Sparse R is_nothing) (k : K) (x : X) → total (put s m k x) + w k (at s m k) ≡ total m + w k x
      unfolding put
      total-put m k x = total-put_by m k x _ refl

    pub total-empty : total empty ≡ 0
    unfolding empty
    total-empty = ap weighed (no_entries _ (sym (fin.len-entries fin.empty) ∙ fin.len-empty R X))

-- ---- sums of weights, and the weight of one key

pub total-by : {K X : Type 0} {R : K → K → Ordering} {is_nothing : X → Bool} {nothing : X} (s : Setting R is_nothing nothing) (u v w : K → X → ℕ) → ((k : K) (x : X) → u k x + v k x ≡ w k x) → (m : Sparse R is_nothing) → total u s m + total v s m ≡ total w s m
total-by {K = K} {X = X} s u v w is m = along (fin.entries m.held)
  where
    along : (es : List (K × X)) → weighed u es + weighed v es ≡ weighed w es
    along [] = refl
    along (e ∷ es) = omega (arith, is e.0 e.1, along es)

-- where nothing is at a key, what stands at it alone weighs nothing
pub total_at_nothing : {K X : Type 0} {R : K → K → Ordering} {is_nothing : X → Bool} {nothing : X} (s : Setting R is_nothing nothing) (w : K → X → ℕ) (k0 : K) → ((k : K) (x : X) → eq_by_cmp R k0 k ≡ false → w k x ≡ 0) → (m : Sparse R is_nothing) → at s m k0 ≡ nothing → total w s m ≡ 0
total_at_nothing {K = K} {X = X} {R = R} {is_nothing = is_nothing} {nothing = nothing} s w k0 else_zero m empty_there = along (fin.entries m.held) (sym (fin.get-entries m.held k0) ∙ none (fin.get m.held k0) (m.listed k0) empty_there)
  where
    none : (o : Option X) → T (is_something is_nothing o) → unwrap_or o nothing ≡ nothing → o ≡ None
    none None p e = refl
    none (Some x) p e = absurd (T_not _ p (subst (λ v. T (is_nothing v)) (sym e) s.is_nothing_is))

    along : (es : List (K × X)) → find R k0 es ≡ None → weighed w es ≡ 0
    along [] e = refl
    along (e ∷ es) is = elim (eq_by_cmp R k0 e.0) as (λ b. eq_by_cmp R k0 e.0 ≡ b → cond b (Some e.1) (find R k0 es) ≡ None → w e.0 e.1 + weighed w es ≡ 0) [
      | true ↦ λ p q. absurd (no q)
      | false ↦ λ p q. omega (arith, else_zero e.0 e.1 p, along es q)
    ] refl is
      where
        no : Some e.1 ≡ None → ⊥
        no q = cc

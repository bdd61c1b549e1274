-- The set of seats that wait: a pair is put in, taken out, or looked for.
use Rattle.std.specs.Prelude.{IfSome, nat_lt}
use Rattle.std.proofs.Common.{◌≡◌, ◌≢◌, ℕ, zero, suc, ◌==◌, ◌<◌, ◌≤◌, ◌⊎◌, inl, inr, Bool, true, false, cond, List, [], ◌∷◌, Option, Some, None, refl, sym, ap, subst, ◌∙◌, arith}
use Rattle.std.specs.BTreeMap.{is_at}
use Rattle.std.specs.BTreeMap.Range.{IsLeBy}
use Rattle.std.specs.BTreeSet.{IsKeyInRange, IsKeyRangeOf, contains}
use Rattle.std.specs.Cmp.{Equal-is}
use Rattle.std.specs.List.{slice_get}
use Rattle.std.specs.Ordering.{is_eq, is_gt, nat_cmp, ordering_then}
use Rattle.std.specs.declared.cmp.Ordering.{Ordering}
use Rattle.std.specs.declared.ops.Bound.TheVariants.{Included, Unbounded}
use Rattle.std.specs.declared.cmp.Ordering.TheVariants.{Less, Equal, Greater}
use Rattle.std.proofs.lemmas.Map.Lookups.{exact_pairs, exact_unsigned}
use Rattle.told_causes.specs.ToldCauses.{pair_cmp, waits}
use Rattle.told_causes.specs.StandingSteps.{IsListed, IsStopped, IsUnlisted, waits_at}
use Rattle.told_causes.specs.declared.standings.Standings.{Standings}
use Rattle.told_causes.proofs.Ones.{equal_or_not}

nat_same : (n : ℕ) → nat_cmp n n ≡ Equal
nat_same n = grind arith

less : (m n : ℕ) → nat_lt m n ≡ true → m < n
less m n h = grind arith

same : (m n : ℕ) → (m == n) ≡ true → m ≡ n
same m n h = grind arith

-- ---- the order of pairs

pair_same : (m n : ℕ) → pair_cmp (m, n) (m, n) ≡ Equal
pair_same m n = ap (λ (o : Ordering). ordering_then o (nat_cmp n n)) (nat_same m) ∙ nat_same n

pub at_same : (m n : ℕ) → is_at (pair_cmp (m, n)) (m, n) ≡ true
at_same m n = ap is_eq (pair_same m n)

equal_pairs : (p q : ℕ × ℕ) → pair_cmp p q ≡ Equal → p ≡ q
equal_pairs = exact_pairs nat_cmp nat_cmp exact_unsigned exact_unsigned

pub at_other : (p q : ℕ × ℕ) → (p ≡ q → ⊥) → is_at (pair_cmp p) q ≡ false
at_other p q apart = by (is_eq (pair_cmp p q)) refl
  where
    by : (b : Bool) → is_eq (pair_cmp p q) ≡ b → b ≡ false
    by true h = absurd (apart (equal_pairs p q ((Equal-is (pair_cmp p q)).0 h)))
    by false h = refl

pub first_le : (p q : ℕ × ℕ) → is_gt (pair_cmp p q) ≡ false → p.0 ≤ q.0
first_le p q h = by (nat_lt p.0 q.0) (p.0 == q.0) refl refl h
  where
    by : (a b : Bool) → nat_lt p.0 q.0 ≡ a → (p.0 == q.0) ≡ b → is_gt (ordering_then (cond a Less (cond b Equal Greater)) (nat_cmp p.1 q.1)) ≡ false → p.0 ≤ q.0
    by true b lt is k = let below : p.0 < q.0 = less p.0 q.0 lt in omega arith
    by false true lt is k = let equal : p.0 ≡ q.0 = same p.0 q.0 is in omega arith
    by false false lt is k = absurd (cc)

zero_first : (n : ℕ) → is_gt (nat_cmp 0 n) ≡ false
zero_first zero = refl
zero_first (suc n) = grind arith

pub from_zero : (m n : ℕ) → is_gt (pair_cmp (m, 0) (m, n)) ≡ false
from_zero m n = ap (λ (o : Ordering). is_gt (ordering_then o (nat_cmp 0 n))) (nat_same m) ∙ zero_first n

apart_by : (m n o k : ℕ) → (m ≡ o → n ≡ k → ⊥) → ◌≡◌ {A = ℕ × ℕ} (m, n) (o, k) → ⊥
apart_by m n o k h e = h (ap (λ (p : ℕ × ℕ). p.0) e) (ap (λ (p : ℕ × ℕ). p.1) e)

-- ---- steps

module _ (old new : Standings) (m seat : ℕ) where
  pub unlisted : ((q : ℕ × ℕ) → contains pair_cmp new.waiting q ≡ cond (is_at (pair_cmp (m, seat)) q) false (contains pair_cmp old.waiting q))
      → new.instances ≡ old.instances → new.standings ≡ old.standings → IsUnlisted old new m seat
  unlisted step instances standings = record {
    instances = instances;
    standings = standings;
    at = step (m, seat) ∙ ap (λ (b : Bool). cond b false (waits old m seat)) (at_same m seat);
    same = λ n apart. step (m, n) ∙ ap (λ (b : Bool). cond b false (waits old m n)) (at_other (m, seat) (m, n) (apart_by m seat m n (λ _ e. apart e)));
    others = λ o n apart. step (o, n) ∙ ap (λ (b : Bool). cond b false (waits old o n)) (at_other (m, seat) (o, n) (apart_by m seat o n (λ e _. apart e)));
  }

  pub listed : ((q : ℕ × ℕ) → contains pair_cmp new.waiting q ≡ cond (is_at (pair_cmp (m, seat)) q) true (contains pair_cmp old.waiting q))
      → new.standings ≡ old.standings → IsListed old new m seat
  listed step standings = record {
    standings = standings;
    at = step (m, seat) ∙ ap (λ (b : Bool). cond b true (waits old m seat)) (at_same m seat);
    other = other;
  }
    where
      apart : (o n : ℕ) → (◌≡◌ {A = ℕ × ℕ} (m, seat) (o, n) → ⊥) → waits new o n ≡ waits old o n
      apart o n h = step (o, n) ∙ ap (λ (b : Bool). cond b true (waits old o n)) (at_other (m, seat) (o, n) h)

      other : (o n : ℕ) → (waits new o n ≡ waits old o n) ⊎ ((o ≡ m) × (n ≡ seat))
      other o n = elim (equal_or_not m o) [
        | inr away ↦ inl (apart o n (apart_by m seat o n (λ e _. away.1 e)))
        | inl one ↦ elim (equal_or_not seat n) [
          | inr away ↦ inl (apart o n (apart_by m seat o n (λ _ e. away.1 e)))
          | inl both ↦ inr (sym one, sym both)
        ]
      ]

  -- the instance is that of the seat
  pub stopped : (was : Bool) → IsUnlisted old new m seat → slice_get old.instances.items seat ≡ Some m → was ≡ waits old m seat → IsStopped old new seat was
  stopped was off own is = record {
    instances = off.instances;
    standings = off.standings;
    is = is ∙ sym (ap (λ (o : Option ℕ). waits_at old o seat) own);
    stopped = λ o found. let one : m ≡ o = (let e : Some m ≡ Some o = sym own ∙ found in cc) in subst (λ (k : ℕ). waits new k seat ≡ false) one off.at;
    other = other;
    fewer = fewer;
  }
    where
      other : (o n : ℕ) → seat ≢ n → waits new o n ≡ waits old o n
      other o n away = elim (equal_or_not m o) [
        | inl one ↦ subst (λ (k : ℕ). waits new k n ≡ waits old k n) one (off.same n away)
        | inr apart ↦ off.others o n apart.1
      ]

      fewer : (o n : ℕ) → waits new o n ≡ true → waits old o n ≡ true
      fewer o n w = elim (equal_or_not m o) [
        | inr apart ↦ sym (off.others o n apart.1) ∙ w
        | inl one ↦ elim (equal_or_not seat n) [
          | inr away ↦ sym (subst (λ (k : ℕ). waits new k n ≡ waits old k n) one (off.same n away.1)) ∙ w
          | inl both ↦ absurd (let no : waits new o n ≡ false = ap (λ (k : ℕ). waits new k n) (sym one) ∙ ap (waits new m) (sym both) ∙ off.at in cc)
        ]
      ]

pub none_stopped : (k : Standings) (seat : ℕ) → slice_get k.instances.items seat ≡ None → IsStopped k k seat false
none_stopped k seat none = record {
  instances = refl;
  standings = refl;
  is = sym (ap (λ (o : Option ℕ). waits_at k o seat) none);
  stopped = λ o found. absurd (let no : None ≡ Some o = sym none ∙ found in cc);
  other = λ o n away. refl;
  fewer = λ o n w. w;
}

-- ---- the first of an instance

-- no pair of the instance stands in a set whose first pair from (instance, 0) on is of another
pub none_of : (k : Standings) (m : ℕ) (first : ℕ × ℕ) → is_gt (pair_cmp (m, 0) first) ≡ false → ((n : ℕ) → waits k m n ≡ true → is_gt (pair_cmp first (m, n)) ≡ false) → (first.0 ≡ m → ⊥) → (n : ℕ) → waits k m n ≡ false
none_of k m first from least other n = by (waits k m n) refl
  where
    by : (b : Bool) → waits k m n ≡ b → b ≡ false
    by true h =
        let low : m ≤ first.0 = first_le (m, 0) first from in
        let high : first.0 ≤ m = first_le first (m, n) (least n h) in
        absurd (other (omega arith))
    by false h = refl

pub none_past : (k : Standings) (m : ℕ) (r : List (ℕ × ℕ)) (first : ℕ × ℕ) (rest : List (ℕ × ℕ)) → IsKeyRangeOf pair_cmp (Included (m, 0)) Unbounded k.waiting r → r ≡ first ∷ rest → (first.0 ≡ m → ⊥) → (n : ℕ) → waits k m n ≡ false
none_past k m r first rest range is other =
    let begins : slice_get r 0 ≡ Some first = ap (λ (l : List (ℕ × ℕ)). slice_get l 0) is in
    let there : IsKeyInRange pair_cmp (Included (m, 0)) Unbounded k.waiting first = subst (λ (o : Option (ℕ × ℕ)). IfSome o (IsKeyInRange pair_cmp (Included (m, 0)) Unbounded k.waiting)) begins range.1 in
    none_of k m first there.0.0 (λ n w. subst (λ (o : Option (ℕ × ℕ)). IfSome o (λ q. IsLeBy pair_cmp q (m, n))) begins (range.2 (m, n) (from_zero m n, tt) w)) other

pub none_at_all : (k : Standings) (m : ℕ) (r : List (ℕ × ℕ)) → IsKeyRangeOf pair_cmp (Included (m, 0)) Unbounded k.waiting r → r ≡ [] → (n : ℕ) → waits k m n ≡ false
none_at_all k m r range is n = range.5 is (m, n) (from_zero m n, tt)

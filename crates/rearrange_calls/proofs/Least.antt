-- Numbers that are the same have the same least.
use Rattle.std.specs.Prelude.{IfSome}
use Rattle.std.proofs.Common.{◌⊎◌, inl, inr, ◌≡◌, ℕ, ◌<◌, ◌≤◌, min, List, [], ◌∷◌, Option, None, Some, refl, sym, subst, ◌∙◌, arith}
use Rattle.std.proofs.lemmas.Bool.{cases_lt}
use Rattle.rearrange.proofs.TestedConservation.{Named}
use Rattle.rearrange.proofs.Leasts.{AllFrom, least_is}
use Rattle.rules.specs.proposals.Leasts.{least, least_of}

pub record IsLeast (m : ℕ) (ns : List ℕ) : Type 0 where
  pub named : Named m ns
  pub from : AllFrom m ns

not_some : (n : ℕ) (o : Option ℕ) → least_of (Some n) o ≡ None → ⊥
not_some n None is = cc
not_some n (Some m) is = cc

none_all : (n : ℕ) (ns : List ℕ) → least ns ≡ None → AllFrom n ns
none_all n [] is = tt
none_all n (m ∷ ms) is = absurd (not_some m (least ms) is)

from_more : (m n : ℕ) (ns : List ℕ) → m ≤ n → AllFrom n ns → AllFrom m ns
from_more m n [] le from = tt
from_more m n (k ∷ ks) le from = (omega (arith, le, from.0), from_more m n ks le from.1)

lesser_is : (n : ℕ) (ns : List ℕ) (q : ℕ) → IsLeast q ns → IsLeast (min n q) (n ∷ ns)
lesser_is n ns q is = by (cases_lt n q)
  where
    by : (n < q) ⊎ (q ≤ n) → IsLeast (min n q) (n ∷ ns)
    by (inl lt) =
        let same : n ≡ min n q = omega (arith, lt) in
        subst (λ m. IsLeast m (n ∷ ns)) same (record { named = inl refl; from = (omega arith, from_more n q ns (omega (arith, lt)) is.from) })
    by (inr le) =
        let same : q ≡ min n q = omega (arith, le) in
        subst (λ m. IsLeast m (n ∷ ns)) same (record { named = inr is.named; from = (omega (arith, le), is.from) })

least_found : (ns : List ℕ) → IfSome (least ns) (λ m. IsLeast m ns)
least_found [] = tt
least_found (n ∷ ns) = by (least ns) refl (least_found ns)
  where
    by : (o : Option ℕ) → least ns ≡ o → IfSome o (λ m. IsLeast m ns) → IfSome (least_of (Some n) o) (λ m. IsLeast m (n ∷ ns))
    by None is rest = record { named = inl refl; from = (omega arith, none_all n ns is) }
    by (Some q) is rest = lesser_is n ns q rest

from_named : (m n : ℕ) (ns : List ℕ) → AllFrom m ns → Named n ns → m ≤ n
from_named m n [] from named = absurd named
from_named m n (k ∷ ks) from (inl same) = omega (arith, from.0, same)
from_named m n (k ∷ ks) from (inr later) = from_named m n ks from.1 later

all_from : (m : ℕ) (ns : List ℕ) → ((n : ℕ) → Named n ns → m ≤ n) → AllFrom m ns
all_from m [] from = tt
all_from m (n ∷ ns) from = (from n (inl refl), all_from m ns (λ k later. from k (inr later)))

pub least_same : (ms ns : List ℕ) → ((n : ℕ) → Named n ms → Named n ns) → ((n : ℕ) → Named n ns → Named n ms) → least ms ≡ least ns
least_same [] [] to back = refl
least_same [] (n ∷ ns) to back = absurd (back n (inl refl))
least_same (m ∷ ms) ns to back = by (least (m ∷ ms)) refl (least_found (m ∷ ms))
  where
    by : (o : Option ℕ) → least (m ∷ ms) ≡ o → IfSome o (λ q. IsLeast q (m ∷ ms)) → least (m ∷ ms) ≡ least ns
    by None is found = absurd (not_some m (least ms) is)
    by (Some q) is found = is ∙ sym (least_is q ns (to q found.named) (all_from q ns (λ n named. from_named q n (m ∷ ms) found.from (back n named))))

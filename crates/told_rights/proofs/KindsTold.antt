-- Which kinds are allowed of brands tells whether amounts have kinds.
use Rattle.std.proofs.Common.{◌≡◌, ◌==◌, ◌⊎◌, ◌↔◌, ℕ, Bool, true, false, cond, List, [], ◌∷◌, ◌++◌, refl, sym, ap, subst, ◌∙◌, inl, inr}
use Rattle.std.proofs.lemmas.Bool.{cases_eq, eq-eqb, ne_eqb}
use Rattle.std.specs.List.{AllByRecursion}
use Rattle.row_records.specs.amount_math.declared.Kind.{Kind}
use Rattle.row_records.specs.amount_math.declared.Kind.TheVariants as kinds
use Rattle.row_records.specs.fair_rows.Values.{AreOfKinds, HaveKinds, IsValueOf, Named}
use Rattle.row_records.proofs.fair_rows.Lists.{all_both, all_first, all_second}
use Rattle.row_records.specs.turn_rows.Turns.{Value}
use Rattle.told_rights.specs.BrandKinds.{Allows, Suits, seen_at}
use Rattle.told_rights.specs.Rights.{AreOfKind, TellsKinds}
use Rattle.told_rights.specs.declared.brand_kinds.BrandKinds.{BrandKinds}
use Rattle.told_rights.specs.declared.brand_kinds.Seen.{Seen}
use Rattle.told_rights.specs.declared.brand_kinds.Seen.TheVariants.{Any, Bag, Keyed, Nat, Set}

-- a kind that is allowed
abbrev pub pick : Seen → Kind
pick Any = kinds.Nat
pick Keyed = kinds.Set
pick Nat = kinds.Nat
pick Set = kinds.Set
pick Bag = kinds.Bag

pub picked : (s : Seen) → Allows s (pick s)
picked Any = tt
picked Keyed = tt
picked Nat = tt
picked Set = tt
picked Bag = tt

abbrev pub IsOf : ℕ → Kind → Named → Type 0
IsOf b kind a = a.0 ≡ b → IsValueOf kind a.1

pub of_kinds : (kind_of : ℕ → Kind) (amounts : List Named) → ((b : ℕ) → AreOfKind b (kind_of b) amounts) → AreOfKinds kind_of amounts
of_kinds kind_of [] h = tt
of_kinds kind_of (a ∷ more) h = ((h a.0).0 refl, of_kinds kind_of more (λ b. (h b).1))

pub each_kind : (kind_of : ℕ → Kind) (amounts : List Named) → AreOfKinds kind_of amounts → (b : ℕ) → AreOfKind b (kind_of b) amounts
each_kind kind_of [] h b = tt
each_kind kind_of (a ∷ more) h b = (λ (is : a.0 ≡ b). subst (λ x. IsValueOf (kind_of x) a.1) is h.0, each_kind kind_of more h.1 b)

-- what is told has kinds
pub have_kinds : (k : BrandKinds) (amounts : List Named) → TellsKinds k amounts → HaveKinds amounts
have_kinds k amounts t = record { kind_of = λ b. pick (seen_at k b); values = of_kinds (λ b. pick (seen_at k b)) amounts (λ b. t.allowed b (pick (seen_at k b)) (picked (seen_at k b))) }

pub kinds_before : (amounts more : List Named) → HaveKinds (amounts ++ more) → HaveKinds amounts
kinds_before amounts more h = record { kind_of = h.kind_of; values = all_first (λ a. IsValueOf (h.kind_of a.0) a.1) amounts more h.values }

-- ---- one amount more

module _ (k : BrandKinds) (amounts : List Named) (b : ℕ) (v : Value) (t : TellsKinds k amounts) where
  abbrev more : List Named
  more = amounts ++ (b, v) ∷ []

  -- where they have kinds, it suits
  pub suits : HaveKinds more → Suits (seen_at k b) v
  suits h =
      let all = each_kind h.kind_of more h.values b in
      record {
        kind = h.kind_of b;
        allowed = t.only b (h.kind_of b) (all_first (IsOf b (h.kind_of b)) amounts ((b, v) ∷ []) all);
        value = (all_second (IsOf b (h.kind_of b)) amounts ((b, v) ∷ []) all).0 refl;
      }

  -- and where it suits, they have
  pub with_kinds : Suits (seen_at k b) v → HaveKinds more
  with_kinds s = record { kind_of = kind_of; values = of_kinds kind_of more (λ c. of_one c (c == b) refl) }
    where
      kind_of : ℕ → Kind
      kind_of c = cond (c == b) s.kind (pick (seen_at k c))

      of_one : (c : ℕ) (is : Bool) → (c == b) ≡ is → AreOfKind c (cond is s.kind (pick (seen_at k c))) more
      of_one c is e = elim (cases_eq c b) [
        | inl same ↦ subst (λ x. AreOfKind c (cond x s.kind (pick (seen_at k c))) more) (sym (eq-eqb c b same) ∙ e) (all_both (IsOf c s.kind) amounts ((b, v) ∷ []) (t.allowed c s.kind (subst (λ x. Allows (seen_at k x) s.kind) (sym same) s.allowed)) ((λ _. s.value), tt))
        | inr other ↦ subst (λ x. AreOfKind c (cond x s.kind (pick (seen_at k c))) more) (sym (ne_eqb c b other) ∙ e) (all_both (IsOf c (pick (seen_at k c))) amounts ((b, v) ∷ []) (t.allowed c (pick (seen_at k c)) (picked (seen_at k c))) ((λ (is : b ≡ c). absurd (other (sym is))), tt))
      ]

  -- what is kept with it tells them
  pub more_kinds : (l : BrandKinds) → ((c : ℕ) (kind : Kind) → Allows (seen_at l c) kind ↔ (Allows (seen_at k c) kind × (c ≡ b → IsValueOf kind v))) → TellsKinds l more
  more_kinds l h = record {
    allowed = λ c kind a. all_both (IsOf c kind) amounts ((b, v) ∷ []) (t.allowed c kind ((h c kind).0 a).0) ((λ (is : b ≡ c). ((h c kind).0 a).1 (sym is)), tt);
    only = λ c kind all. (h c kind).1 (t.only c kind (all_first (IsOf c kind) amounts ((b, v) ∷ []) all), λ (is : c ≡ b). (all_second (IsOf c kind) amounts ((b, v) ∷ []) all).0 (sym is));
  }

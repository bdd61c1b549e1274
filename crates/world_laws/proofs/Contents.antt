-- Whether content has all of another can be told; so whether an allocation is offer safe is stable.
use Rattle.std.specs.Prelude.{cond, nat_le, unwrap_or}
use Rattle.std.proofs.Common.{◌≡◌, ◌⊎◌, inl, inr, ℕ, ◌≤◌, ◌<◌, Bool, true, false, List, [], ◌∷◌, Some, None, refl, sym, subst, arith}
use Rattle.std.specs.List.{AllByRecursion}
use Rattle.std.specs.Ordering.{is_eq}
use Rattle.std.specs.FinMap.{find}
use Rattle.std.specs.declared.cmp.Ordering.{Ordering}
use Rattle.std.specs.declared.cmp.Ordering.TheVariants.{Equal, Greater, Less}
use Rattle.std.proofs.lemmas.Bool.{leb-false, leb-true}
use Rattle.std.proofs.lemmas.List.Elements.{All-from_recursion, recursion_from_All}
use Rattle.world_state.specs.amount_math.Content.{Contains, Content, count, count_listed, counts, entries, key_cmp, listed}
use Rattle.world_state.specs.proposals.OfferSafety.{AreCovered, IsCovered, IsOfferSafe}
use Rattle.world_state.specs.proposals.declared.allocations.Share.{Share}
use Rattle.world_state.specs.proposals.declared.offers.Proposal.{Proposal}
use Rattle.world_state.specs.lemmas.Stable.{IsStable}
use Rattle.world_state.proofs.lemmas.Parts.{stable_either, stable_or_not}

le_tells : (m n : ℕ) → (m ≤ n) ⊎ (m ≤ n → ⊥)
le_tells m n = by (nat_le m n) refl
  where
    by : (b : Bool) → nat_le m n ≡ b → (m ≤ n) ⊎ (m ≤ n → ⊥)
    by true e = inl (leb-true m n e)
    by false e = inr (λ h. let past : n < m = leb-false m n e in absurd (omega (arith, h, past)))

both_tell : {A B : Type 0} → A ⊎ (A → ⊥) → B ⊎ (B → ⊥) → (A × B) ⊎ (A × B → ⊥)
both_tell (inl a) (inl b) = inl (a, b)
both_tell (inl a) (inr b) = inr (λ h. b h.1)
both_tell (inr a) b = inr (λ h. a h.0)

pub all_tell : {X : Type 0} (P : X → Type 0) → ((x : X) → P x ⊎ (P x → ⊥)) → (xs : List X) → AllByRecursion P xs ⊎ (AllByRecursion P xs → ⊥)
all_tell P tells [] = inl tt
all_tell P tells (x ∷ xs) = both_tell (tells x) (all_tell P tells xs)

-- ---- by the entries of the one that is to be had

module _ (P : List ℕ → Type 0) where
  -- a key has an entry, at which P is, or none
  at_entry : (es : List (List ℕ × ℕ)) (k : List ℕ) → AllByRecursion (λ (e : List ℕ × ℕ). P e.0) es → (find key_cmp k es ≡ None) ⊎ P k
  at_entry [] k all = inl refl
  at_entry (e ∷ es) k all = by (key_cmp k e.0) refl (at_entry es k all.1)
    where
      by : (o : Ordering) → key_cmp k e.0 ≡ o → (find key_cmp k es ≡ None) ⊎ P k → (cond (is_eq o) (Some e.1) (find key_cmp k es) ≡ None) ⊎ P k
      by Equal e_is later = inr (subst P (sym (counts.same k e.0 e_is)) all.0)
      by Less e_is later = later
      by Greater e_is later = later

module _ (a b : Content) where
  abbrev HasOf : List ℕ → Type 0
  HasOf k = listed (entries b) k ≤ count a k

  has_all : AllByRecursion (λ (e : List ℕ × ℕ). HasOf e.0) (entries b) → (k : List ℕ) → count b k ≤ count a k
  has_all all k = subst (λ n. n ≤ count a k) (sym (count_listed b k)) (by (at_entry HasOf (entries b) k all))
    where
      by : (find key_cmp k (entries b) ≡ None) ⊎ HasOf k → HasOf k
      by (inl none) = subst (λ o. unwrap_or o 0 ≤ count a k) (sym none) (omega arith)
      by (inr has) = has

  has_each : (es : List (List ℕ × ℕ)) → Contains a b → AllByRecursion (λ (e : List ℕ × ℕ). HasOf e.0) es
  has_each [] has = tt
  has_each (e ∷ es) has = (subst (λ n. n ≤ count a e.0) (count_listed b e.0) (has.each e.0), has_each es has)

  contains_tells : Contains a b ⊎ (Contains a b → ⊥)
  contains_tells = by (all_tell (λ (e : List ℕ × ℕ). HasOf e.0) (λ e. le_tells (listed (entries b) e.0) (count a e.0)) (entries b))
    where
      by : AllByRecursion (λ (e : List ℕ × ℕ). HasOf e.0) (entries b) ⊎ (AllByRecursion (λ (e : List ℕ × ℕ). HasOf e.0) (entries b) → ⊥) → Contains a b ⊎ (Contains a b → ⊥)
      by (inl all) = inl (record { each = has_all all })
      by (inr past) = inr (λ has. past (has_each (entries b) has))

-- ---- shares

covered_tells : (slots shares : List Share) → AreCovered slots shares ⊎ (AreCovered slots shares → ⊥)
covered_tells slots shares = by (all_tell (IsCovered slots) (λ r. contains_tells _ _) shares)
  where
    by : AllByRecursion (IsCovered slots) shares ⊎ (AllByRecursion (IsCovered slots) shares → ⊥) → AreCovered slots shares ⊎ (AreCovered slots shares → ⊥)
    by (inl all) = inl (All-from_recursion (IsCovered slots) shares all)
    by (inr past) = inr (λ all. past (recursion_from_All (IsCovered slots) shares all))

pub safe_stable : (p : Proposal) (slots : List Share) → IsStable (IsOfferSafe p slots)
safe_stable p slots = stable_either (covered_tells slots p.want) (stable_or_not (covered_tells slots p.give))

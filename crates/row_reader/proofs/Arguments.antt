-- How many arguments there are.
use Rattle.std.proofs.Common.{◌≡◌, ◌≤◌, ◌==◌, ℕ, suc, List, [], ◌∷◌, Bool, true, false, length, refl, sym, ◌∙◌, arith}
use Rattle.std.specs.Bool.{Decides}
use Rattle.std.specs.Cmp.{unsigned_Decides}
use Rattle.std.specs.Str.{IsUtf8, bytes_eq}
use Rattle.std.proofs.lemmas.Slice.Eq.{bytes_eq-Decides}
use Rattle.serde_json.specs.Data.{Data, no_items}
use Rattle.serde_json.specs.View.{items_view, view}
use Rattle.serde_json.specs.declared.value.Value.{Value}
use Rattle.turn_rows.specs.Form.{AreTwoItems, IsAnyData, IsOneItem}

differ : (m n : ℕ) → (m ≡ n → ⊥) → (m == n) ≡ true → ⊥
differ m n isnt h = isnt ((unsigned_Decides m n).0 h)

pub one_item : (vs : List Value) → Decides (length vs == 1) (IsOneItem IsAnyData (items_view vs))
one_item [] = ((λ h. absurd (differ 0 1 (λ e. omega (arith, e)) h)), (λ (p : ⊥). absurd p))
one_item (v ∷ []) = ((λ h. tt), (λ p. refl))
one_item (v ∷ w ∷ vs) =
    ((λ h. absurd (differ (suc (suc (length vs))) 1 (λ e. omega (arith, e)) h)), (λ (p : ⊥). absurd p))

pub none : (vs : List Value) → Decides (length vs == 0) (items_view vs ≡ no_items)
none [] = ((λ h. refl), (λ p. refl))
none (v ∷ vs) = ((λ h. absurd (differ (suc (length vs)) 0 (λ e. omega (arith, e)) h)), (λ (p : items_view (v ∷ vs) ≡ no_items). absurd (cc)))

two_items : (vs : List Value) → Decides (length vs == 2) (AreTwoItems (items_view vs))
two_items [] = ((λ h. absurd (differ 0 2 (λ e. omega (arith, e)) h)), (λ (p : ⊥). absurd p))
two_items (v ∷ []) = ((λ h. absurd (differ 1 2 (λ e. omega (arith, e)) h)), (λ (p : ⊥). absurd p))
two_items (v ∷ w ∷ []) = ((λ h. tt), (λ p. refl))
two_items (v ∷ w ∷ x ∷ vs) =
    ((λ h. absurd (differ (suc (suc (suc (length vs)))) 2 (λ e. omega (arith, e)) h)), (λ (p : ⊥). absurd p))

-- a call of a function of an object that may be any contract's
pub far_call : (on method : List ℕ) (vs : List Value) → bytes_eq on [] ≡ true → IsUtf8 method
    → Decides (length vs == 2) ((on ≡ []) × IsUtf8 method × AreTwoItems (items_view vs))
far_call on method vs nowhere text =
    ((λ h. ((bytes_eq-Decides on []).0 nowhere, text, (two_items vs).0 h)), (λ p. (two_items vs).1 p.2))

pub not_one : (P : Data → Type 0) (vs : List Value) → 2 ≤ length vs → IsOneItem P (items_view vs) → ⊥
not_one P [] many p = p
not_one P (v ∷ []) many p = absurd (omega arith)
not_one P (v ∷ w ∷ vs) many p = p

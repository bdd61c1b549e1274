-- The keys of a content are texts where those of its entries are.
use Rattle.std.proofs.Common.{◌≡◌, ◌≢◌, ℕ, List, [], ◌∷◌, All, Some, cond, true, false, refl, ap, sym, subst, ◌∙◌}
use Rattle.std.proofs.lemmas.List.Elements.{recursion_from_All}
use Rattle.std.proofs.lemmas.Str.{IsUtf8-nil}
use Rattle.std.specs.FinMap.{find}
use Rattle.std.specs.List.{AllByRecursion}
use Rattle.std.specs.Option.{unwrap_or}
use Rattle.std.specs.Ordering.{eq_by_cmp}
use Rattle.std.specs.Str.{IsUtf8}
use Rattle.turn_rows.proofs.amount_math.Listed.{same_key}
use Rattle.turn_rows.specs.amount_math.Content.{Content, count, count-of_nat, count_listed, entries, key_cmp, listed, of_nat, unit}
use Rattle.turn_rows.specs.amount_math.ValueView.{IsNat}
use Rattle.turn_records.specs.Values.{HasTexts}

listed_text : (es : List (List ℕ × ℕ)) (k : List ℕ) → AllByRecursion (λ e. IsUtf8 e.0) es → listed es k ≢ 0 → IsUtf8 k
listed_text [] k h some = absurd (some refl)
listed_text (e ∷ es) k h some =
    elim (eq_by_cmp key_cmp k e.0) as (λ b. eq_by_cmp key_cmp k e.0 ≡ b → unwrap_or (cond b (Some e.1) (find key_cmp k es)) 0 ≢ 0 → IsUtf8 k) [
      | true ↦ λ p more. subst IsUtf8 (sym (same_key k e.0 p)) h.0
      | false ↦ λ p more. listed_text es k h.1 more
    ] refl some

pub texts : (c : Content) → All (λ e. IsUtf8 e.0) (entries c) → HasTexts c
texts c h = record { each = λ k some. listed_text (entries c) k (recursion_from_All (λ e. IsUtf8 e.0) (entries c) h) (λ z. some (count_listed c k ∙ z)) }

unit_text : (n : ℕ) (k : List ℕ) → count (of_nat n) k ≢ 0 → IsUtf8 k
unit_text n k some =
    elim (eq_by_cmp key_cmp k unit) as (λ b. eq_by_cmp key_cmp k unit ≡ b → cond b n 0 ≢ 0 → IsUtf8 k) [
      | true ↦ λ p more. subst IsUtf8 (sym (same_key k unit p)) IsUtf8-nil
      | false ↦ λ p more. absurd (more refl)
    ] refl (λ z. some (count-of_nat n k ∙ z))

-- a number has one key, the empty text
pub nat_texts : (c : Content) → IsNat c → HasTexts c
nat_texts c is = record { each = λ k some. unit_text (count c unit) k (λ z. some (ap (λ d. count d k) is.only_units ∙ z)) }

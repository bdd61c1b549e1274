use Rattle.std.proofs.Common.{◌≡◌, ◌↔◌, ℕ, Bool, List, IsTrue, sym, ap, ◌∙◌}
use Rattle.std.specs.Ordering.{is_eq}
use Rattle.refusals.specs.amount_math.Content.{key_cmp}
use Rattle.refusals.proofs.amount_math.Listed.{same_key, tied}
use Rattle.rearrange.proofs.differences.is_alike.Goals as goal

alike : (e f : List ℕ × ℕ) (is : Bool) → e.1 ≡ f.1 → is ≡ is_eq (key_cmp e.0 f.0) → IsTrue is ↔ (e ≡ f)
alike (k, m) (l, n) is counts keys = (
  λ same. let key : k ≡ l = same_key k l (sym keys ∙ same) in cc,
  λ same. keys ∙ ap (λ (e : List ℕ × ℕ). is_eq (key_cmp k e.0)) (sym same) ∙ tied k,
)

pub returns-then-count : goal.returns-then-count
returns-then-count c =
    let counts = sym c.count.ensures ∙ c.if-count.true ∙ c.count-2.ensures in
    let keys = c.compare.ensures ∙ ap (λ (k : List ℕ). key_cmp k c.key-then-count.result.now) c.key.ensures ∙ ap (key_cmp c.args.entry.now.0) c.key-then-count.ensures in
    alike c.args.entry.now c.args.other.now c.is_eq.result counts (c.is_eq.ensures ∙ ap is_eq keys)

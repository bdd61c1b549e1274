use Rattle.std.proofs.Common.{◌≡◌, ◌<◌, ℕ, List, sym, ap, subst, ◌∙◌}
use Rattle.serde_json.specs.Data as json
use Rattle.serde_json.specs.View.{items_view, view}
use Rattle.row_records.specs.Views.{value_view}
use Rattle.turn_rows.specs.Editions.{nat_end}
use Rattle.turn_rows.specs.Form.{AreElements, HasValueForm}
use Rattle.turn_rows.specs.Rows.{elements_json, number_json, value_json}
use Rattle.turn_rows.specs.Turns.{Element}
use Rattle.row_reader.proofs.Faults.{passes}
use Rattle.row_reader.proofs.ValueParts.{array_is, no_elements, no_number}
use Rattle.row_reader.proofs.amounts.value_of.Goals as goal

pub returns-in_err-elements-in-Some : goal.returns-in_err-elements-in-Some
returns-in_err-elements-in-Some c =
    passes value_json (HasValueForm c.args.edition) value_view (view c.args.value.now) c.from_residual.result c.in_err-elements-in-Some.field-0.0
    ((es : List Element) → AreElements es → elements_json es ≡ items_view c.as_slice.result.now → ⊥) c.from_residual.ensures.1 c.in_err-elements-in-Some.ensures
    (λ none v form same. no_elements c.args.edition v (view c.args.value.now) (items_view c.in-Some.items.now.items) c.in-Some.ensures (rw c.as_slice.ensures.value at none) form same)

pub returns-in_ok-elements-in-Some : goal.returns-in_ok-elements-in-Some
returns-in_ok-elements-in-Some c =
    (ap json.array (c.in_ok-elements-in-Some.ensures.0 ∙ ap items_view c.as_slice.ensures.value) ∙ sym (array_is (view c.args.value.now) (items_view c.in-Some.items.now.items) c.in-Some.ensures), c.in_ok-elements-in-Some.ensures.1)

pub returns-in_err-number-in-None : goal.returns-in_err-number-in-None
returns-in_err-number-in-None c =
    passes value_json (HasValueForm c.args.edition) value_view (view c.args.value.now) c.from_residual-in_err-number-in-None.result c.in_err-number-in-None.field-0.0
    ((n : ℕ) → n < c.nat_end.result → number_json n ≡ view c.args.value.now → ⊥) c.from_residual-in_err-number-in-None.ensures.1 c.in_err-number-in-None.ensures
    (λ none v form same. no_number c.args.edition v (view c.args.value.now) c.in-None.ensures (rw c.nat_end.ensures at none) form same)

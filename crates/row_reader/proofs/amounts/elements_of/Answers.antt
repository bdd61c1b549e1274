use Rattle.std.proofs.Common.{◌≡◌, ℕ, List, length, map, sym, subst, ◌∙◌, arith}
use Rattle.std.specs.List.{AllByRecursion}
use Rattle.serde_json.specs.View.{items_view, view}
use Rattle.row_records.specs.Views.{element_view}
use Rattle.turn_rows.specs.Form.{AreElements, HasElementForm}
use Rattle.turn_rows.specs.Rows.{elements_json}
use Rattle.turn_rows.specs.Turns.{Element}
use Rattle.row_reader.specs.Amounts.{AreInOrder, elements_list}
use Rattle.row_reader.proofs.ElementLists.{as_items, as_list, as_many, elements_same, in_order, one_kind, rising}
use Rattle.row_reader.proofs.Faults.{passes}
use Rattle.row_reader.proofs.amounts.elements_of.Goals as goal

pub returns-then-items-gt-MOST_KEYS : goal.returns-then-items-gt-MOST_KEYS
returns-then-items-gt-MOST_KEYS c = λ es form same.
    let many : length es ≡ length c.args.items.now = as_many es c.args.items.now (as_list es c.args.items.now same) in
    absurd (omega (arith, form.few, many, c.if-items-gt-MOST_KEYS.true))

pub returns-in_err-elements : goal.returns-in_err-elements
returns-in_err-elements c =
    passes elements_json AreElements (λ es. map element_view es.items) (items_view c.args.items.now) c.from_residual.result c.in_err-elements.field-0.0
    ((xs : List Element) → AllByRecursion HasElementForm xs → elements_list xs ≡ map view c.args.items.now → ⊥) c.from_residual.ensures.1 c.in_err-elements.ensures
    (λ none es form same. none es form.each (as_list es c.args.items.now same))

pub returns-then-are_in_order : goal.returns-then-are_in_order
returns-then-are_in_order c =
    let es = map element_view c.in_ok-elements.elements.items in
    let ordered : AreInOrder es = (rw c.as_slice.ensures.value at c.are_in_order.ensures).0 c.if-are_in_order.true in
    let many : length es ≡ length c.args.items.now = as_many es c.args.items.now c.in_ok-elements.ensures.0 in (
      as_items es c.args.items.now c.in_ok-elements.ensures.0,
      record { each = c.in_ok-elements.ensures.1; of_one_kind = one_kind es ordered; rising = rising es ordered; few = omega (arith, many, c.if-items-gt-MOST_KEYS.false) },
    )

pub returns-else-are_in_order : goal.returns-else-are_in_order
returns-else-are_in_order c = λ xs form same.
    let es = map element_view c.in_ok-elements.elements.items in
    let one : xs ≡ es = elements_same xs es form.each c.in_ok-elements.ensures.1 (same ∙ sym (as_items es c.args.items.now c.in_ok-elements.ensures.0)) in
    let yes = (rw c.as_slice.ensures.value at c.are_in_order.ensures).1 (subst AreInOrder one (in_order xs form)) in
    absurd (cc (yes, c.if-are_in_order.false))

use Rattle.std.proofs.Common.{◌≡◌, map}
use Rattle.std.proofs.lemmas.List.{take_all}
use Rattle.std.specs.List.{AllByRecursion}
use Rattle.serde_json.specs.View.{view}
use Rattle.row_records.specs.Views.{element_view}
use Rattle.turn_rows.specs.Form.{HasElementForm}
use Rattle.turn_rows.specs.Rows.{element_json}
use Rattle.turn_rows.specs.Turns.{Element}
use Rattle.row_reader.specs.Amounts.{elements_list}
use Rattle.row_reader.proofs.ElementLists.{all_grown, grown, stops}
use Rattle.row_reader.proofs.Faults.{passes}
use Rattle.row_reader.proofs.amounts.elements_in.Goals as goal

pub returns-in_err-element : goal.returns-in_err-element
returns-in_err-element c =
    passes elements_list (AllByRecursion HasElementForm) (λ es. map element_view es.items) (map view c.args.items.now) c.from_residual.result c.in_err-element.field-0.0
    ((x : Element) → HasElementForm x → element_json x ≡ view c.item-item.result → ⊥) c.from_residual.ensures.1 c.in_err-element.ensures
    (λ none xs form same. stops xs c.args.items.now c.loop-item.item-index c.item-item.result c.loop-item-test.true c.item-item.is none form same)

pub loop-item-preserved : goal.loop-item-preserved
loop-item-preserved c =
    rw c.in_ok-push.ensures (
      grown c.loop-item.elements.items c.in_ok-element.element c.args.items.now c.loop-item.item-index c.item-item.result c.loop-item-test.true c.item-item.is c.loop-item.invariant.0 c.in_ok-element.ensures.0,
      all_grown c.loop-item.elements.items c.in_ok-element.element c.loop-item.invariant.1 c.in_ok-element.ensures.1,
    )

pub returns : goal.returns
returns c = (rw (take_all _ _ c.loop-item-test.false) at c.loop-item.invariant.0, c.loop-item.invariant.1)

use Rattle.std.proofs.Common.{◌≡◌, IfOk, [], ◌∷◌, refl}
use Rattle.std.specs.Prelude.{codes}
use Rattle.serde_json.specs.Data.{array, string}
use Rattle.serde_json.specs.View.{view}
use Rattle.turn_records.specs.PrintedData.{printed_items}
use Rattle.turn_records.specs.host_data.View.{items_of, trees}
use Rattle.turn_rows.specs.Kinds.{how_word}
use Rattle.turn_rows.specs.Rows.{answer_json}
use Rattle.turn_records.specs.Printed.{called_on, printed_answer}
use Rattle.turn_records.specs.Views.{answer_view, how_view}
use Rattle.turn_writer.proofs.event_rows.call_value.Goals as goal

pub returns : goal.returns
returns c =
    let call = c.args.call.now in
    let fields = (codes "row", string (codes "call")) ∷ (codes "on", string (called_on call.on)) ∷ (codes "how", string (how_word (how_view call.how))) ∷ (codes "do", string call.method)
    ∷ (codes "args", array (printed_items (items_of (trees call.arguments.items)))) ∷ (codes "answer", answer_json (printed_answer (answer_view call.answer))) ∷ [] in
    let given : IfOk c.items_value.result (λ v. view v ≡ array (printed_items (items_of (trees call.arguments.items)))) = rw c.as_slice.ensures.value at c.items_value.ensures in
    let answered = c.value-2.ensures _ _ (c.value.ensures _ _ c.new.ensures c.answer_value.ensures) given in
    let how = c.text-2.ensures _ _ (c.text.ensures _ _ answered c.as_str.ensures) c.how_word.ensures in
    c.finish.ensures fields (c.text-3.ensures _ _ (c.string.ensures _ _ how c.called_text.ensures) refl)

use Rattle.std.proofs.Common.{[], ◌∷◌, refl}
use Rattle.std.specs.Prelude.{codes}
use Rattle.serde_json.specs.Data.{array, number, string, unsigned}
use Rattle.turn_rows.specs.Kinds.{kind_word}
use Rattle.turn_rows.specs.Rows.{answer_json}
use Rattle.turn_records.specs.Printed.{by_of, kind_of, method_of, on_of, printed_answer, printed_trees, trees_of}
use Rattle.turn_records.specs.Views.{answer_view, delivery_view, reading_view}
use Rattle.turn_writer.proofs.turn_row.turn_value.Goals as goal

pub returns : goal.returns
returns c =
    let turn = c.args.turn.now in
    let d = delivery_view turn.delivery in
    let r = reading_view turn.reading in
    let fields = (codes "row", string (codes "turn")) ∷ (codes "on", string (on_of d r)) ∷ (codes "n", number (unsigned turn.number))
    ∷ (codes "kind", string (kind_word (kind_of d r))) ∷ (codes "do", string (method_of d)) ∷ (codes "by", string (by_of d))
    ∷ (codes "args", array (printed_trees (trees_of d r))) ∷ (codes "answer", answer_json (printed_answer (answer_view turn.answer))) ∷ [] in
    let answered = c.value-2.ensures _ _ (c.value.ensures _ _ c.new.ensures c.answer_value.ensures) c.arguments_value.ensures in
    let called = c.text-2.ensures _ _ (c.text.ensures _ _ (c.string.ensures _ _ answered c.by_text.ensures) c.method_text.ensures) c.kind_word.ensures in
    c.finish.ensures fields (c.text-3.ensures _ _ (c.string-2.ensures _ _ (c.number.ensures _ called) c.on_text.ensures) refl)

use Rattle.std.proofs.Common.{[], ◌∷◌, refl}
use Rattle.std.specs.Prelude.{codes}
use Rattle.serde_json.specs.Data.{number, string, unsigned}
use Rattle.turn_records.specs.promise_store.States.{settlement_view}
use Rattle.turn_rows.specs.Rows.{settlement_json}
use Rattle.turn_records.specs.Printed.{printed_settlement}
use Rattle.turn_writer.proofs.event_rows.settle_value.Goals as goal

pub returns : goal.returns
returns c =
    let fields = (codes "to", settlement_json (printed_settlement (settlement_view c.args.settlement.now))) ∷ (codes "row", string (codes "settle")) ∷ (codes "promise", number (unsigned c.args.promise)) ∷ [] in
    c.finish.ensures fields (c.value.ensures _ _ (c.text.ensures _ _ (c.number.ensures _ c.new.ensures) refl) c.settlement_value.ensures)

use Rattle.std.proofs.Common.{[], ◌∷◌}
use Rattle.std.specs.Prelude.{codes}
use Rattle.serde_json.specs.Data.{string}
use Rattle.turn_records.specs.Values.{printed_value}
use Rattle.turn_rows.specs.Rows.{brand_name, only, value_json}
use Rattle.turn_writer.proofs.event_rows.amount_value.Goals as goal

pub returns : goal.returns
returns c =
    let amount = c.args.amount.now in
    let fields = (codes "value", value_json (printed_value amount.value)) ∷ (codes "brand", only (codes "@") (string (brand_name amount.brand))) ∷ [] in
    c.finish.ensures fields (c.value-2.ensures _ _ (c.value.ensures _ _ c.new.ensures c.brand_value.ensures) c.held_value.ensures)

use Rattle.std.proofs.Common.{[], ◌∷◌, refl}
use Rattle.std.specs.Prelude.{codes}
use Rattle.serde_json.specs.Data.{string}
use Rattle.turn_records.specs.Values.{printed_value}
use Rattle.turn_rows.specs.Rows.{brand_name, holder_name, value_json}
use Rattle.turn_writer.proofs.event_rows.move_value.Goals as goal

pub returns : goal.returns
returns c =
    let m = c.args.movement.now in
    let fields = (codes "value", value_json (printed_value m.value)) ∷ (codes "to", string (holder_name m.to)) ∷ (codes "row", string (codes "move"))
    ∷ (codes "from", string (holder_name m.from)) ∷ (codes "brand", string (brand_name m.brand)) ∷ [] in
    let from = c.string-2.ensures _ _ (c.string.ensures _ _ c.new.ensures c.brand_text.ensures) c.holder_text.ensures in
    c.finish.ensures fields (c.value.ensures _ _ (c.string-3.ensures _ _ (c.text.ensures _ _ from refl) c.holder_text-2.ensures) c.held_value.ensures)

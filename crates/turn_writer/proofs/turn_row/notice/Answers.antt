use Rattle.std.proofs.Common.{◌≡◌, [], ◌∷◌, rules}
use Rattle.std.specs.Prelude.{codes}
use Rattle.serde_json.specs.Data.{boolean}
use Rattle.serde_json.specs.View.{view}
use Rattle.serde_json.specs.declared.value.Value as V
use Rattle.turn_records.specs.PrintedData.{printed}
use Rattle.turn_records.specs.host_data.View.{tree}
use Rattle.turn_records.specs.Printed.{told_value}
use Rattle.turn_writer.proofs.turn_row.notice.Goals as goal

pub returns : goal.returns
returns c =
    let fields = (codes "value", printed (told_value (tree c.args.value.now))) ∷ (codes "ok", boolean c.args.is_ok) ∷ [] in
    let seen : view (V.Bool c.args.is_ok) ≡ boolean c.args.is_ok = search (rules, V.the_lemmas) in
    c.finish.ensures fields (c.value-2.ensures _ _ (c.value.ensures _ _ c.new.ensures seen) c.told_value.ensures)

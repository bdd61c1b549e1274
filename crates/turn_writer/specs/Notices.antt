-- What a function is notified of, as JSON.
use Rattle.std.specs.Prelude.{Bool, codes}
use Rattle.serde_json.specs.Data as json
use Rattle.turn_records.specs.PrintedData.{printed}
use Rattle.turn_records.specs.host_data.Tree.{Tree}
use Rattle.turn_records.specs.Printed.{told_value}

-- `{"ok":b,"value":d}`
abbrev pub notice_json : Bool → Tree → json.Data
notice_json b t =
    json.object (json.member (codes "ok") (json.boolean b)
    (json.member (codes "value") (printed (told_value t)) json.no_members))

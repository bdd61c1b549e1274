-- What a journal prints of the parts of a turn: as JSON, and as the texts of rows.
use Rattle.std.specs.Prelude.{ℕ, List, [], ◌∷◌, map, codes, decimal}
use Rattle.std.specs.List.{flat_map}
use Rattle.serde_json.specs.Data.{Data, array, string}
use Rattle.turn_records.specs.host_data.Tree.{Tree}
use Rattle.turn_records.specs.promise_store.States.{SettlementView}
use Rattle.turn_rows.specs.rights_model.declared.Sum.{Sum}
use Rattle.turn_rows.specs.Kinds.{kind_word}
use Rattle.turn_rows.specs.Rows.{brand_name, event_row, settle_row, settlement_json, sum_row}
use Rattle.turn_rows.specs.Texts.{row_text}
use Rattle.turn_records.specs.Deliveries.{Delivery, Reading}
use Rattle.turn_records.specs.Events.{Event}
use Rattle.turn_records.specs.Printed.{kind_of, printed_event, printed_settlement, printed_trees, trees_of}
use Rattle.turn_rows.specs.declared.editions.Edition.{Edition}
use Rattle.turn_writer.specs.JsonRows.{Field}

-- ---- JSON

abbrev pub kind_text : Delivery → Reading → List ℕ
kind_text d r = kind_word (kind_of d r)

-- data in a row
abbrev pub trees_json : List Tree → Data
trees_json ts = array (printed_trees ts)

abbrev pub args_json : Delivery → Reading → Data
args_json d r = trees_json (trees_of d r)

-- what a promise was settled with
abbrev pub settled_json : SettlementView → Data
settled_json s = settlement_json (printed_settlement s)

abbrev pub settled_row : ℕ → SettlementView → Data
settled_row promise s = settle_row promise (printed_settlement s)

-- what sum rows of all editions have, the last field in front
abbrev pub sum_fields : Sum → List Field
sum_fields s =
    (codes "slots", string (decimal s.slots)) ∷ (codes "row", string (codes "sum")) ∷ (codes "purses", string (decimal s.purses))
    ∷ (codes "payments", string (decimal s.payments)) ∷ (codes "minted", string (decimal s.minted)) ∷ (codes "burned", string (decimal s.burned))
    ∷ (codes "brand", string (brand_name s.brand)) ∷ []

-- ---- texts

abbrev pub event_text : Event → List ℕ
event_text e = row_text (event_row (printed_event e))

abbrev pub events_text : List Event → List ℕ
events_text es = flat_map row_text (map event_row (map printed_event es))

abbrev pub sums_text : Edition → List Sum → List ℕ
sums_text e sums = flat_map row_text (map (sum_row e) sums)

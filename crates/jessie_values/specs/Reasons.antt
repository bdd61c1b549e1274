-- Bad steps as the data that is thrown: a code, and the word of the reason that it shows.
use Rattle.std.specs.Prelude.{ℕ, List, codes}
use Rattle.host_data.specs.Tree.{Tree, text, array, fields, item, no_items, field, no_fields}
use Rattle.jessie_values.specs.declared.reasons.Reason.{Reason}
use Rattle.jessie_values.specs.declared.reasons.Reason.TheVariants.{WrongKind, OutOfRange, DivisionByZero, NoField, TooDeep, TooLarge}

abbrev pub reason_text : Reason → List ℕ
reason_text WrongKind = codes "type"
reason_text OutOfRange = codes "range"
reason_text DivisionByZero = codes "zero"
reason_text NoField = codes "field"
reason_text TooDeep = codes "depth"
reason_text TooLarge = codes "size"

-- `{code, shown}`
abbrev pub bad_step : Reason → Tree
bad_step r = fields (field (codes "code") (text (codes "BadStep")) (field (codes "shown") (array (item (text (reason_text r)) no_items)) no_fields))

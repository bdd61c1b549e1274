-- What the code's tables of fields, and its lines, mean.
use Rattle.std.specs.Prelude.{List, map, Option, Bool}
use Rattle.serde_json.specs.Data.{Data}
use Rattle.turn_records.specs.Views.{delivery_view}
use Rattle.message_lines.specs.Meanings.{Form, FormField, has_count, has_path, has_time, is_string}
use Rattle.message_lines.specs.Meanings.{needed, optional, Meaning, blank, delivered, run}
use Rattle.message_lines.specs.declared.messages.FieldType.{FieldType}
use Rattle.message_lines.specs.declared.messages.FieldType.TheVariants as type
use Rattle.message_lines.specs.declared.messages.FormField as table
use Rattle.message_lines.specs.declared.messages.Line.{Line}
use Rattle.message_lines.specs.declared.messages.Line.TheVariants as line

-- whether a field is well typed was found before where it says so
abbrev pub passes_as : FieldType → Option Data → Bool
passes_as type.Text = needed is_string
passes_as type.OptionalText = optional is_string
passes_as type.Path = needed has_path
passes_as type.Count = needed has_count
passes_as type.Time = needed has_time
passes_as (type.Found passes) = λ _. passes

abbrev pub field_view : table.FormField → FormField
field_view f = record { name = f.name.now; passes = passes_as f.of }

abbrev pub form_view : List table.FormField → Form
form_view fs = map field_view fs

abbrev pub line_view : Line → Meaning
line_view line.Blank = blank
line_view (line.Delivered d) = delivered (delivery_view d)
line_view (line.Run n) = run n

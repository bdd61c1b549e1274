-- What named parts of the code stand for.
use Rattle.std.specs.Prelude.{ℕ, List, map}
use Rattle.turn_records.specs.Views.{part_view}
use Rattle.turn_records.specs.declared.messages.Part as code
use Rattle.turn_records.specs.Messages.{Part}

abbrev pub named_views : List (List ℕ × code.Part) → List (List ℕ × Part)
named_views fs = map (λ f. (f.0, part_view f.1)) fs

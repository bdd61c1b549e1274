-- The one member of an object.
use Rattle.std.specs.Prelude.{ℕ, List, Option, Some, None}
use Rattle.serde_json.specs.Data.{Data, Members, no_members, member}
use Rattle.serde_json.specs.Data as json

-- its name and its value, where there is one alone
abbrev pub only_of : Members → Option (List ℕ × Data)
only_of no_members = None
only_of (member k d no_members) = Some (k, d)
only_of (member k d (member l e ms)) = None

abbrev pub only_in : Data → Option (List ℕ × Data)
only_in (json.object ms) = only_of ms
only_in _ = None

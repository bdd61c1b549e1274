-- What is kept of facets, and what it tells of the list of those that Far calls answered.
use Rattle.std.specs.Prelude.{◌≡◌, ◌<◌, ◌==◌, ℕ, Bool, true, false, List, [], ◌∷◌, Option, Some, None, if◌then◌else◌, codes}
use Rattle.std.specs.BTreeMap.{get}
use Rattle.std.specs.List.{list_any}
use Rattle.std.specs.Option.{option_and_then, option_map}
use Rattle.std.specs.Ordering.{nat_cmp}
use Rattle.std.specs.Str.{bytes_eq}
use Rattle.row_records.specs.fair_rows.ExitCauses.{Owners, either, facets_at, name}
use Rattle.serde_json.specs.Data as json
use Rattle.serde_json.specs.Find.{as_str, get as get_data}
use Rattle.row_records.specs.turn_rows.Form.{objects_end}
use Rattle.row_records.specs.turn_rows.Kinds as kinds
use Rattle.row_records.specs.turn_rows.Kinds.{Kind}
use Rattle.row_records.specs.turn_rows.Rows.{instance_name}
use Rattle.row_records.specs.turn_rows.Turns.{Answer, ok, Call, called}
use Rattle.told_causes.specs.declared.facets.Facets.{Facets}

-- whether it is that number
abbrev pub is_number : Option ℕ → ℕ → Bool
is_number (Some found) n = found == n
is_number None n = false

-- the name of an instance, where there is one
abbrev pub owner_name : Option ℕ → Option (List ℕ)
owner_name owner = option_map instance_name owner

-- what stands first for a facet: the instance of a turn, if that had one
abbrev pub first_owner : List ℕ → Owners → Option (Option (List ℕ))
first_owner facet [] = None
first_owner facet (o ∷ os) = if bytes_eq facet o.0 then Some o.1 else first_owner facet os

abbrev pub facet_name : ℕ → List ℕ
facet_name n = name (codes "facet") n

-- each facet has the instance that stands first for it, and no other is kept
abbrev pub TellsOwners : Facets → Owners → Type 0
TellsOwners k os = (n : ℕ) → n < objects_end → option_map owner_name (get nat_cmp k.owners n) ≡ first_owner (facet_name n) os

-- the facet whose name a Far call answered, as far as facets are told
abbrev pub IsFacetOf : Call → Option ℕ → Type 0
IsFacetOf c found = (n : ℕ) → n < objects_end → list_any (bytes_eq (facet_name n)) (facets_at (called c)) ≡ is_number found n

-- the data that was answered
abbrev pub data_answered : Answer → Option json.Data
data_answered (ok d) = Some d
data_answered _ = None

-- the text that marks it as an object
abbrev pub object_in : Answer → Option (List ℕ)
object_in a = option_and_then as_str (option_and_then (get_data (codes "@")) (data_answered a))

-- the facet has the owner, where it had none
abbrev pub IsAdded : Facets → Facets → ℕ → Option ℕ → Type 0
IsAdded old new facet owner = (n : ℕ) → get nat_cmp new.owners n ≡ either (get nat_cmp old.owners n) (if facet == n then Some owner else None)

-- the kinds of turns that run a function of the instance in `by`
abbrev pub by_instance : Kind → Bool
by_instance kinds.start = true
by_instance kinds.handler = true
by_instance kinds.wake = true
by_instance kinds.notify = true
by_instance _ = false

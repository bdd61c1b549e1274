-- What contracts see of all parties: the labels that were bound at the turn's start, and those of now.
use Rattle.std.specs.Prelude.{ℕ, List, [], ◌∷◌, ◌++◌, Option, map, take}
use Rattle.promise_store.specs.host_data.Tree.{Tree}
use Rattle.actors.specs.Labels.{Bound, binding, bound, bound_to}
use Rattle.actors.specs.declared.Parties.{Parties}

pub record PartiesState : Type 0 where
  pub start : List Bound
  pub now : List Bound

-- the first k were there at the start
abbrev pub seen : ℕ → List Bound → PartiesState
seen k now = record { start = take k now; now = now }

abbrev pub parties_of : Parties → PartiesState
parties_of p = seen p.kept (map binding p.labels.entries)

-- what a party has now under a label
abbrev pub under : Parties → List ℕ → List ℕ → Option Tree
under p party label = bound_to (parties_of p).now party label

-- a label more is bound
abbrev pub with_bound : List ℕ → List ℕ → Tree → Parties → PartiesState
with_bound party label value p = record (parties_of p) { now = (parties_of p).now ++ bound party label value ∷ [] }

-- nothing is bound
abbrev pub untouched : PartiesState
untouched = record { start = []; now = [] }

-- how it was is forgotten, and how it is
abbrev pub kept_at : PartiesState → PartiesState
kept_at p = record { start = p.now; now = p.now }

abbrev pub back_at : PartiesState → PartiesState
back_at p = record { start = p.start; now = p.start }

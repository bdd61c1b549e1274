-- What contracts see of installations and instances: those at the turn's start, and those of now.
use Rattle.std.specs.Prelude.{ℕ, List, [], length, map, take}
use Rattle.jessie_index.specs.jessie_grammar.declared.syntax.Module.{Module}
use Rattle.actors.specs.Tables.{InstanceView, Tables, instance_at, module_at}
use Rattle.actors.specs.Changes.{ChangesView, changes_at_start, changes_now, tables_seen}
use Rattle.actors.specs.declared.instance_store.instance.Instance.{Instance}
use Rattle.actors.specs.declared.instance_store.Instances.{Instances}

pub record InstancesState : Type 0 where
  pub start : Tables
  pub now : Tables

-- The first j installations and the first k instances were there at the start, with what had changed of
-- them then.
abbrev pub seen : ℕ → ℕ → List Module → ChangesView → ChangesView → List Instance → InstancesState
seen j k modules begun now is = record { start = tables_seen (take j modules) begun (take k is); now = tables_seen modules now is }

abbrev pub instances_of : Instances → InstancesState
instances_of i =
    seen i.kept_installations i.kept_instances (map (λ m. m.value) i.installations.items) (changes_at_start i.changes) (changes_now i.changes) i.instances.items

-- those of now
abbrev pub now_of : Instances → Tables
now_of i = (instances_of i).now

abbrev pub installations_made : Instances → ℕ
installations_made i = length (now_of i).installations

abbrev pub instances_made : Instances → ℕ
instances_made i = length (now_of i).instances

-- the module of an installation, and an instance
abbrev pub the_module : Instances → ℕ → Module
the_module i n = module_at (now_of i).installations n

abbrev pub the_instance : Instances → ℕ → InstanceView
the_instance i n = instance_at (now_of i).instances n

-- those of now changed, and those at the turn's start as they were
abbrev pub with_now : (Tables → Tables) → Instances → InstancesState
with_now change i = record (instances_of i) { now = change (now_of i) }

-- there are none
abbrev pub no_tables : Tables
no_tables = record { installations = []; instances = [] }

abbrev pub untouched : InstancesState
untouched = record { start = no_tables; now = no_tables }

-- how it was is forgotten, and how it is
abbrev pub kept_at : InstancesState → InstancesState
kept_at i = record { start = i.now; now = i.now }

abbrev pub back_at : InstancesState → InstancesState
back_at i = record { start = i.start; now = i.start }

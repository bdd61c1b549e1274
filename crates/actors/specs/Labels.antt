-- What each party has under its labels.
use Rattle.std.specs.Prelude.{ℕ, Bool, ◌&&◌, List, [], ◌∷◌, Option, Some, None, if◌then◌else◌, codes}
use Rattle.std.specs.List.{list_all}
use Rattle.std.specs.Map.{lookup}
use Rattle.std.specs.Option.{option_map_or}
use Rattle.std.specs.Str.{bytes_eq}
use Rattle.brands.specs.host_text.Words.{is_label}
use Rattle.promise_store.specs.host_data.Tree.{Tree, object}
use Rattle.promise_store.specs.host_data.View.{tree}
use Rattle.promise_store.specs.host_data.declared.data.Data.{Data}
use Rattle.promise_store.specs.host_data.declared.data.Obj.{Obj}
use Rattle.promise_store.specs.host_data.declared.data.ObjKind.{ObjKind}
use Rattle.promise_store.specs.host_data.declared.data.ObjKind.TheVariants.{Ertp, Zoe, Timer}
use Rattle.actors.specs.declared.name.Name.{Name}

-- a label of a party, and what it was bound to
pub record Bound : Type 0 where
  pub party : List ℕ
  pub label : List ℕ
  pub value : Tree

abbrev pub bound : List ℕ → List ℕ → Tree → Bound
bound party label value = record { party = party; label = label; value = value }

-- what an entry of the map stands for
abbrev pub binding : Name × Data → Bound
binding e = bound e.0.party.bytes e.0.label.bytes (tree e.1)

abbrev pub is_of : List ℕ → List ℕ → Bound → Bool
is_of party label b = bytes_eq party b.party && bytes_eq label b.label

-- what was bound for the party under the label
abbrev pub label_in : List ℕ → List ℕ → List Bound → Option Tree
label_in party label [] = None
label_in party label (b ∷ bs) = if is_of party label b then Some b.value else label_in party label bs

abbrev pub service : ObjKind → Obj
service kind = record { kind = kind; number = 0 }

-- what each party has from the start
abbrev pub services : List (List ℕ × Obj)
services = (codes "ertp", service Ertp) ∷ (codes "zoe", service Zoe) ∷ (codes "timer", service Timer) ∷ []

abbrev pub service_of : List ℕ → Option Obj
service_of label = lookup (bytes_eq label) services

-- what a party has under a label: an object that each has from the start, or what was bound
abbrev pub bound_to : List Bound → List ℕ → List ℕ → Option Tree
bound_to bs party label = option_map_or (λ o. Some (object o)) (service_of label) (label_in party label bs)

-- each has the form of a label, and its party too
abbrev pub are_labels : List Bound → Bool
are_labels bs = list_all (λ b. is_label b.party && is_label b.label) bs

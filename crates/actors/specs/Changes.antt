-- What has changed of instances since each was started, and what they are with that.
use Rattle.std.specs.Prelude.{◌≡◌, ℕ, ◌+◌, ◌≤◌, List, [], ◌∷◌, option_map, is_some, false, Vec}
use Rattle.std.specs.Global.{Global}
use Rattle.std.specs.Option.{option_map_or}
use Rattle.std.specs.Ordering.{nat_cmp}
use Rattle.turn_stores.specs.UndoTurns.{value_at}
use Rattle.promise_store.specs.host_data.View.{tree, trees}
use Rattle.promise_store.specs.host_data.declared.data.Data.{Data}
use Rattle.brands.specs.declared.issuer_record.Issuer.{Issuer}
use Rattle.jessie_index.specs.jessie_grammar.declared.syntax.Module.{Module}
use Rattle.actors.specs.Tables.{InstanceView, Tables}
use Rattle.actors.specs.declared.instance_store.changes.Changes.{Changes}
use Rattle.actors.specs.declared.instance_store.instance.Instance.{Instance}
use Rattle.actors.specs.declared.instance_store.instance.Standing.{Standing}
use Rattle.actors.specs.declared.instance_store.instance.Standing.TheVariants.{Accepting}

-- what has changed, by the instances' numbers
pub record ChangesView : Type 0 where
  pub issuers : List (ℕ × List Issuer)
  pub public_facets : List (ℕ × Data)
  pub standings : List (ℕ × Standing)
  pub states : List (ℕ × Vec Data Global)

abbrev pub changes_now : Changes → ChangesView
changes_now c = record { issuers = c.issuers.now; public_facets = c.public_facets.now; standings = c.standings.now; states = c.states.now }

abbrev pub changes_at_start : Changes → ChangesView
changes_at_start c = record { issuers = c.issuers.start; public_facets = c.public_facets.start; standings = c.standings.start; states = c.states.start }

abbrev pub no_changes : ChangesView
no_changes = record { issuers = []; public_facets = []; standings = []; states = [] }

module _ {V : Type 0} where
  -- what an instance has now, where it had x when it was started
  abbrev pub changed : List (ℕ × V) → ℕ → V → V
  changed es n x = option_map_or (λ y. y) (value_at nat_cmp es n) x

  -- no instance from n on has changed
  abbrev pub IsBelow : ℕ → List (ℕ × V) → Type 0
  IsBelow n es = (q : ℕ) → n ≤ q → is_some (value_at nat_cmp es q) ≡ false

-- only the first n instances have changed
pub record AreBelow (n : ℕ) (c : ChangesView) : Type 0 where
  pub issuers : IsBelow n c.issuers
  pub public_facets : IsBelow n c.public_facets
  pub standings : IsBelow n c.standings
  pub states : IsBelow n c.states

-- the instance n
abbrev pub instance_view : ChangesView → ℕ → Instance → InstanceView
instance_view c n i =
    record {
      installation = i.installation;
      issuers = changed c.issuers n i.issuers;
      terms = tree i.terms;
      public_facet = option_map tree (value_at nat_cmp c.public_facets n);
      standing = changed c.standings n Accepting;
      state = trees (changed c.states n i.state).items;
    }

-- f of each element and its number, from k on
abbrev pub numbered : {A B : Type 0} → (ℕ → A → B) → ℕ → List A → List B
numbered f k [] = []
numbered f k (x ∷ xs) = f k x ∷ numbered f (k + 1) xs

abbrev pub instances_view : ChangesView → List Instance → List InstanceView
instances_view c is = numbered (instance_view c) 0 is

-- the tables of these modules and of the instances, with what has changed of them
abbrev pub tables_seen : List Module → ChangesView → List Instance → Tables
tables_seen modules c is = record { installations = modules; instances = instances_view c is }

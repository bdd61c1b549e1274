-- Facets by number: those at the turn's start, and those of now.
use Rattle.std.specs.Prelude.{ℕ, List, [], ◌∷◌, ◌++◌, length, map, slice_index_or, take}
use Rattle.promise_store.specs.host_data.Tree.{Tree, null}
use Rattle.promise_store.specs.host_data.View.{tree}
use Rattle.actors.specs.declared.instance_store.facets.Facet.{Facet}
use Rattle.actors.specs.declared.instance_store.facets.Facets.{Facets}

-- a facet: the instance that made it, its methods, each with the function behind it, and the data held for them
pub record FacetView : Type 0 where
  pub instance : ℕ
  pub methods : List (List ℕ × List ℕ)
  pub held : Tree

abbrev pub facet_view : Facet → FacetView
facet_view f = record { instance = f.instance; methods = f.methods.items; held = tree f.held }

-- what is read where no facet was made
abbrev pub no_facet : FacetView
no_facet = record { instance = 0; methods = []; held = null }

abbrev pub facet_at : List FacetView → ℕ → FacetView
facet_at facets n = slice_index_or facets n no_facet

pub record FacetsState : Type 0 where
  pub start : List FacetView
  pub now : List FacetView

-- the first ones were there at the start
abbrev pub facets_of : Facets → FacetsState
facets_of f = record { start = take f.kept (map facet_view f.facets.items); now = map facet_view f.facets.items }

-- those of now, and how many they are
abbrev pub now_of : Facets → List FacetView
now_of f = (facets_of f).now

abbrev pub made : Facets → ℕ
made f = length (now_of f)

-- one more is made
abbrev pub with_facet : FacetView → Facets → FacetsState
with_facet facet f = record (facets_of f) { now = now_of f ++ facet ∷ [] }

-- there are none
abbrev pub untouched : FacetsState
untouched = record { start = []; now = [] }

-- how it was is forgotten, and how it is
abbrev pub kept_at : FacetsState → FacetsState
kept_at f = record { start = f.now; now = f.now }

abbrev pub back_at : FacetsState → FacetsState
back_at f = record { start = f.start; now = f.start }

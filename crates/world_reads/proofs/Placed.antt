-- A field at its place in a list of fields is one at its place in the record of them.
use Rattle.std.specs.Prelude.{if◌then◌else◌}
use Rattle.std.proofs.Common.{◌≡◌, ℕ, Bool, true, false, List, [], ◌∷◌, refl, ap}
use Rattle.refusals.specs.host_data.Tree.{Fields, Tree, field}
use Rattle.refusals.specs.host_data.View.{fields_of}
use Rattle.rules.specs.proposals.Slots.{is_upto}
use Rattle.world_reads.specs.Placed.{placed}
use Rattle.rules.specs.world_state.Worlds.{placed_field}

pub fields_placed : (f : List ℕ × Tree) (gs : List (List ℕ × Tree)) → fields_of (placed f gs) ≡ placed_field f.0 f.1 (fields_of gs)
fields_placed f [] = refl
fields_placed f (g ∷ gs) = by (is_upto f.0 g.0) (fields_placed f gs)
  where
    by : (b : Bool) → fields_of (placed f gs) ≡ placed_field f.0 f.1 (fields_of gs) → fields_of (if b then f ∷ g ∷ gs else g ∷ placed f gs) ≡ (if b then field f.0 f.1 (field g.0 g.1 (fields_of gs)) else field g.0 g.1 (placed_field f.0 f.1 (fields_of gs)))
    by true later = refl
    by false later = ap (field g.0 g.1) later

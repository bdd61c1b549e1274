-- Whose function a turn runs, and the data that it is called with.
use Rattle.std.specs.Prelude.{ℕ, List, [], ◌∷◌, Option, Some, None}
use Rattle.fair_laws.specs.actors.Facets.{facet_at}
use Rattle.fair_laws.specs.world_state.host_data.Tree.{Tree}
use Rattle.fair_laws.specs.world_state.host_data.declared.data.ObjKind.{ObjKind}
use Rattle.fair_laws.specs.world_state.host_data.declared.data.ObjKind.TheVariants as kinds
use Rattle.fair_laws.specs.world_state.turn_records.Deliveries.{Delivery, Reading, call, notify}
use Rattle.fair_laws.specs.world_state.turn_records.Deliveries.{offer, send}
use Rattle.fair_laws.specs.world_state.turn_records.Deliveries.{start, target, wake}
use Rattle.fair_laws.specs.world_state.turn_records.Printed.{read_trees}
use Rattle.fair_laws.specs.world_state.Worlds.{State, object_tree}

-- a facet's methods are functions of the instance that made it; no other object runs a function
abbrev pub instance_behind : State → ObjKind → ℕ → Option ℕ
instance_behind w kinds.Facet n = Some (facet_at w.facets n).instance
instance_behind w _ n = None

abbrev pub instance_called : State → Reading → Option ℕ
instance_called w (target o args) = instance_behind w o.kind o.number
instance_called w _ = None

-- the instance whose function the turn of a delivery runs, where it runs one
abbrev pub runs_in : State → Delivery → Reading → Option ℕ
runs_in w (call c) r = instance_called w r
runs_in w (send s) r = instance_called w r
runs_in w (start s) r = Some s.instance
runs_in w (offer o) r = Some o.instance
runs_in w (wake d) r = Some d.instance
runs_in w (notify n) r = Some n.instance
runs_in w _ r = None

-- what a facet holds, with the arguments of the call
abbrev pub facet_brought : State → Reading → List Tree
facet_brought w (target o args) = (facet_at w.facets o.number).held ∷ args
facet_brought w _ = []

-- what the function of such a turn is called with: a start with its zcf, a handler with its seat, others with what
-- is held for them, each with what came in its delivery
abbrev pub brought : State → Delivery → Reading → List Tree
brought w (call c) r = facet_brought w r
brought w (send s) r = facet_brought w r
brought w (start s) r = object_tree kinds.Zcf s.instance ∷ s.private_arguments ∷ []
brought w (offer o) r = object_tree kinds.Zseat o.seat ∷ o.offer_arguments ∷ o.held ∷ []
brought w (wake d) r = d.held ∷ read_trees r
brought w (notify n) r = n.held ∷ read_trees r
brought w _ r = []

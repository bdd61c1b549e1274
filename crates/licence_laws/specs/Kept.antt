-- What an instance keeps, as the stores of the world have it: the values of its state variables, and the data that is
-- held for its facets, its invitations, its wakeups and its requests to be told of promises.
use Rattle.std.specs.Prelude.{ℕ, ◌==◌, List, [], ◌∷◌, ◌++◌, map, if◌then◌else◌}
use Rattle.std.specs.List.{filter, flat_map}
use Rattle.fair_laws.specs.actors.Facets.{FacetView}
use Rattle.fair_laws.specs.actors.Tables.{instance_at}
use Rattle.fair_laws.specs.world_state.host_data.Tree.{Tree}
use Rattle.fair_laws.specs.world_state.turn_records.Deliveries.{Delivery, Notice, wake}
use Rattle.fair_laws.specs.world_state.turn_stores.Details.{DetailsView}
use Rattle.fair_laws.specs.world_state.Worlds.{State}

-- the data held for its facets
abbrev pub facets_held : ℕ → List FacetView → List Tree
facets_held i fs = map (λ (f : FacetView). f.held) (filter (λ (f : FacetView). f.instance == i) fs)

-- for the handlers of its invitations
abbrev pub invitations_held : ℕ → List DetailsView → List Tree
invitations_held i ds =
    map (λ (d : DetailsView). d.held) (filter (λ (d : DetailsView). d.instance == i) ds)

-- for its wakeups that wait in the timer; one that is due comes with its delivery
abbrev pub wakeup_held : ℕ → Delivery → List Tree
wakeup_held i (wake d) = if d.instance == i then d.held ∷ [] else []
wakeup_held i _ = []

abbrev pub wakeups_held : ℕ → List (ℕ × Delivery) → List Tree
wakeups_held i ws = flat_map (λ (w : ℕ × Delivery). wakeup_held i w.1) ws

-- for its functions that are to be told of a promise; a notice that is due comes with its delivery
abbrev pub requests_held : ℕ → List Notice → List Tree
requests_held i ns = map (λ (n : Notice). n.held) (filter (λ (n : Notice). n.instance == i) ns)

-- all of it
abbrev pub kept_trees : State → ℕ → List Tree
kept_trees w i =
    (instance_at w.tables.instances i).state
    ++ (facets_held i w.facets
    ++ (invitations_held i w.invitations
    ++ (wakeups_held i w.schedule.waiting
    ++ requests_held i w.promises.requests)))

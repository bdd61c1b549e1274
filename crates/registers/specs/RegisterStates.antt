-- The parts of the world that touch no rights.
use Rattle.std.specs.Prelude.{◌≡◌, ℕ, List, [], ◌∷◌, drop}
use Rattle.world_state.specs.actors.Labels.{Bound}
use Rattle.world_state.specs.brands.Brands as brands
use Rattle.world_state.specs.brands.declared.Brand.{Brand}
use Rattle.world_state.specs.actors.Facets.{FacetView}
use Rattle.world_state.specs.actors.Tables.{Tables}
use Rattle.world_state.specs.actors.declared.instance_store.seat_promises.SeatPair.{SeatPair}
use Rattle.world_state.specs.turn_stores.Details.{DetailsView}
use Rattle.world_state.specs.rights_model.declared.Sum.{Sum}
use Rattle.world_state.specs.turn_stores.Schedules.{Schedule}
use Rattle.world_state.specs.turn_records.Deliveries.{Delivery, Reading, tick}
use Rattle.world_state.specs.turn_records.Events.{Answer, Event}
use Rattle.world_state.specs.turn_records.Turns.{Turn}
use Rattle.world_state.specs.Promises.{PromiseBook}
use Rattle.world_state.specs.Worlds.{Maker, State, in_front, of_host}

-- as the world's state has them
pub record RegisterState : Type 0 where
  pub brands : List Brand
  pub makers : List Maker
  pub invitations : List DetailsView
  pub schedule : Schedule Delivery
  pub promises : PromiseBook
  pub tables : Tables
  pub facets : List FacetView
  pub pairs : List SeatPair
  pub labels : List Bound
  pub waiting : List Delivery
  pub log : List Event

-- those of a world
abbrev pub registers_of : State → RegisterState
registers_of w = record {
  brands = w.brands;
  makers = w.makers;
  invitations = w.invitations;
  schedule = w.schedule;
  promises = w.promises;
  tables = w.tables;
  facets = w.facets;
  pairs = w.pairs;
  labels = w.labels;
  waiting = w.waiting;
  log = w.log;
}

-- those of the world of a turn: the delivery that the turn is about still waits, in front
abbrev pub AreOfTurn : RegisterState → Delivery → State → Type 0
AreOfTurn s d w = s ≡ registers_of (in_front d w)

-- those of a new host: brand 0 is its own, and there is nothing else
abbrev pub new_registers : RegisterState
new_registers = record {
  brands = brands.started.now;
  makers = of_host ∷ [];
  invitations = [];
  schedule = record { time = 0; made = 0; waiting = [] };
  promises = record { settled = []; follows = []; requests = [] };
  tables = record { installations = []; instances = [] };
  facets = [];
  pairs = [];
  labels = [];
  waiting = [];
  log = [];
}

-- ---- the end of a turn that is kept

-- what is read where nothing waits
abbrev pub no_delivery : Delivery
no_delivery = tick 0

abbrev pub front_of : List Delivery → Delivery
front_of [] = no_delivery
front_of (d ∷ ds) = d

-- the turn of the delivery in front, with all that happened
abbrev pub turn_ended : ℕ → Reading → Answer → List Sum → RegisterState → Turn
turn_ended number reading answer sums s = record {
  number = number;
  delivery = front_of s.waiting;
  reading = reading;
  answer = answer;
  events = s.log;
  sums = sums;
}

-- the delivery in front is gone, and nothing has happened yet
abbrev pub after_turn : RegisterState → RegisterState
after_turn s = record s { waiting = drop 1 s.waiting; log = [] }

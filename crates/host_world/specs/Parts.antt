-- The state of rights and seats, and of what touches no rights.
use Rattle.std.specs.Prelude.{List, Option}
use Rattle.registers.specs.RegisterStates.{RegisterState}
use Rattle.registers.specs.proposals.declared.allocations.Share.{Share}
use Rattle.registers.specs.world_state.Rights.{Rights}
use Rattle.registers.specs.world_state.Worlds.{Seat, State}

-- what is staged, by seat
abbrev pub Staged : Type 0
Staged = List (Option (List Share))

-- rights, seats and what is staged of them, and what touches no rights
abbrev pub state_of : Rights → List Seat → Staged → RegisterState → State
state_of r seats staging p = record {
  rights = r;
  seats = seats;
  staging = staging;
  brands = p.brands;
  makers = p.makers;
  invitations = p.invitations;
  schedule = p.schedule;
  promises = p.promises;
  tables = p.tables;
  facets = p.facets;
  pairs = p.pairs;
  labels = p.labels;
  waiting = p.waiting;
  log = p.log;
}

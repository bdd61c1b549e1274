-- What the registers are to the world, now and at the turn's start.
use Rattle.std.specs.Prelude.{[]}
use Rattle.world_state.specs.actors.Turns.{parties_of}
use Rattle.registers.specs.Makers.{makers_of}
use Rattle.world_state.specs.actors.Facets.{facets_of}
use Rattle.world_state.specs.actors.SeatPromises.{seat_promises_of}
use Rattle.world_state.specs.actors.InstanceTurns.{instances_of}
use Rattle.world_state.specs.turn_stores.InvitationTurns.{invitations_of}
use Rattle.registers.specs.PromiseTables.{waiting_of}
use Rattle.registers.specs.Tables.{book, book_at_start}
use Rattle.registers.specs.Timed.{schedule_of}
use Rattle.world_state.specs.turn_records.Logs.{log_of}
use Rattle.registers.specs.RegisterStates.{RegisterState}
use Rattle.registers.specs.declared.Registers.{Registers}

abbrev pub registers_now : Registers → RegisterState
registers_now s = record {
  brands = s.brands.now;
  makers = makers_of s.makers.now;
  invitations = (invitations_of s.invitations).now;
  schedule = schedule_of s.timer.now;
  promises = book s.promises;
  tables = (instances_of s.instances).now;
  facets = (facets_of s.facets).now;
  pairs = (seat_promises_of s.pairs).now;
  labels = (parties_of s.parties).now;
  waiting = waiting_of s.queue.now;
  log = log_of s.log;
}

-- at a turn's start nothing has happened in it
abbrev pub registers_at_start : Registers → RegisterState
registers_at_start s = record {
  brands = s.brands.start;
  makers = makers_of s.makers.start;
  invitations = (invitations_of s.invitations).start;
  schedule = schedule_of s.timer.start;
  promises = book_at_start s.promises;
  tables = (instances_of s.instances).start;
  facets = (facets_of s.facets).start;
  pairs = (seat_promises_of s.pairs).start;
  labels = (parties_of s.parties).start;
  waiting = waiting_of s.queue.start;
  log = [];
}

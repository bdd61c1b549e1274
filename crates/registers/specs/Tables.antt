-- What contracts see of a table of promises: the books of the turn's start and of now.
use Rattle.std.specs.Prelude.{ℕ, List, Option, length}
use Rattle.world_state.specs.promise_store.States.{SettlementView}
use Rattle.world_state.specs.promise_store.Turns.{Store, Turn}
use Rattle.world_state.specs.promise_store.Views.{promises_of}
use Rattle.world_state.specs.turn_records.Logs.{log_of}
use Rattle.world_state.specs.turn_records.declared.deliveries.Delivery.{Delivery}
use Rattle.world_state.specs.turn_records.declared.deliveries.Notice.{Notice}
use Rattle.world_state.specs.turn_records.declared.log.Log.{Log}
use Rattle.world_state.specs.Promises.{PromiseBook, Resolved, settlement_at}
use Rattle.registers.specs.PromiseTables.{beside, book_before, book_now, waiting_of}
use Rattle.registers.specs.declared.promise_table.table.PromiseTable.{PromiseTable}

abbrev pub turn_of : PromiseTable → Turn Notice
turn_of t = promises_of t.promises

-- the store of the turn's start
abbrev pub start_of : PromiseTable → Store Notice
start_of t = (turn_of t).start

-- the book as it is now, and as it was at the turn's start
abbrev pub book : PromiseTable → PromiseBook
book t = book_now (turn_of t)

abbrev pub book_at_start : PromiseTable → PromiseBook
book_at_start t = book_before (turn_of t)

-- how many promises were made
abbrev pub made_in : PromiseTable → ℕ
made_in t = length (book t).settled

-- what a promise is settled with, if it is
abbrev pub settled_at : PromiseTable → ℕ → Option SettlementView
settled_at t n = settlement_at (book t).settled n

-- the book, with what waits and what was told beside it
abbrev pub standing : PromiseTable → List Delivery → Log → Resolved
standing t ds log = beside (book t) (waiting_of ds) (log_of log)

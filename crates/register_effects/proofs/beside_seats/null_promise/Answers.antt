use Rattle.std.proofs.Common.{ap}
use Rattle.world_reads.specs.registers.Stores.{registers_now}
use Rattle.world_laws.specs.promise_store.States.{settlement_view}
use Rattle.world_reads.specs.registers.PromiseTables.{waiting_of}
use Rattle.world_reads.specs.registers.Tables.{book}
use Rattle.world_laws.specs.turn_records.Logs.{log_of}
use Rattle.world_laws.specs.world_state.Promises.{target_of}
use Rattle.register_effects.proofs.NewPromises.{null_promised, pends_now}
use Rattle.register_effects.proofs.beside_seats.null_promise.Goals as goal

pub settle-requires-clause-pending : goal.settle-requires-clause-pending
settle-requires-clause-pending c = pends_now (registers_now c.args.stores.now).promises (book c.make.new.self) c.in-Ok.promise c.requires c.in-Ok.ensures.ok c.in-Ok.ensures.number

pub settle-requires-clause-ends : goal.settle-requires-clause-ends
settle-requires-clause-ends c = ap (λ v. target_of v) c.null_settlement-null.ensures

pub returns-in-Ok-settle-clause-ok : goal.returns-in-Ok-settle-clause-ok
returns-in-Ok-settle-clause-ok c = null_promised (registers_now c.args.stores.now) (book c.make.new.self) (book c.settle.new.self) c.in-Ok.promise (settlement_view c.null_settlement-null.result) (waiting_of c.settle.new.queue.now) (log_of c.settle.new.log) c.requires c.in-Ok.ensures.ok c.in-Ok.ensures.number c.null_settlement-null.ensures c.in-Ok-settle.ensures.ok

use Rattle.std.proofs.lemmas.Result.{on_ok_weaker}
use Rattle.world_reads.specs.registers.Stores.{registers_now}
use Rattle.world_laws.specs.turn_records.Logs.{log_of}
use Rattle.register_effects.proofs.NewPromises.{own_seat_is}
use Rattle.register_effects.proofs.beside_seats.empty_seat.Goals as goal

pub returns-clause-ok : goal.returns-clause-ok
returns-clause-ok c =
    on_ok_weaker c.keep_deadline.result
    (own_seat_is (registers_now c.args.stores.now) (log_of c.log_opening.new.log) (registers_now c.open_settled_pair.new.stores) (registers_now c.keep_deadline.new.stores) c.args.seat c.args.instance c.args.rule c.own_proposal-proposal.result c.in_ok-log_opening.ensures c.own_proposal-proposal.ensures c.in_ok-open_settled_pair.ensures.ok)
    c.keep_deadline.ensures.ok

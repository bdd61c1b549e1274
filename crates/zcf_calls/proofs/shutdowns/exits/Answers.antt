use Rattle.std.specs.Prelude.{filter}
use Rattle.std.proofs.Common.{◌++◌, append-nil, ap, sym, ◌∙◌}
use Rattle.std.proofs.lemmas.List.{drop_all}
use Rattle.escrow_calls.specs.call_outcomes.Lists.{effects_view}
use Rattle.rules.specs.Zcf.{exits_of}
use Rattle.rules.specs.turn_rows.Causes.{halted}
use Rattle.escrow_calls.specs.host_world.Worlds.{world_of}
use Rattle.escrow_calls.proofs.world_reads.OpenSeats.{is_open_at, number_made, one_more, open_seats}
use Rattle.zcf_calls.proofs.shutdowns.exits.Goals as goal

pub add_exit-requires : goal.add_exit-requires
add_exit-requires c = number_made c.seats.result.now.seats c.args.world.now.draft.now.seats c.args.instance c.loop-seat.seat-index c.seats_of-seats.result.now c.seats.ensures.seats c.seats_of-seats.ensures c.loop-seat-test.true

pub loop-seat-preserved : goal.loop-seat-preserved
loop-seat-preserved c = record {
  exits = one_more (world_of c.args.world.now).seats halted (effects_view c.loop-seat.effects) _ _ c.seats_of-seats.result.now c.loop-seat.seat-index c.loop-seat-test.true c.loop-seat.invariant.exits c.in_ok-add_exit.ensures.exits;
  shaped = c.in_ok-add_exit.ensures.shaped c.loop-seat.invariant.shaped;
}

pub returns-clause-exits : goal.returns-clause-exits
returns-clause-exits c =
    let vs = effects_view c.loop-seat.effects in
    let opened = is_open_at (world_of c.args.world.now).seats in
    sym (append-nil vs)
    ∙ sym (ap (λ ns. vs ++ exits_of (filter opened ns)) (drop_all c.loop-seat.seat-index c.seats_of-seats.result.now c.loop-seat-test.false))
    ∙ c.loop-seat.invariant.exits
    ∙ ap (λ ns. exits_of (filter opened ns)) c.seats_of-seats.ensures
    ∙ ap exits_of (open_seats c.seats.result.now.seats c.args.world.now.draft.now.seats c.args.instance c.seats.ensures.seats)

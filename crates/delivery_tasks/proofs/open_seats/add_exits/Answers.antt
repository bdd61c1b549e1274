use Rattle.std.specs.Prelude.{filter}
use Rattle.std.proofs.Common.{◌≡◌, ◌++◌, append-nil, ap, sym, ◌∙◌}
use Rattle.std.proofs.lemmas.List.{drop_all}
use Rattle.world_reads.specs.call_outcomes.Lists.{effects_view}
use Rattle.delivery_turns.specs.Tasks.{exits_with}
use Rattle.world_reads.specs.host_world.Worlds.{world_of}
use Rattle.delivery_turns.specs.turn_records.Views.{cause_view}
use Rattle.world_reads.proofs.OpenSeats.{is_open_at, number_made, one_more, open_seats}
use Rattle.delivery_tasks.proofs.open_seats.add_exits.Goals as goal

pub add_exit-requires : goal.add_exit-requires
add_exit-requires c =
    number_made c.seats.result.now.seats c.args.world.now.draft.now.seats c.args.instance c.loop-seat.seat-index c.seats_of-seat-items.result.now c.seats.ensures.seats c.seats_of-seat-items.ensures c.loop-seat-test.true

pub loop-seat-preserved : goal.loop-seat-preserved
loop-seat-preserved c =
    one_more (world_of c.args.world.now).seats (cause_view c.args.cause) (effects_view c.loop-seat.effects) _ _ c.seats_of-seat-items.result.now c.loop-seat.seat-index c.loop-seat-test.true c.loop-seat.invariant c.in_ok-add_exit.ensures

pub returns : goal.returns
returns c =
    let vs = effects_view c.loop-seat.effects in
    let exits = exits_with (cause_view c.args.cause) in
    let opened = is_open_at (world_of c.args.world.now).seats in
    sym (append-nil vs)
    ∙ sym (ap (λ ns. vs ++ exits (filter opened ns)) (drop_all c.loop-seat.seat-index c.seats_of-seat-items.result.now c.loop-seat-test.false))
    ∙ c.loop-seat.invariant
    ∙ ap (λ ns. effects_view c.args.effects.now ++ exits (filter opened ns)) c.seats_of-seat-items.ensures
    ∙ ap (λ ns. effects_view c.args.effects.now ++ exits ns) (open_seats c.seats.result.now.seats c.args.world.now.draft.now.seats c.args.instance c.seats.ensures.seats)

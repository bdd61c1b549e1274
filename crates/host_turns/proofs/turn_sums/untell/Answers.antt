use Rattle.std.proofs.Common.{subst}
use Rattle.front_turns.specs.turn_records.Views.{event_view}
use Rattle.front_turns.specs.turn_records.declared.events.Event.{Event}
use Rattle.host_turns.specs.Totals.{WasTold}
use Rattle.host_turns.proofs.ToldEvents.{was_moved}
use Rattle.host_turns.proofs.turn_sums.untell.Goals as goal

pub undo_moved-requires-clause-told : goal.undo_moved-requires-clause-told
undo_moved-requires-clause-told c =
    let (before, was) = c.requires in
    was_moved before c.args.sums.now c.in-Moved.movement (subst (λ (e : Event). WasTold before c.args.sums.now (event_view e)) c.in-Moved.is was)

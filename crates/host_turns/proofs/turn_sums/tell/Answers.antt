use Rattle.std.proofs.Common.{arith, subst}
use Rattle.front_turns.specs.turn_records.Views.{event_view}
use Rattle.front_turns.specs.turn_records.declared.events.Event.{Event}
use Rattle.host_turns.specs.Totals.{CanTell, CanTellMove}
use Rattle.host_turns.proofs.turn_sums.tell.Goals as goal

pub moved-requires-clause-defined : goal.moved-requires-clause-defined
moved-requires-clause-defined c =
    let can : CanTellMove c.args.sums.now c.in-Moved.movement = subst (λ (e : Event). CanTell c.args.sums.now (event_view e)) c.in-Moved.is c.requires in
    (can.before, can.sums, can.defined)

pub moved-requires-clause-minted : goal.moved-requires-clause-minted
moved-requires-clause-minted c =
    let can : CanTellMove c.args.sums.now c.in-Moved.movement = subst (λ (e : Event). CanTell c.args.sums.now (event_view e)) c.in-Moved.is c.requires in
    omega (arith, can.minted)

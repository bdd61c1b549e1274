use Rattle.rearrange_calls.proofs.ReallocationStates.{is_as_well, state_read}
use Rattle.rules.specs.States.{state_of}
use Rattle.rearrange_calls.proofs.reallocation_states.state.Goals as goal

pub returns : goal.returns
unfolding state_of
returns c =
    let draft = c.args.world.now.draft in
    is_as_well c.state.result _ _
    (state_read c.seats.result.now draft.now.seats draft.staging c.args.seat c.seats.ensures.seats c.seats.ensures.staging c.requires)
    c.state.ensures.state

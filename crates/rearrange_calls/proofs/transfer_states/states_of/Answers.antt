use Rattle.std.proofs.Common.{◌<◌, List, All, sym, subst}
use Rattle.world_reads.specs.host_world.Worlds.{world_of}
use Rattle.rules.specs.proposals.declared.plans.SeatState.{SeatState}
use Rattle.rearrange_calls.proofs.Once.{above_unstaged}
use Rattle.rearrange_calls.proofs.transfer_states.states_of.Goals as goal

pub push-requires : goal.push-requires
push-requires c =
    let state = c.in_ok-unstaged_state.field-0 in
    subst (λ (ss : List SeatState). All (λ (s : SeatState). s.seat < state.seat) ss) (sym c.loop-seat.invariant)
    (above_unstaged (world_of c.args.world.now) c.args.once.now c.loop-seat.seat-index c.requires.order c.loop-seat-test.true state c.in_ok-unstaged_state.ensures)

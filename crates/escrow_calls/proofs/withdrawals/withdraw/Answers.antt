use Rattle.std.proofs.Common.{Ok, ap, refl, sym, ◌∙◌}
use Rattle.ertp_calls.specs.host_world.Worlds.{world_of}
use Rattle.rules.specs.States.{touched_seat}
use Rattle.rules.specs.proposals.Losses.{with_losses}
use Rattle.escrow_calls.proofs.Steps.{withdrawn_is}
use Rattle.escrow_calls.proofs.withdrawals.withdraw.Goals as goal

pub returns : goal.returns
returns c =
    let w = world_of c.args.world.now in
    let slots = c.args.slots.now in
    let shares = c.args.shares.now in
    let room = c.in_ok-check_room.ensures.gives (touched_seat c.args.seat slots (with_losses slots shares)) refl (sym c.slots_after.ensures.lost) in
    (withdrawn_is w c.args.seat slots shares c.in_ok-check_losses.ensures c.in_ok-check_safe.ensures room c.payments_made.result c.payments_made.ensures ∙ ap Ok (sym c.in_ok-paying_out.ensures.plan), c.in_ok-paying_out.ensures.shaped)

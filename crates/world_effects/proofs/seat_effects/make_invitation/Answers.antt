use Rattle.std.proofs.Common.{ap, length, ◌∙◌}
use Rattle.std.proofs.lemmas.Result.{on_ok_weaker}
use Rattle.register_effects.specs.draft_reads.Views.{rights_in, seats_in, staging_in}
use Rattle.register_effects.specs.host_world.Worlds.{world_now}
use Rattle.world_laws.specs.turn_stores.Details.{details_view}
use Rattle.register_effects.specs.registers.Stores.{registers_now}
use Rattle.world_laws.specs.world_state.Worlds as worlds
use Rattle.world_laws.specs.world_state.Worlds.{after}
use Rattle.world_effects.proofs.JoinedStores.{joined}
use Rattle.world_effects.proofs.InvitationMoves.{can_issue, invited_now, its_move}
use Rattle.world_effects.proofs.seat_effects.make_invitation.Goals as goal

pub issue_payment-requires-clause-can : goal.issue_payment-requires-clause-can
issue_payment-requires-clause-can c = can_issue c.args.world.now c.in_ok-movement.movement (details_view c.args.details) (its_move c.args.world.now c.in_ok-movement.movement c.made-invitation.result c.made-payment.result c.in_ok-movement.ensures c.made-invitation.ensures.made (c.made-payment.ensures.made ∙ ap length c.payments.ensures.views)) c.requires.turn c.requires.can

pub returns-clause-ok : goal.returns-clause-ok
returns-clause-ok c =
    let w = c.args.world.now in
    let is = its_move w c.in_ok-movement.movement c.made-invitation.result c.made-payment.result c.in_ok-movement.ensures c.made-invitation.ensures.made (c.made-payment.ensures.made ∙ ap length c.payments.ensures.views) in
    on_ok_weaker c.invite.result
    (λ beside. record { now = joined c.issue_payment.new.draft (registers_now c.invite.new.stores) (after (world_now w) (worlds.invite (details_view c.args.details))) (invited_now w c.issue_payment.new.draft c.in_ok-movement.movement is c.in_ok-issue_payment.ensures.ok) (beside (rights_in w.draft) (seats_in w.draft) (staging_in w.draft) is); clean = c.in_ok-issue_payment.ensures.ok.clean })
    c.invite.ensures.ok

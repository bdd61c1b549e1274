use Rattle.std.proofs.Common.{List, ap, sym, subst, ◌∙◌}
use Rattle.rules.specs.proposals.Losses.{with_losses}
use Rattle.rules.specs.States.{seat_of}
use Rattle.host_world.specs.Worlds.{world_of}
use Rattle.rules.specs.proposals.OfferSafety.{MeetSlots}
use Rattle.rules.specs.proposals.declared.allocations.Share.{Share}
use Rattle.rules.specs.proposals.declared.offers.Proposal.{Proposal}
use Rattle.contract_reads.proofs.Lessened.{give_met, want_met}
use Rattle.contract_reads.proofs.seat_changes.safety.check_safe.Goals as goal

pub is_safe-requires-clause-want : goal.is_safe-requires-clause-want
is_safe-requires-clause-want c =
    let w = world_of c.args.world.now in
    let is = c.as_slice.ensures.value ∙ c.in_ok-after.ensures.after ∙ ap (λ (s : List Share). with_losses s c.args.shares.now) c.requires.slots in
    subst (λ (p : Proposal). MeetSlots c.as_slice.result.now p.want) (sym c.seat_proposal.ensures)
    (subst (λ (s : List Share). MeetSlots s (seat_of w c.args.seat).proposal.want) (sym is) (want_met w c.args.seat c.args.shares.now c.requires.good c.requires.made))

pub is_safe-requires-clause-give : goal.is_safe-requires-clause-give
is_safe-requires-clause-give c =
    let w = world_of c.args.world.now in
    let is = c.as_slice.ensures.value ∙ c.in_ok-after.ensures.after ∙ ap (λ (s : List Share). with_losses s c.args.shares.now) c.requires.slots in
    subst (λ (p : Proposal). MeetSlots c.as_slice.result.now p.give) (sym c.seat_proposal.ensures)
    (subst (λ (s : List Share). MeetSlots s (seat_of w c.args.seat).proposal.give) (sym is) (give_met w c.args.seat c.args.shares.now c.requires.good c.requires.made))

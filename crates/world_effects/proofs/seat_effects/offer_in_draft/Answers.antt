use Rattle.std.proofs.Common.{refl, subst, sym}
use Rattle.register_effects.specs.call_outcomes.Views.{offering_view}
use Rattle.world_laws.specs.proposals.Slots.{FitsSeat}
use Rattle.world_laws.specs.proposals.declared.offers.Proposal.{Proposal}
use Rattle.register_effects.proofs.draft_reads.Undoing.{clean_back}
use Rattle.draft_effects.proofs.EscrowedOffers.{can_escrow}
use Rattle.world_effects.proofs.seat_effects.offer_in_draft.Goals as goal

pub offer-requires-clause-fits : goal.offer-requires-clause-fits
offer-requires-clause-fits c = subst (λ (p : Proposal). FitsSeat p) (sym c.in_ok-proposal.ensures) c.requires.can.1.can.proposal.fits

pub offer-requires-clause-can : goal.offer-requires-clause-can
offer-requires-clause-can c =
    let (w, is) = c.requires.can in
    rw (c.in_ok-proposal.ensures, is.instance_is, c.deref.ensures.value) (can_escrow c.args.draft.now w (offering_view c.args.offering.now) is.rights is.seats is.can)

pub returns-in_err-proposal-clause-back : goal.returns-in_err-proposal-clause-back
returns-in_err-proposal-clause-back c = clean_back c.args.draft.now c.args.draft.now refl c.valid.ensures c.requires.clean

use Rattle.draft_effects.proofs.EscrowedOffers.{can_escrow}
use Rattle.draft_effects.proofs.seat_offers.an_offer_can_be_escrowed.Goals as goal

pub returns : goal.returns
returns c = can_escrow

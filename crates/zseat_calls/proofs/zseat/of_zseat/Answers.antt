use Rattle.zseat_calls.proofs.zseat.of_zseat.Goals as goal

pub returns-in-getProposal : goal.returns-in-getProposal
returns-in-getProposal c = rw c.in-getProposal.is (c.outcome_of_reading.ensures _ c.get_proposal.ensures)

pub returns-in-isOfferSafe : goal.returns-in-isOfferSafe
returns-in-isOfferSafe c = rw c.in-isOfferSafe.is (c.outcome_of_reading-in-isOfferSafe.ensures _ c.is_offer_safe.ensures)

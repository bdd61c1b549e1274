use Rattle.ertp_calls.proofs.purse.serve_purse.Goals as goal

pub returns-in-getDepositFacet : goal.returns-in-getDepositFacet
returns-in-getDepositFacet c = rw c.in-getDepositFacet.is (c.outcome_of_reading.ensures _ c.get_deposit_facet.ensures)

use Rattle.ertp_calls.proofs.mint.serve_mint.Goals as goal

pub returns-in-getIssuer : goal.returns-in-getIssuer
returns-in-getIssuer c = rw c.in-getIssuer.is (c.outcome_of_reading.ensures _ c.get_issuer.ensures)

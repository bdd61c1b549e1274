use Rattle.ertp_calls.proofs.brand.serve_brand.Goals as goal

pub returns-in-getAllegedName : goal.returns-in-getAllegedName
returns-in-getAllegedName c = rw c.in-getAllegedName.is (c.outcome_of_reading.ensures _ c.get_alleged_name.ensures)

pub returns-in-isMyIssuer : goal.returns-in-isMyIssuer
returns-in-isMyIssuer c = rw c.in-isMyIssuer.is (c.outcome_of_reading-in-isMyIssuer.ensures _ c.is_my_issuer.ensures)

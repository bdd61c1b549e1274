use Rattle.issuer_calls.proofs.issuer.serve_plain_issuer.Goals as goal

pub returns-in-getBrand : goal.returns-in-getBrand
returns-in-getBrand c = rw c.in-getBrand.is (c.outcome_of_reading.ensures _ c.get_brand.ensures)

pub returns-in-isLive : goal.returns-in-isLive
returns-in-isLive c = rw c.in-isLive.is (c.outcome_of_reading-in-isLive.ensures _ c.is_live.ensures)

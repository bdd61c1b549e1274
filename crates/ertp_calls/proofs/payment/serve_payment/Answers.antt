use Rattle.ertp_calls.proofs.payment.serve_payment.Goals as goal

pub returns-in-getAllegedBrand : goal.returns-in-getAllegedBrand
returns-in-getAllegedBrand c = λ args. rw c.in-getAllegedBrand.is (c.outcome_of_reading.ensures _ c.get_alleged_brand.ensures)

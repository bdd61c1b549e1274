use Rattle.ertp_calls.proofs.purse.serve_plain_purse.Goals as goal

pub returns-in-getAllegedBrand : goal.returns-in-getAllegedBrand
returns-in-getAllegedBrand c = rw c.in-getAllegedBrand.is (c.outcome_of_reading.ensures _ c.get_alleged_brand.ensures)

pub returns-in-getCurrentAmount : goal.returns-in-getCurrentAmount
returns-in-getCurrentAmount c = rw c.in-getCurrentAmount.is (c.outcome_of_reading-in-getCurrentAmount.ensures _ c.get_current_amount.ensures)

use Rattle.world_laws.proofs.Openings.{brand_made, payment_made, purse_opened, seat_opened}
use Rattle.world_laws.proofs.rights_tables.openings_move_nothing.Goals as goal

pub returns-clause-purse : goal.returns-clause-purse
returns-clause-purse c = purse_opened

pub returns-clause-payment : goal.returns-clause-payment
returns-clause-payment c = payment_made

pub returns-clause-brand : goal.returns-clause-brand
returns-clause-brand c = brand_made

pub returns-clause-seat : goal.returns-clause-seat
returns-clause-seat c = seat_opened

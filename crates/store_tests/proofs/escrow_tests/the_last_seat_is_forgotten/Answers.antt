use Rattle.escrow.specs.rights_model.Table.{no_holdings}
use Rattle.store_tests.proofs.escrow_tests.the_last_seat_is_forgotten.Goals as goal

pub mint-requires-clause-told : goal.mint-requires-clause-told
mint-requires-clause-told g c = (no_holdings, c.open-2.ensures.told)

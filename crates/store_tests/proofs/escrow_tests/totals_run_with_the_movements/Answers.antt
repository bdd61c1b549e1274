use Rattle.escrow.specs.rights_model.Table.{no_holdings}
use Rattle.store_tests.proofs.escrow_tests.totals_run_with_the_movements.Goals as goal

pub goes_to_a_purse-to_a_purse-requires : goal.goes_to_a_purse-to_a_purse-requires
goes_to_a_purse-to_a_purse-requires g c = record { told = (no_holdings, c.open.ensures.told) }

use Rattle.world_laws.proofs.LeftTables.{left_is, payouts_can, table_left}
use Rattle.world_laws.proofs.rights_tables.a_left_seat_is_paid_out.Goals as goal

pub returns-clause-rights : goal.returns-clause-rights
returns-clause-rights c = left_is

pub returns-clause-can : goal.returns-clause-can
returns-clause-can c = payouts_can

pub returns-clause-table : goal.returns-clause-table
returns-clause-table c = table_left

use Rattle.world_laws.proofs.Tabled.{table_agrees, table_is}
use Rattle.world_laws.proofs.rights_tables.tables_have_what_is_held.Goals as goal

pub returns-clause-agrees : goal.returns-clause-agrees
returns-clause-agrees c = table_agrees

pub returns-clause-one : goal.returns-clause-one
returns-clause-one c = table_is

use Rattle.world_state.specs.vault_model.Tables.{no_hand}
use Rattle.world_state.specs.rights_model.Table.{table_after}
use Rattle.world_state.specs.Rights.{moved_together}
use Rattle.world_laws.specs.Tables.{table_of}
use Rattle.world_laws.proofs.Agreeing.{agrees_together, can_all}
use Rattle.world_laws.proofs.Tabled.{table_agrees, table_is}
use Rattle.world_laws.proofs.rights_tables.tables_follow_movements.Goals as goal

pub returns-clause-can : goal.returns-clause-can
returns-clause-can c = λ r ms can. can_all r no_hand (table_of r) ms can (table_agrees r)

pub returns-clause-after : goal.returns-clause-after
returns-clause-after c = λ r ms can emptied. table_is (moved_together r ms) (table_after (table_of r) ms) (agrees_together r (table_of r) ms can emptied (table_agrees r))

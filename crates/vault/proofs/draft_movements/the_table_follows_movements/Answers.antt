use Rattle.vault.proofs.Tables.{can_follow, table_follows}
use Rattle.vault.proofs.draft_movements.the_table_follows_movements.Goals as goal

pub returns-clause-table : goal.returns-clause-table
returns-clause-table g c = table_follows g.before c.args.moves.now

pub returns-clause-can : goal.returns-clause-can
returns-clause-can g c = λ valid. can_follow g.before c.args.moves.now valid

use Rattle.vault.proofs.Tables.{split_table}
use Rattle.vault.proofs.draft_movements.a_split_is_what_is_written.Goals as goal

pub returns : goal.returns
returns c = λ before b kind from parts inside apart hands valid. split_table before b kind from parts inside apart hands valid

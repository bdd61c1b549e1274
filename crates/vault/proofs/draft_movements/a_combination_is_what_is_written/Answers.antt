use Rattle.vault.proofs.Tables.{combined_table}
use Rattle.vault.proofs.draft_movements.a_combination_is_what_is_written.Goals as goal

pub returns : goal.returns
returns c = λ before b kind to parts inside apart hands valid. combined_table before b kind to parts inside apart hands valid

use Rattle.journal_rows.proofs.Lines.{one_row, rows_are_lines, rows_are_read_back}
use Rattle.journal_rows.proofs.laws.rows_are_lines.Goals as goal

pub returns-clause-lines : goal.returns-clause-lines
returns-clause-lines c = rows_are_lines

pub returns-clause-told : goal.returns-clause-told
returns-clause-told c = rows_are_read_back

pub returns-clause-one : goal.returns-clause-one
returns-clause-one c = one_row

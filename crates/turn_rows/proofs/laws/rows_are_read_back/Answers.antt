use Rattle.turn_rows.proofs.InForm.{event_in_form, sum_in_form}
use Rattle.turn_rows.proofs.Read.{turn_read}
use Rattle.turn_rows.proofs.laws.rows_are_read_back.Goals as goal

pub returns-clause-events : goal.returns-clause-events
returns-clause-events c = event_in_form

pub returns-clause-sums : goal.returns-clause-sums
returns-clause-sums c = sum_in_form

pub returns-clause-turns : goal.returns-clause-turns
returns-clause-turns c = turn_read

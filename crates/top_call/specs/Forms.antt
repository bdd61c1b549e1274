-- Rows in form: the widths of numbers come from the types of the record that was written.
use Rattle.run_laws.specs.turn_writer.Printing.{CanPrint}
use Rattle.run_laws.specs.turn_writer.ShortRows.{HasShortRows}
use Rattle.host_turns.specs.turn_records.Printed.{printed}
use Rattle.host_turns.specs.turn_rows.Form.{IsInForm}
use Rattle.run_laws.specs.Runs.{HostTurn}
use Rattle.host_turns.specs.turn_rows.Editions.{written}

-- a turn that can be printed is in form, and none of its rows is too long
pub record PrintsInForm (t : HostTurn) : Type 0 where
  pub form : CanPrint t.step.turn → IsInForm written (printed t.step.turn)
  pub short : HasShortRows written (printed t.step.turn)

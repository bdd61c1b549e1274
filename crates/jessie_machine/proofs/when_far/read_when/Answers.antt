use Rattle.std.proofs.Common.{sym}
use Rattle.jessie_machine.proofs.Exits.{worked_as_ok, worked_as_err}
use Rattle.jessie_machine.proofs.when_far.read_when.Goals as goal

pub returns-in-Ok : goal.returns-in-Ok
returns-in-Ok c = λ s. worked_as_ok _ _ (sym c.in-Ok.ensures)

pub returns-in-Err : goal.returns-in-Err
returns-in-Err c = λ s. worked_as_err _ _ _ (sym c.in-Err.ensures) c.bad.ensures

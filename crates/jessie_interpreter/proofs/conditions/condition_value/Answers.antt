use Rattle.jessie_machine.proofs.Exits.{worked_as_ok, worked_as_err}
use Rattle.jessie_interpreter.proofs.conditions.condition_value.Goals as goal

pub returns-in-Ok : goal.returns-in-Ok
returns-in-Ok c = λ s. worked_as_ok _ _ c.in-Ok.is

pub returns-in-Err : goal.returns-in-Err
returns-in-Err c = λ s. worked_as_err _ _ _ c.in-Err.is c.bad.ensures

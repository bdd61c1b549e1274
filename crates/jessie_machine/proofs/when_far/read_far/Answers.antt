use Rattle.jessie_machine.proofs.Exits.{worked_as_ok, worked_as_fault}
use Rattle.jessie_machine.proofs.when_far.read_far.Goals as goal

pub returns-in-Ok : goal.returns-in-Ok
returns-in-Ok c = λ s. worked_as_ok _ _ c.in-Ok.ensures

pub returns-in-Err : goal.returns-in-Err
returns-in-Err c = λ s. worked_as_fault _ _ _ c.in-Err.ensures c.fault_stop.ensures

use Rattle.zseat_calls.proofs.zseat.of_own.Goals as goal

pub returns-in-hasExited : goal.returns-in-hasExited
returns-in-hasExited c = rw c.in-hasExited.is (c.outcome_of_reading.ensures _ c.has_exited.ensures)

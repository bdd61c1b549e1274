-- Which fault of a run a step's fault is.
use Rattle.host_turns.specs.declared.steps.StepFault.{StepFault}
use Rattle.host_turns.specs.declared.steps.StepFault.TheVariants as step
use Rattle.top_call.specs.declared.run.RunFault.{RunFault}
use Rattle.top_call.specs.declared.run.RunFault.TheVariants.{NoMemory, TurnLimit}

abbrev pub run_fault : StepFault → RunFault
run_fault step.TurnLimit = TurnLimit
run_fault step.NoMemory = NoMemory

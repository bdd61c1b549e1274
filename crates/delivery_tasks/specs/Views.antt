-- What the code's tasks are in the definitions.
use Rattle.world_reads.specs.call_outcomes.Lists.{IsEachShaped, effects_view}
use Rattle.delivery_turns.specs.Functions as functions
use Rattle.delivery_turns.specs.Tasks as definitions
use Rattle.delivery_turns.specs.Tasks.{unread}
use Rattle.host_data.specs.View.{trees}
use Rattle.refusals.specs.declared.stops.Stop.{Stop}
use Rattle.refusals.specs.declared.stops.Stop.TheVariants.{NoMemory, Refused}
use Rattle.delivery_turns.specs.turn_records.Views.{reading_view}
use Rattle.delivery_tasks.specs.declared.tasks.Beginning.{Beginning}
use Rattle.delivery_tasks.specs.declared.tasks.FunctionCall.{FunctionCall}
use Rattle.delivery_tasks.specs.declared.tasks.Task.{Task}
use Rattle.delivery_tasks.specs.declared.tasks.Task.TheVariants as tasks
use Rattle.std.specs.Prelude.{◌≡◌}

abbrev pub function_call_view : FunctionCall → functions.FunctionCall
function_call_view c = record {
  instance = c.instance;
  function = c.function;
  arguments = trees c.arguments.items;
}

abbrev pub task_view : Task → definitions.Task
task_view (tasks.Refuse r) = definitions.refuse r
task_view (tasks.DoAll es) = definitions.do_all (effects_view es)
task_view (tasks.Serve o method args) = definitions.serve o method (trees args.items)
task_view (tasks.Run c) = definitions.run (function_call_view c)

abbrev pub beginning_view : Beginning → definitions.Beginning
beginning_view b = record { reading = reading_view b.reading; task = task_view b.task }

-- movements that it has are of the shape that their way asks for
abbrev pub IsTaskShaped : Task → Type 0
IsTaskShaped (tasks.DoAll es) = IsEachShaped es
IsTaskShaped _ = Unit {0}

-- where the work on a delivery ends before its task, the delivery is refused
abbrev pub RefusedBy : Stop → definitions.Beginning → Type 0
RefusedBy (Refused r) b = b ≡ unread (definitions.refuse r)
RefusedBy NoMemory b = ⊥

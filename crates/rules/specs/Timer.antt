-- The timer.
use Rattle.std.specs.Prelude.{ℕ, List, Result, Ok, if◌then◌else◌, codes}
use Rattle.std.specs.Str.{bytes_eq}
use Rattle.call_arguments.specs.host_data.Tree.{Tree}
use Rattle.call_arguments.specs.host_data.Values.{number_tree}
use Rattle.call_arguments.specs.refusals.Outcomes.{reading}
use Rattle.call_arguments.specs.refusals.declared.codes.Refusal.{Refusal}
use Rattle.world_state.specs.Worlds.{State}
use Rattle.rules.specs.Outcomes.{Outcome}
use Rattle.rules.specs.Words.{without_method}

-- timer.getCurrentTimestamp()
unfoldable pub get_current_timestamp : State → Result Tree Refusal
get_current_timestamp w = Ok (number_tree w.schedule.time)

-- ---- the table of methods

-- which rule a call of the timer is
abbrev pub of_timer : State → List ℕ → List Tree → Outcome
of_timer w m args =
    if bytes_eq m (codes "getCurrentTimestamp") then reading (get_current_timestamp w)
    else without_method m

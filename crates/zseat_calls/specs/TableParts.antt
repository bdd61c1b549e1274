-- Parts of the table of methods of a ZCF seat, in the table's order.
use Rattle.std.specs.Prelude.{ℕ, List, if◌then◌else◌, codes}
use Rattle.std.specs.Str.{bytes_eq}
use Rattle.host_data.specs.Tree.{Tree}
use Rattle.refusals.specs.Outcomes.{reading}
use Rattle.rules.specs.Outcomes.{Outcome}
use Rattle.rules.specs.Words.{without_method}
use Rattle.rules.specs.Zseat.{clear, fail, get_amount_allocated, get_current_allocation, get_staged_allocation, has_exited, leave}
use Rattle.rules.specs.world_state.Worlds.{State}

-- the methods that tell or drop what the seat has
abbrev pub of_held : State → ℕ → List ℕ → List Tree → Outcome
of_held w n m args =
    if bytes_eq m (codes "getCurrentAllocation") then reading (get_current_allocation w n)
    else if bytes_eq m (codes "getStagedAllocation") then reading (get_staged_allocation w n)
    else if bytes_eq m (codes "getAmountAllocated") then reading (get_amount_allocated w n args)
    else if bytes_eq m (codes "clear") then clear w n
    else without_method m

-- those that leave the seat, and those before them
abbrev pub of_own : State → ℕ → List ℕ → List Tree → Outcome
of_own w n m args =
    if bytes_eq m (codes "exit") then leave w n
    else if bytes_eq m (codes "fail") then fail w n args
    else if bytes_eq m (codes "hasExited") then reading (has_exited w n)
    else of_held w n m args

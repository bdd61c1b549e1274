-- Deposit facets, which have the number of their purse (ERTP).
use Rattle.std.specs.Prelude.{ℕ, List, if◌then◌else◌, codes}
use Rattle.std.specs.Str.{bytes_eq}
use Rattle.call_arguments.specs.host_data.Tree.{Tree}
use Rattle.world_state.specs.Worlds.{State}
use Rattle.rules.specs.Outcomes.{Outcome}
use Rattle.rules.specs.Purse.{deposit}
use Rattle.rules.specs.Words.{without_method}

-- ---- the table of methods

-- which rule a call of a deposit facet is: what it receives goes to its purse
abbrev pub of_deposit : State → ℕ → List ℕ → List Tree → Outcome
of_deposit w n m args =
    if bytes_eq m (codes "receive") then deposit w n args
    else without_method m

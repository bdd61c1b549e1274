-- Parts of the tables of methods, in the tables' order.
use Rattle.std.specs.Prelude.{ℕ, List, if◌then◌else◌, codes}
use Rattle.std.specs.Str.{bytes_eq}
use Rattle.host_data.specs.Tree.{Tree}
use Rattle.rules.specs.Outcomes.{Outcome}
use Rattle.rules.specs.Words.{without_method}
use Rattle.rules.specs.refusals.Outcomes.{reading}
use Rattle.rules.specs.world_state.Worlds.{State}
use Rattle.rules.specs.Zoe.{TextReader, install, offer, start_instance}

-- the methods of Zoe's service that install, start and offer
abbrev pub of_offering : TextReader → State → List ℕ → List Tree → Outcome
of_offering read w m args =
    if bytes_eq m (codes "install") then install read w args
    else if bytes_eq m (codes "startInstance") then start_instance w args
    else if bytes_eq m (codes "offer") then offer w args
    else without_method m

-- What is left of the methods of issuers, behind those that tell of the brand and of what a
-- payment has.
use Rattle.std.specs.Prelude.{ℕ, List, if◌then◌else◌, codes}
use Rattle.std.specs.Str.{bytes_eq}
use Rattle.rules.specs.Outcomes.{Outcome}
use Rattle.rules.specs.Issuer.{claim, combine, split, split_many}
use Rattle.refusals.specs.host_data.Tree.{Tree}
use Rattle.issuer_calls.specs.Parts.{of_plain_issuer}
use Rattle.rules.specs.world_state.Worlds.{State}

-- those that make payments of payments, and then the plain ones
abbrev pub of_paying_issuer : State → ℕ → List ℕ → List Tree → Outcome
of_paying_issuer w n m args =
    if bytes_eq m (codes "claim") then claim w n args
    else if bytes_eq m (codes "combine") then combine w n args
    else if bytes_eq m (codes "split") then split w n args
    else if bytes_eq m (codes "splitMany") then split_many w n args
    else of_plain_issuer w n m args

-- Parts of the tables of methods, in the tables' order.
use Rattle.std.specs.Prelude.{ℕ, List, if◌then◌else◌, codes}
use Rattle.std.specs.Str.{bytes_eq}
use Rattle.host_data.specs.Tree.{Tree}
use Rattle.rules.specs.Outcomes.{Outcome}
use Rattle.rules.specs.Words.{without_method}
use Rattle.rules.specs.refusals.Outcomes.{reading}
use Rattle.rules.specs.world_state.Worlds.{State}
use Rattle.rules.specs.Purse.{deposit, get_alleged_brand, get_current_amount, withdraw}

-- the methods of purses that tell what they have, take and give
abbrev pub of_plain_purse : State → ℕ → List ℕ → List Tree → Outcome
of_plain_purse w n m args =
    if bytes_eq m (codes "getAllegedBrand") then reading (get_alleged_brand w n)
    else if bytes_eq m (codes "getCurrentAmount") then reading (get_current_amount w n)
    else if bytes_eq m (codes "deposit") then deposit w n args
    else if bytes_eq m (codes "withdraw") then withdraw w n args
    else without_method m

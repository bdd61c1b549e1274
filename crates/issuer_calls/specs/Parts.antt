-- Parts of the tables of methods, in the tables' order.
use Rattle.std.specs.Prelude.{ℕ, List, if◌then◌else◌, codes}
use Rattle.std.specs.Str.{bytes_eq}
use Rattle.host_data.specs.Tree.{Tree}
use Rattle.rules.specs.Outcomes.{Outcome}
use Rattle.rules.specs.Words.{without_method}
use Rattle.rules.specs.refusals.Outcomes.{reading}
use Rattle.rules.specs.world_state.Worlds.{State}
use Rattle.rules.specs.Issuer.{burn, get_brand, is_live, make_empty_purse}

-- the methods of issuers that tell of brands, open purses and burn
abbrev pub of_plain_issuer : State → ℕ → List ℕ → List Tree → Outcome
of_plain_issuer w n m args =
    if bytes_eq m (codes "getBrand") then reading (get_brand w n)
    else if bytes_eq m (codes "makeEmptyPurse") then make_empty_purse w n
    else if bytes_eq m (codes "isLive") then reading (is_live w n args)
    else if bytes_eq m (codes "burn") then burn w n args
    else without_method m

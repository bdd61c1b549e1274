-- Parts of the tables of methods, in the tables' order.
use Rattle.std.specs.Prelude.{ℕ, List, if◌then◌else◌, codes}
use Rattle.std.specs.Str.{bytes_eq}
use Rattle.host_data.specs.Tree.{Tree}
use Rattle.rules.specs.Outcomes.{Outcome}
use Rattle.rules.specs.Words.{without_method}
use Rattle.rules.specs.refusals.Outcomes.{reading}
use Rattle.rules.specs.world_state.Worlds.{State}
use Rattle.rules.specs.Seat.{get_offer_result, get_payout, get_payouts, has_exited, try_exit}

-- the methods of users' seats that tell of what is left of an offer, and leave
abbrev pub of_plain_seat : State → ℕ → List ℕ → List Tree → Outcome
of_plain_seat w n m args =
    if bytes_eq m (codes "hasExited") then reading (has_exited w n)
    else if bytes_eq m (codes "getPayouts") then reading (get_payouts w n)
    else if bytes_eq m (codes "getPayout") then reading (get_payout w n args)
    else if bytes_eq m (codes "getOfferResult") then reading (get_offer_result w n)
    else if bytes_eq m (codes "tryExit") then try_exit w n
    else without_method m

-- The room that touched seats need, which each have few slots.
use Rattle.std.specs.List.{All, list_all}
use Rattle.std.proofs.Common.{◌≡◌, ◌+◌, ◌≤◌, true, List, [], ◌∷◌, length, refl, ap}
use Rattle.std.proofs.lemmas.Bool.{and_from, le-leb}
use Rattle.std.proofs.lemmas.List.Elements.{All-head, All-tail}
use Rattle.rearrange.specs.Moves.{opened_by}
use Rattle.rearrange.specs.TestedPlans.{is_small}
use Rattle.rules.specs.proposals.Shares.{most_shares}
use Rattle.rules.specs.proposals.declared.plans.Touched.{Touched}
use Rattle.refusals.specs.Codes.{limit}
use Rattle.refusals.specs.Outcomes.{◌>>◌, bind, need}
use Rattle.rules.specs.States.{has_room, leaves_room}
use Rattle.rules.specs.world_state.Worlds.{State}

small_all : (ts : List Touched) → All (λ t. length t.after ≤ most_shares) ts → list_all is_small ts ≡ true
small_all [] all = refl
small_all (t ∷ ts) all =
    and_from (is_small t) (list_all is_small ts)
    (le-leb (length t.after) most_shares (All-head (λ (u : Touched). length u.after ≤ most_shares) t ts all))
    (small_all ts (All-tail (λ (u : Touched). length u.after ≤ most_shares) t ts all))

pub room_is : (w : State) (ts : List Touched) → All (λ t. length t.after ≤ most_shares) ts → has_room w ts 0 ≡ leaves_room w (opened_by ts + 0)
unfolding has_room bind need
room_is w ts all = ap (λ b. need b (limit most_shares) >> leaves_room w (opened_by ts + 0)) (small_all ts all)

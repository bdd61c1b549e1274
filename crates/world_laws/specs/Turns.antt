-- What a turn's laws speak of: all amounts that are known of a seat.
use Rattle.std.specs.Prelude.{◌≡◌, ℕ, All, List, [], ◌++◌, unwrap_or}
use Rattle.world_state.specs.amount_math.Amount.{Meet}
use Rattle.world_state.specs.proposals.declared.allocations.Share.{Share}
use Rattle.world_state.specs.Rights.{slots_at}
use Rattle.world_state.specs.Worlds.{State, seat_at, staged_at}

-- what a seat has, or had when it was left
abbrev pub allocation_at : State → ℕ → List Share
allocation_at w s = unwrap_or (seat_at w.seats s).last (slots_at w.rights.slots s)

abbrev pub staging_at : State → ℕ → List Share
staging_at w s = unwrap_or (staged_at w.staging s) []

-- what it has, what is staged of it, what it wants and what it gave
abbrev pub amounts_at : State → ℕ → List Share
amounts_at w s =
    let p = (seat_at w.seats s).proposal in
    allocation_at w s ++ staging_at w s ++ p.want ++ p.give

-- shares under one keyword are of one brand and kind
abbrev pub AgreeWith : List Share → Share → Type 0
AgreeWith shares r = All (λ x. x.keyword ≡ r.keyword → Meet x.amount r.amount) shares

abbrev pub Agree : List Share → Type 0
Agree shares = All (AgreeWith shares) shares

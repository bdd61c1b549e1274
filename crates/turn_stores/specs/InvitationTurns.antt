-- What contracts see of all invitations: those at the turn's start, and those of now.
use Rattle.std.specs.Prelude.{ℕ, List, [], map, take}
use Rattle.turn_stores.specs.Details.{DetailsView, details_view}
use Rattle.turn_stores.specs.declared.invitations.Invitations.{Invitations}

pub record InvitationsState : Type 0 where
  pub start : List DetailsView
  pub now : List DetailsView

-- the first k were there at the start
abbrev pub seen : ℕ → List DetailsView → InvitationsState
seen k now = record { start = take k now; now = now }

abbrev pub invitations_of : Invitations → InvitationsState
invitations_of i = seen i.kept (map details_view i.details.items)

-- there are none
abbrev pub untouched : InvitationsState
untouched = record { start = []; now = [] }

-- how it was is forgotten, and how it is
abbrev pub kept_at : InvitationsState → InvitationsState
kept_at i = record { start = i.now; now = i.now }

abbrev pub back_at : InvitationsState → InvitationsState
back_at i = record { start = i.start; now = i.start }

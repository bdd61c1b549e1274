-- A draft in the world's words: what it has of rights, of seats and of what is staged.
use Rattle.std.specs.Prelude.{◌≡◌, ℕ, suc, List, [], ◌∷◌, Option}
use Rattle.world_laws.specs.proposals.declared.allocations.Share.{Share}
use Rattle.world_laws.specs.vault_model.Seats.{KeptSeat}
use Rattle.world_laws.specs.Views.{rights_of, seats_of}
use Rattle.vault.specs.seats.Staging.{staged_at}
use Rattle.vault.specs.Drafts.{DraftState, HandGoes, IsClean}
use Rattle.world_laws.specs.world_state.Rights.{Rights}
use Rattle.world_laws.specs.world_state.Worlds.{Seat}

abbrev pub rights_in : DraftState → Rights
rights_in d = rights_of d.now

abbrev pub seats_in : DraftState → List Seat
seats_in d = seats_of d.now

-- what is staged of each seat, numbered from n
abbrev pub staged_from : ℕ → List KeptSeat → List (ℕ × List Share) → List (Option (List Share))
staged_from n [] staging = []
staged_from n (s ∷ ss) staging = staged_at n staging ∷ staged_from (suc n) ss staging

abbrev pub staging_in : DraftState → List (Option (List Share))
staging_in d = staged_from 0 d.now.seats d.staging

-- a draft has this of the world; nothing is in the hand, and nothing was given up
pub record HasNow (d : DraftState) (r : Rights) (seats : List Seat)
    (staging : List (Option (List Share))) : Type 0 where
  pub rights : rights_in d ≡ r
  pub seated : seats_in d ≡ seats
  pub staged : staging_in d ≡ staging
  pub clean : IsClean d

-- the turn's start is the same, and the draft can be undone: what was given up is what the hand has
pub record CanGoBack (old new : DraftState) : Type 0 where
  pub kept : new.kept ≡ old.kept
  pub goes : HandGoes new

-- An offer in a draft.
use Rattle.std.specs.Prelude.{◌≡◌, ℕ, [], ◌∷◌, ◌++◌, None}
use Rattle.register_effects.specs.draft_reads.Views.{HasNow, rights_in, seats_in, staging_in}
use Rattle.draft_effects.specs.Offers.{rights_opened, seats_opened}
use Rattle.register_effects.specs.vault.Drafts.{DraftState}
use Rattle.world_laws.specs.world_state.Good.{CanOffer}
use Rattle.world_laws.specs.world_state.Rights.{moved_together}
use Rattle.world_laws.specs.world_state.Worlds.{Offering, State, burn_and_escrows, offered_by}

-- it can be made in a world whose rights and seats a draft has, and is of an instance's invitation
pub record IsOffering (w : State) (d : DraftState) (instance : ℕ) (o : Offering) : Type 0 where
  pub rights : rights_in d ≡ w.rights
  pub seats : seats_in d ≡ w.seats
  pub instance_is : instance ≡ (offered_by w o).instance
  pub can : CanOffer w o

-- its seat is open, and its movements were made
abbrev pub HasOffered : DraftState → DraftState → ℕ → Offering → Type 0
HasOffered old new instance o = HasNow new
    (moved_together (rights_opened old o.proposal) (burn_and_escrows o))
    (seats_opened old instance o.proposal)
    (staging_in old ++ None ∷ [])

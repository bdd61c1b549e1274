-- What an offer needs of a draft: that its movements can be made once its seat is open.
use Rattle.std.specs.Prelude.{ℕ, List, [], ◌∷◌, ◌++◌, Option}
use Rattle.draft_reads.specs.Views.{rights_in, seats_in}
use Rattle.draft_reads.specs.world_state.Shapes.{AreMovements}
use Rattle.draft_reads.specs.proposals.declared.allocations.Share.{Share}
use Rattle.draft_reads.specs.proposals.declared.offers.Proposal.{Proposal}
use Rattle.draft_reads.specs.rights_model.declared.Movement.{Movement}
use Rattle.draft_reads.specs.vault.Drafts.{DraftState}
use Rattle.draft_reads.specs.world_state.Good.{CanMoveTogether}
use Rattle.draft_reads.specs.world_state.Rights.{Rights, with_slots}
use Rattle.draft_reads.specs.world_state.Worlds.{Seat, empty_slots, new_seat}

-- rights and seats once the seat is open
abbrev pub rights_opened : DraftState → Proposal → Rights
rights_opened d p = with_slots (rights_in d) (empty_slots p)

abbrev pub seats_opened : DraftState → ℕ → Proposal → List Seat
seats_opened d instance p = seats_in d ++ new_seat instance p ∷ []

-- the movements of an offer stand alone, and can be made in the open seat
pub record CanEscrow (d : DraftState) (instance : ℕ) (p : Proposal) (ms : List Movement) : Type 0 where
  pub staging : List (Option (List Share))
  pub shape : AreMovements ms
  pub can : CanMoveTogether (rights_opened d p) (seats_opened d instance p) staging ms

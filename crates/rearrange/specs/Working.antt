-- The working copy of transfers: what the seats have that were changed. Any other has what its state says.
use Rattle.std.specs.Prelude.{ℕ, ◌==◌, List, [], ◌∷◌, Option, find, IfSome, if◌then◌else◌}
use Rattle.std.specs.Global.{Vec}
use Rattle.std.specs.Option.{option_map_or}
use Rattle.proposals.specs.OfferSafety.{MeetSlots}
use Rattle.proposals.specs.declared.allocations.Share.{Share}
use Rattle.proposals.specs.declared.plans.SeatState.{SeatState}
use Rattle.proposals.specs.declared.plans.Transfer.{Transfer}
use Rattle.proposals.specs.Gains.{with_gains}
use Rattle.rearrange.specs.Safety.{MeetProposal}
use Rattle.rearrange.specs.Seats.{allocation_of, state_of}
use Rattle.rearrange.specs.Settled.{settled}
use Rattle.rearrange.specs.Transfers.{gains_of, losses_of, lowered_by, with_shares}
use Rattle.rearrange.specs.declared.sums.SeatShares.{SeatShares}

abbrev pub entry_of : List SeatShares → ℕ → Option SeatShares
entry_of list seat = find (λ s. s.seat == seat) list

abbrev pub shares_now : List SeatState → List SeatShares → ℕ → List Share
shares_now states list seat = option_map_or (λ s. s.shares.items) (entry_of list seat) (allocation_of states seat)

-- the same with other shares at a seat
abbrev pub put_shares : ℕ → Vec Share → List SeatShares → List SeatShares
put_shares seat shares [] = record { seat = seat; shares = shares } ∷ []
put_shares seat shares (s ∷ ss) = if s.seat == seat then record { seat = s.seat; shares = shares } ∷ ss else s ∷ put_shares seat shares ss

-- what each seat has once a transfer's gains are given
abbrev pub raised_by : (ℕ → List Share) → Transfer → ℕ → List Share
raised_by has t = with_shares t.to (λ seat. with_gains (has seat) (gains_of t)) has

-- amounts of a transfer are of one brand and kind with what the seats have then
pub record CanMeet (has : ℕ → List Share) (t : Transfer) : Type 0 where
  pub take : IfSome t.from (λ seat. MeetSlots (has seat) (losses_of t))
  pub give : IfSome t.to (λ seat. MeetSlots (lowered_by has t seat) (gains_of t))

-- and so are shares that a seat takes over, its slots and its proposal
pub record CanSettle (states : List SeatState) (shares : List Share) (seat : ℕ) : Type 0 where
  pub slots : MeetSlots shares (allocation_of states seat)
  pub proposal : IfSome (state_of states seat) (MeetProposal (settled (allocation_of states seat) shares))

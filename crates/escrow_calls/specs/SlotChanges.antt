-- What calls that change the slots of a seat read first: the seat, and the shares that the call gives.
use Rattle.std.specs.Prelude.{◌≡◌, ℕ, ◌<◌, List, length, Result, Ok}
use Rattle.contract_reads.specs.Calls.{FitSlots}
use Rattle.host_data.specs.Tree.{Tree}
use Rattle.refusals.specs.Outcomes.{◌>>=◌, ◌>>◌}
use Rattle.refusals.specs.declared.codes.Refusal.{Refusal}
use Rattle.rules.specs.Given.{is_misfit, issuers_of, own_seat, shares_at}
use Rattle.rules.specs.States.{allocation_of}
use Rattle.rules.specs.Words.{runs}
use Rattle.rules.specs.Zmint.{is_not_of, minting}
use Rattle.rules.specs.proposals.declared.allocations.Share.{Share}
use Rattle.rules.specs.world_state.Worlds.{State}

-- a seat with shares for it, or why the call is refused
abbrev pub SeatAndShares : Type 0
SeatAndShares = Result (ℕ × List Share) Refusal

-- of a deposit and of a withdrawal: an open seat of the instance's own, and shares of brands that it keeps
unfoldable pub seat_and_shares : State → ℕ → List Tree → SeatAndShares
seat_and_shares w i args = do
  runs w i
  seat ← own_seat w i 1 args
  shares ← shares_at (is_misfit (issuers_of w i) (allocation_of w seat)) 2 args
  Ok (seat, shares)

-- of a mint's calls: an open seat of the mint's instance, and shares of the mint's brand
unfoldable pub mint_seat_and_shares : State → ℕ → List Tree → SeatAndShares
mint_seat_and_shares w brand args = do
  runs w (minting w brand)
  seat ← own_seat w (minting w brand) 2 args
  shares ← shares_at (is_not_of brand (allocation_of w seat)) 1 args
  Ok (seat, shares)

-- the seat was made, the slots are its own, and the shares fit them
pub record IsOfSeat (w : State) (seat : ℕ) (slots shares : List Share) : Type 0 where
  pub made : seat < length w.seats
  pub own : slots ≡ allocation_of w seat
  pub fit : FitSlots slots shares

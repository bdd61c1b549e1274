-- The rules of mints by their parts: what is given, and what is left once that is read.
use Rattle.std.specs.Prelude.{ℕ, List, [], ◌∷◌, map, Ok}
use Rattle.rules.specs.proposals.Gains.{with_gains}
use Rattle.rules.specs.proposals.Losses.{with_losses}
use Rattle.rules.specs.call_arguments.Arguments.{arg}
use Rattle.rules.specs.Outcomes.{Outcome}
use Rattle.rules.specs.States.{allocation_of, changing, has_room, seat_of, touched_seat}
use Rattle.rules.specs.ertp_mint.BrandSupply.{supply_at}
use Rattle.host_data.specs.Tree.{Tree, null}
use Rattle.rules.specs.rearrange.Slots.{can_give, can_take, is_safe}
use Rattle.rules.specs.proposals.declared.allocations.Share.{Share}
use Rattle.refusals.specs.Codes.{not_offer_safe}
use Rattle.refusals.specs.Outcomes.{◌>>=◌, ◌>>◌, need}
use Rattle.rules.specs.Zmint.{gain, loss, values_of}
use Rattle.rules.specs.value_tests.Tests.{can_come_out}
use Rattle.rules.specs.value_tests.Totals.{total_of}
use Rattle.rules.specs.world_state.Worlds.{State}
use Rattle.escrow_calls.specs.SlotChanges.{mint_seat_and_shares}

-- what shares say is minted to slots
unfoldable pub mint_of_shares : State → ℕ → ℕ → List Share → List Share → Tree → Outcome
mint_of_shares w brand seat slots shares answer = do
  can_come_out (supply_at w.rights.out brand) (total_of (values_of shares))
  can_give slots shares
  has_room w (touched_seat seat slots (with_gains slots shares) ∷ []) 0
  Ok (answer, changing (seat ∷ []) (map (gain seat) shares))

-- and what they say is burned of slots
unfoldable pub burn_of_shares : State → ℕ → List Share → List Share → Outcome
burn_of_shares w seat slots shares = do
  can_take slots shares
  need (is_safe (seat_of w seat).proposal (with_losses slots shares)) (not_offer_safe seat)
  has_room w (touched_seat seat slots (with_losses slots shares) ∷ []) 0
  Ok (null, changing (seat ∷ []) (map (loss seat) shares))

-- the whole rules
unfoldable pub mint_outcome : State → ℕ → List Tree → Outcome
mint_outcome w brand args = do
  given ← mint_seat_and_shares w brand args
  mint_of_shares w brand given.0 (allocation_of w given.0) given.1 (arg 2 args)

unfoldable pub burn_outcome : State → ℕ → List Tree → Outcome
burn_outcome w brand args = do
  given ← mint_seat_and_shares w brand args
  burn_of_shares w given.0 (allocation_of w given.0) given.1

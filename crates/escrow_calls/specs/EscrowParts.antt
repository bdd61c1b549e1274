-- The rules of escrow by their parts: what is given, and what is left once that is read.
use Rattle.std.specs.Prelude.{ℕ, List, [], ◌∷◌, length, Ok}
use Rattle.rules.specs.proposals.Gains.{with_gains}
use Rattle.rules.specs.proposals.Losses.{with_losses}
use Rattle.rules.specs.Outcomes.{Outcome}
use Rattle.rules.specs.States.{allocation_of, changing, has_room, seat_of, touched_seat}
use Rattle.host_data.specs.Tree.{Tree, null}
use Rattle.rules.specs.rearrange.Slots.{can_take, each_passes, fits_slot, is_safe}
use Rattle.rules.specs.proposals.declared.allocations.Share.{Share}
use Rattle.refusals.specs.Codes.{not_offer_safe}
use Rattle.refusals.specs.Outcomes.{◌>>=◌, ◌>>◌, need}
use Rattle.rules.specs.GivenPayments.{escrows_of}
use Rattle.rules.specs.world_state.Worlds.{State, payments_tree, payout_moves}
use Rattle.escrow_calls.specs.PaymentParts.{given_payments}
use Rattle.escrow_calls.specs.SlotChanges.{seat_and_shares}

-- ---- deposits

-- payments in the record at the third place go to the slots of shares
unfoldable pub deposit_of_shares : State → ℕ → List Share → List Share → List Tree → Outcome
deposit_of_shares w seat slots shares args = do
  payments ← given_payments w shares args
  each_passes (fits_slot slots) shares
  has_room w (touched_seat seat slots (with_gains slots shares) ∷ []) 0
  Ok (null, changing (seat ∷ []) (escrows_of seat shares payments))

-- the whole rule
unfoldable pub deposit_outcome : State → ℕ → List Tree → Outcome
deposit_outcome w i args = do
  given ← seat_and_shares w i args
  deposit_of_shares w given.0 (allocation_of w given.0) given.1 args

-- ---- withdrawals

-- what shares say of slots goes to new payments, which leaves the seat's offer safe
unfoldable pub withdrawal_of_shares : State → ℕ → List Share → List Share → Outcome
withdrawal_of_shares w seat slots shares = do
  can_take slots shares
  need (is_safe (seat_of w seat).proposal (with_losses slots shares)) (not_offer_safe seat)
  has_room w (touched_seat seat slots (with_losses slots shares) ∷ []) (length shares)
  let first = length w.rights.payments
  Ok (payments_tree first shares, changing (seat ∷ []) (payout_moves seat first shares))

-- the whole rule
unfoldable pub withdrawal_outcome : State → ℕ → List Tree → Outcome
withdrawal_outcome w i args = do
  given ← seat_and_shares w i args
  withdrawal_of_shares w given.0 (allocation_of w given.0) given.1

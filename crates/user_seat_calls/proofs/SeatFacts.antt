-- In a good world each seat has its two promises, which were made; and what a promise was fulfilled with.
use Rattle.std.specs.Prelude.{is_none, is_some, not}
use Rattle.std.proofs.Common.{◌≡◌, ℕ, ◌<◌, Bool, true, false, List, length, Option, Some, None, refl, sym, arith}
use Rattle.rules.specs.actors.SeatPromises.{no_pair, pair_at}
use Rattle.rules.specs.promise_store.States.{SettlementView, broken, ok}
use Rattle.user_seat_calls.specs.Fulfilment.{fulfilment}
use Rattle.rules.specs.Seat.{fulfilled}
use Rattle.world_reads.proofs.world_laws.Lists.{all_read}
use Rattle.rules.specs.world_state.Good.{IsGoodWorld, IsPair}
use Rattle.rules.specs.world_state.Promises.{state_by}
use Rattle.rules.specs.world_state.Worlds.{State, promises_made}

pub left_or_open : {A : Type 0} (o : Option A) → not (is_none o) ≡ is_some o
left_or_open None = refl
left_or_open (Some x) = refl

pub seat_paired : (w : State) → IsGoodWorld w → (n : ℕ) → n < length w.seats → n < length w.pairs
seat_paired w good n made = omega (arith, good.seats.paired)

pair_is : (w : State) → IsGoodWorld w → (n : ℕ) → n < length w.seats → IsPair (promises_made w) (pair_at w.pairs n)
pair_is w good n made = all_read (IsPair (promises_made w)) w.pairs n no_pair good.paired (seat_paired w good n made)

pub payouts_made : (w : State) → IsGoodWorld w → (n : ℕ) → n < length w.seats → (pair_at w.pairs n).payouts < length w.promises.settled
payouts_made w good n made = (pair_is w good n made).payouts

-- ---- what a promise was fulfilled with

pub fulfilled_is : (s : Option SettlementView) (leads : Option ℕ) → fulfilled s ≡ fulfilment (state_by s leads)
fulfilled_is (Some (ok t)) leads = refl
fulfilled_is (Some (broken t)) leads = refl
fulfilled_is None None = refl
fulfilled_is None (Some q) = refl

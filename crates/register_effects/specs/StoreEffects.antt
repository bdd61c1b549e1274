-- What an effect makes of the stores that touch no rights.
use Rattle.std.specs.Prelude.{◌≡◌, ℕ, ◌+◌, ◌<◌, ◌++◌, ◌∷◌, [], List, Some, None, length}
use Rattle.std.specs.List.{AllByRecursion}
use Rattle.world_laws.specs.actors.declared.instance_store.seat_promises.SeatPair.{SeatPair}
use Rattle.world_laws.specs.turn_stores.Details.{details_at}
use Rattle.world_laws.specs.host_data.Tree.{Tree, null}
use Rattle.world_reads.specs.registers.RegisterStates.{RegisterState, registers_of}
use Rattle.world_reads.specs.registers.Stores.{registers_now}
use Rattle.world_reads.specs.registers.declared.Registers.{Registers}
use Rattle.world_laws.specs.promise_store.States.{ok}
use Rattle.world_laws.specs.proposals.declared.offers.Exit.{Exit}
use Rattle.world_laws.specs.rights_model.declared.Movement.{Movement}
use Rattle.world_laws.specs.turn_records.Deliveries as deliveries
use Rattle.world_laws.specs.turn_records.Deliveries.{Delivery, Notice}
use Rattle.world_laws.specs.turn_records.Events.{settled}
use Rattle.world_laws.specs.turn_rows.Turns.{Payout}
use Rattle.world_laws.specs.world_state.Good.{IsFollowing}
use Rattle.world_laws.specs.world_state.Promises.{PromiseBook, with_promise}
use Rattle.world_laws.specs.world_state.Rights.{Rights}
use Rattle.world_laws.specs.world_state.Worlds.{Effect, Seat, State, after, deadline_now, moves_out}
use Rattle.world_laws.specs.world_state.Worlds.{payouts_at, with_deadline}
use Rattle.world_reads.specs.host_world.Parts.{Staged, state_of}

-- whatever rights and seats there are beside, and whatever is staged, the effect makes the new of the old
abbrev pub Becomes : Registers → Registers → Effect → Type 0
Becomes old new e = (r : Rights) (seats : List Seat) (staging : Staged)
    → state_of r seats staging (registers_now new) ≡ after (state_of r seats staging (registers_now old)) e

-- the new stores are those of the world after the effect, beside whatever rights and seats there are that are so
abbrev pub IsAfterWhere : (State → Type 0) → Registers → Registers → Effect → Type 0
IsAfterWhere P old new e = (r : Rights) (seats : List Seat) (staging : Staged)
    → P (state_of r seats staging (registers_now old))
    → registers_now new ≡ registers_of (after (state_of r seats staging (registers_now old)) e)

-- ---- offers and exits

-- how many promises were made; the promises that the next seat gets
abbrev pub promises_in : RegisterState → ℕ
promises_in p = length p.promises.settled

abbrev pub next_of : RegisterState → SeatPair
next_of p = record { «result» = promises_in p; payouts = promises_in p + 1 }

-- what goes to the handler of an invitation, for a seat
abbrev pub call_of : RegisterState → ℕ → ℕ → Tree → Delivery
call_of p seat invitation arguments = deliveries.offer (record {
  instance = (details_at p.invitations invitation).instance;
  seat = seat;
  function = (details_at p.invitations invitation).handler;
  offer_arguments = arguments;
  held = (details_at p.invitations invitation).held;
  promise = promises_in p;
})

-- an offer's seat has its promises, its handler is to be called, and its deadline waits
abbrev pub queued : RegisterState → ℕ → ℕ → Exit → Tree → RegisterState
queued p seat invitation rule arguments = record p {
  promises = with_promise None (with_promise None p.promises);
  pairs = p.pairs ++ next_of p ∷ [];
  schedule = with_deadline rule seat p.schedule;
  waiting = p.waiting
      ++ call_of p seat invitation arguments ∷ deadline_now rule seat p.schedule;
}

-- the deadline of an exit rule waits for a seat
abbrev pub waited : Exit → ℕ → RegisterState → RegisterState
waited rule seat p = record p {
  schedule = with_deadline rule seat p.schedule;
  waiting = p.waiting ++ deadline_now rule seat p.schedule;
}

-- the next promise is made, settled with null, and told
abbrev pub with_null_promise : RegisterState → RegisterState
with_null_promise p = record p {
  promises = with_promise (Some (ok null)) p.promises;
  log = p.log ++ settled (promises_in p) (ok null) ∷ [];
}

-- a seat of an instance's own has its promises, of which the first is settled with null, and that is told
abbrev pub with_settled_pair : RegisterState → RegisterState
with_settled_pair p = record p {
  promises = with_promise None (with_promise (Some (ok null)) p.promises);
  pairs = p.pairs ++ next_of p ∷ [];
  log = p.log ++ settled (promises_in p) (ok null) ∷ [];
}

-- promises that are followed, and those that somebody is to be told of, were made
pub record AreMade (b : PromiseBook) : Type 0 where
  pub followed : AllByRecursion (IsFollowing (length b.settled)) b.follows
  pub asked : AllByRecursion (λ (n : Notice). n.promise < length b.settled) b.requests

-- a seat's payouts, and the movements that pay it out
pub record IsPaid (w : State) (seat : ℕ) (payouts : List Payout) (moves : List Movement) : Type 0 where
  pub payouts_are : payouts ≡ payouts_at w seat
  pub moves_are : moves ≡ moves_out w seat

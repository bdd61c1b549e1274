-- What a turn that spends its meter leaves of the world: it is that at the turn's start with the
-- delivery taken, but for the halt of the instance whose function ran, the exits of its open
-- seats with what their slots had, the breaking of the delivery's promise, and what these
-- settlements append (Zoe; eventual send; the meter is our own).
use Rattle.std.specs.Prelude.{◌≡◌, ◌⊎◌, ℕ, ◌+◌, nat_lt, is_none, if◌then◌else◌}
use Rattle.std.specs.Prelude.{Bool, List, [], ◌∷◌, ◌++◌, length, map, Option, Some, None}
use Rattle.std.specs.List.{AllByRecursion, filter, flat_map}
use Rattle.fair_laws.specs.actors.SeatPromises.{pair_at}
use Rattle.fair_laws.specs.actors.Tables.{with_halted}
use Rattle.fair_laws.specs.world_state.promise_store.Linked.{LeadsTo}
use Rattle.fair_laws.specs.world_state.promise_store.States.{SettlementView, broken, ok}
use Rattle.fair_laws.specs.world_state.proposals.Slots.{emptied}
use Rattle.fair_laws.specs.world_state.proposals.declared.allocations.Share.{Share}
use Rattle.fair_laws.specs.world_state.refusals.Codes.{refusal_tree}
use Rattle.fair_laws.specs.world_state.refusals.Codes as codes
use Rattle.fair_laws.specs.delivery_turns.Hosts.{HostState, Step}
use Rattle.fair_laws.specs.rules.Traces.{all_open}
use Rattle.fair_laws.specs.world_state.turn_records.Deliveries.{Delivery, Notice, notify}
use Rattle.fair_laws.specs.world_state.turn_records.Deliveries.{promise_of}
use Rattle.fair_laws.specs.world_state.turn_records.Events.{Answer, Event, Leaving, called}
use Rattle.fair_laws.specs.world_state.turn_records.Events.{exited, moves_in, opened, spent}
use Rattle.fair_laws.specs.world_state.turn_rows.Causes as causes
use Rattle.fair_laws.specs.world_state.Promises.{PromiseBook, asks, settlement_at}
use Rattle.fair_laws.specs.world_state.Rights.{slots_at}
use Rattle.fair_laws.specs.world_state.Worlds.{State, behind, left_seat, paid_out, payments_tree}
use Rattle.fair_laws.specs.world_state.Worlds.{payout_moves, payouts_from, seat_at, staged_at}
use Rattle.licence_laws.specs.Came.{runs_in}

-- ---- seats that are left

abbrev pub IsOneOf : ℕ → List ℕ → Type 0
IsOneOf s [] = ⊥
IsOneOf s (n ∷ ns) = (n ≡ s) ⊎ IsOneOf s ns

-- what their slots have, seat after seat
abbrev pub slots_of : State → List ℕ → List Share
slots_of w seats = flat_map (slots_at w.rights.slots) seats

-- the payment for the first slot of one of them: those that were made come before it, and those
-- for the slots of the seats before it
abbrev pub first_payout : State → List ℕ → ℕ → ℕ
first_payout w seats s =
    length w.rights.payments + length (slots_of w (filter (λ n. nat_lt n s) seats))

-- The seats are left, by number, with what their slots had, and each slot went whole to a
-- payment of its own.
pub record AreLeft (w v : State) (seats : List ℕ) : Type 0 where
  -- each seat has exited, with what its slots had; of all others it is the same
  pub left : (s : ℕ) → IsOneOf s seats
      → seat_at v.seats s ≡ left_seat (seat_at w.seats s) (slots_at w.rights.slots s)
  pub others : (s : ℕ) → (IsOneOf s seats → ⊥) → seat_at v.seats s ≡ seat_at w.seats s
  -- its slots have nothing now; those of all others what they had
  pub empty : (s : ℕ) → IsOneOf s seats
      → slots_at v.rights.slots s ≡ map emptied (slots_at w.rights.slots s)
  pub kept : (s : ℕ) → (IsOneOf s seats → ⊥)
      → slots_at v.rights.slots s ≡ slots_at w.rights.slots s
  -- behind the payments that there were stands one for each slot
  pub payments : v.rights.payments ≡ w.rights.payments ++ map paid_out (slots_of w seats)
  -- no seat was opened
  pub as_many : length v.seats ≡ length w.seats
  pub slotted : length v.rights.slots ≡ length w.rights.slots

-- ---- promises that are settled

-- what the promise of the payouts of one of these seats is settled with, and what follows it
pub record IsByExit (w : State) (seats : List ℕ) (q : ℕ) (u : SettlementView) : Type 0 where
  pub seat : ℕ
  pub left : IsOneOf seat seats
  pub leads : LeadsTo w.promises.follows (pair_at w.pairs seat).payouts q
  pub given : u ≡ ok (payments_tree (first_payout w seats seat) (slots_at w.rights.slots seat))

-- what the promise of a delivery is settled with whose turn spent the meter, and what follows it
pub record IsBySpentMeter (w : State) (own : Option ℕ) (meter : ℕ) (q : ℕ) (u : SettlementView)
    : Type 0 where
  pub promise : ℕ
  pub is : own ≡ Some promise
  pub leads : LeadsTo w.promises.follows promise q
  pub given : u ≡ broken (refusal_tree (codes.spent meter))

-- Promises are settled as it is said, and no others.
pub record AreSettled (b c : PromiseBook) (says : ℕ → SettlementView → Type 0) : Type 0 where
  -- each is settled with what is said, and wasn't before; of all others it is the same
  pub settled : (q : ℕ) (u : SettlementView) → says q u → settlement_at c.settled q ≡ Some u
  pub first : (q : ℕ) (u : SettlementView) → says q u → settlement_at b.settled q ≡ None
  pub others : (q : ℕ) → ((u : SettlementView) → says q u → ⊥)
      → settlement_at c.settled q ≡ settlement_at b.settled q
  -- no promise was made, and none came to follow another
  pub made : length c.settled ≡ length b.settled
  pub follows : c.follows ≡ b.follows

-- whether a promise isn't settled
abbrev pub is_unsettled : PromiseBook → ℕ → Bool
is_unsettled b q = is_none (settlement_at b.settled q)

-- Who asked for promises that are settled then is told, and no one else.
pub record AreTold (b c : PromiseBook) (before after : List Delivery) : Type 0 where
  -- notices wait behind all that waited
  pub told : List Notice
  pub waiting : after ≡ before ++ map notify told
  -- of each promise that is settled all who asked for it are told, in that order; of others none
  pub each : (q : ℕ)
      → filter (asks q) told ≡ (if is_unsettled c q then [] else filter (asks q) b.requests)
  -- those who asked for others still are to be told
  pub left : c.requests ≡ filter (λ n. is_unsettled c n.promise) b.requests

-- ---- the world

-- What the function did is taken back: its promises, sends, offers, brands, purses, invitations,
-- facets, labels and wakeups are not in the world, so the numbers that were given to them are
-- given again
pub record IsTakenBack (w v : State) (i : ℕ) (own : Option ℕ) (meter : ℕ) : Type 0 where
  -- the same brands with their makers, purses with what they have, and as much is out of each
  -- brand
  pub brands : v.brands ≡ w.brands
  pub makers : v.makers ≡ w.makers
  pub purses : v.rights.purses ≡ w.rights.purses
  pub out : v.rights.out ≡ w.rights.out
  -- the same invitations, facets and labels
  pub invitations : v.invitations ≡ w.invitations
  pub facets : v.facets ≡ w.facets
  pub labels : v.labels ≡ w.labels
  -- the same time, and the same waits for a time
  pub schedule : v.schedule ≡ w.schedule
  -- the instance has halted, with the state values that it had; the same of all others
  pub tables : v.tables ≡ with_halted i w.tables
  -- its open seats are left
  pub seats : AreLeft w v (all_open w i)
  -- the same promises of each seat; nothing is staged
  pub pairs : v.pairs ≡ w.pairs
  pub staging : (s : ℕ) → staged_at v.staging s ≡ None
  -- their payouts and the delivery's own promise are settled
  pub promises : AreSettled w.promises v.promises
      (λ q u. IsByExit w (all_open w i) q u ⊎ IsBySpentMeter w own meter q u)
  -- behind what waited wait the notices of these settlements, and nothing else
  pub told : AreTold w.promises v.promises w.waiting v.waiting
  -- what happened is told by the turn's record alone
  pub log : v.log ≡ []

-- ---- the turn's rows

-- how an exit is told
abbrev pub exit_told : State → List ℕ → ℕ → Leaving
exit_told w seats s = record {
  seat = s;
  cause = causes.spent;
  payouts = payouts_from (first_payout w seats s) (slots_at w.rights.slots s);
}

abbrev pub exit_in : Event → List Leaving
exit_in (exited l) = l ∷ []
exit_in _ = []

-- it tells neither of a call nor of a seat that was opened
abbrev pub IsNoCall : Event → Type 0
IsNoCall (called c) = ⊥
IsNoCall (opened o) = ⊥
IsNoCall _ = Unit {0}

-- A turn tells the exits of these seats, with settlements, and nothing else.
pub record TellsExits (w : State) (seats : List ℕ) (es : List Event) : Type 0 where
  -- no call, no seat that was opened
  pub quiet : AllByRecursion IsNoCall es
  -- the exits of these seats, by number, for the spent meter, and no others
  pub exits : flat_map exit_in es ≡ map (exit_told w seats) seats
  -- what they were paid out, and no other movement
  pub moves : moves_in es ≡ flat_map
      (λ s. payout_moves s (first_payout w seats s) (slots_at w.rights.slots s)) seats

-- ---- steps

-- A function of an instance spent the host's meter.
pub record IsSpentTurn (s : HostState) (step : Step) (meter : ℕ) : Type 0 where
  -- the instance whose function the turn ran
  pub instance : ℕ
  pub ran : runs_in (behind s.world) step.turn.delivery step.turn.reading ≡ Some instance
  pub host : meter ≡ s.meter
  -- what it did is taken back, of the world behind the delivery
  pub back : IsTakenBack (behind s.world) step.next.world instance
      (promise_of step.turn.delivery) meter
  -- the turn tells of the exits alone
  pub rows : TellsExits (behind s.world) (all_open (behind s.world) instance) step.turn.events

-- whichever kind of function ran
abbrev pub IsTakenBackWhere : Answer → HostState → Step → Type 0
IsTakenBackWhere (spent meter) s step = IsSpentTurn s step meter
IsTakenBackWhere _ s step = Unit {0}

abbrev pub SpentIsTakenBack : HostState → Step → Type 0
SpentIsTakenBack s step = IsTakenBackWhere step.turn.answer s step

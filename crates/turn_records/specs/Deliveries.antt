-- What is delivered: what waits in the queue, and what is read for it when its turn comes.
use Rattle.std.specs.Prelude.{ℕ, List, Option, Some, None}
use Rattle.refusals.specs.host_data.Tree.{Tree}
use Rattle.refusals.specs.host_data.declared.data.Obj.{Obj}
use Rattle.promise_store.specs.States.{SettlementView}
use Rattle.refusals.specs.declared.codes.Refusal.{Refusal}
use Rattle.turn_records.specs.Messages.{LineGift, LineCall}

-- who calls: a party by its name, or an instance by its number
pub data Actor : Type 0 where
  party : List ℕ → Actor
  instance : ℕ → Actor

-- a call that an instance sends: the target, which may be a promise, and the promise of the answer
pub record Send : Type 0 where
  pub instance : ℕ
  pub target : Obj
  pub method : List ℕ
  pub arguments : List Tree
  pub promise : ℕ

-- the start of an instance, and the promise of what it gives
pub record Start : Type 0 where
  pub instance : ℕ
  pub private_arguments : Tree
  pub promise : ℕ

-- an offer for the handler of its invitation, with what is held for the handler, and the promise of its result
pub record Offer : Type 0 where
  pub instance : ℕ
  pub seat : ℕ
  pub function : List ℕ
  pub offer_arguments : Tree
  pub held : Tree
  pub promise : ℕ

-- a function that is to be called at a time, with what is held for it
pub record Wakeup : Type 0 where
  pub instance : ℕ
  pub function : List ℕ
  pub held : Tree

-- a function that is to be called once a promise is settled, with what is held for it, and the promise of its result
pub record Notice : Type 0 where
  pub instance : ℕ
  pub promise : ℕ
  pub function : List ℕ
  pub held : Tree
  pub answer : ℕ

-- a line asks for a call, gives something, sets the timer or is refused; an instance sends a call; an instance starts; an offer comes to its handler; a function is woken, or notified; the deadline of a seat has come
pub data Delivery : Type 0 where
  call : LineCall → Delivery
  give : LineGift → Delivery
  tick : ℕ → Delivery
  bad : Refusal → Delivery
  send : Send → Delivery
  start : Start → Delivery
  offer : Offer → Delivery
  wake : Wakeup → Delivery
  notify : Notice → Delivery
  deadline : ℕ → Delivery

-- the promise that a delivery settles when its turn is over
abbrev pub promise_of : Delivery → Option ℕ
promise_of (send s) = Some s.promise
promise_of (start s) = Some s.promise
promise_of (offer o) = Some o.promise
promise_of (notify n) = Some n.answer
promise_of _ = None

-- what is read for a delivery when its turn comes: nothing; of a call and of a send the target with its arguments, if it isn't refused before; what is given; the time at which a function is woken; what a promise was settled with
pub data Reading : Type 0 where
  nothing : Reading
  target : Obj → List Tree → Reading
  gift : Tree → Reading
  time : ℕ → Reading
  settlement : SettlementView → Reading

abbrev pub IsCallReading : Reading → Type 0
IsCallReading nothing = Unit {0}
IsCallReading (target o args) = Unit {0}
IsCallReading _ = ⊥

abbrev pub IsGiftReading : Reading → Type 0
IsGiftReading nothing = Unit {0}
IsGiftReading (gift t) = Unit {0}
IsGiftReading _ = ⊥

abbrev pub IsTimeReading : Reading → Type 0
IsTimeReading (time t) = Unit {0}
IsTimeReading _ = ⊥

abbrev pub IsSettlementReading : Reading → Type 0
IsSettlementReading (settlement s) = Unit {0}
IsSettlementReading _ = ⊥

abbrev pub IsNoReading : Reading → Type 0
IsNoReading nothing = Unit {0}
IsNoReading _ = ⊥

-- which may be read for which
abbrev pub IsReadFor : Delivery → Reading → Type 0
IsReadFor (call c) r = IsCallReading r
IsReadFor (send s) r = IsCallReading r
IsReadFor (give g) r = IsGiftReading r
IsReadFor (wake w) r = IsTimeReading r
IsReadFor (notify n) r = IsSettlementReading r
IsReadFor _ r = IsNoReading r

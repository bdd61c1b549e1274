-- Promises by number, who follows whom, and who waits to be told; and what settling one comes to.
use Rattle.std.specs.Prelude.{◌≡◌, ℕ, zero, suc, ◌==◌, if◌then◌else◌, Bool, not}
use Rattle.std.specs.Prelude.{List, [], ◌∷◌, ◌++◌, length, map, slice_index_or, slice_set}
use Rattle.std.specs.Prelude.{Option, Some, None, IsSome}
use Rattle.std.specs.List.{filter, flat_map}
use Rattle.vault_model.specs.host_data.Tree.{null, object}
use Rattle.vault_model.specs.host_data.declared.data.Obj.{Obj}
use Rattle.turn_records.specs.promise_store.Linked.{followers, leader}
use Rattle.turn_records.specs.promise_store.States.{SettlementView, StateView, ok, broken, pending, follows}
use Rattle.turn_records.specs.promise_store.States.{settled as has_settled, is_promise_kind}
use Rattle.turn_records.specs.promise_store.declared.links.Following.{Following}
use Rattle.turn_records.specs.Deliveries.{Delivery, Notice, notify}
use Rattle.turn_records.specs.Events as events
use Rattle.turn_records.specs.Events.{Event}

-- what each promise was settled with, if it was; who follows whom, the latest first; and, in the
-- order in which they came, the functions that are to be told of a promise that isn't settled
pub record PromiseBook : Type 0 where
  pub settled : List (Option SettlementView)
  pub follows : List Following
  pub requests : List Notice

-- what is read of a promise that was not made: it counts as settled
abbrev pub no_promise : Option SettlementView
no_promise = Some (broken null)

-- what a promise was settled with
abbrev pub settlement_at : List (Option SettlementView) → ℕ → Option SettlementView
settlement_at ss n = slice_index_or ss n no_promise

abbrev pub WasSettled : Option SettlementView → Type 0
WasSettled s = IsSome s

abbrev pub state_by : Option SettlementView → Option ℕ → StateView
state_by (Some s) leads = has_settled s
state_by None (Some q) = follows q
state_by None None = pending

abbrev pub state_of : PromiseBook → ℕ → StateView
state_of b n = state_by (settlement_at b.settled n) (leader b.follows n)

-- a promise was made, isn't settled, and follows none
pub record IsPending (b : PromiseBook) (p : ℕ) : Type 0 where
  pub unsettled : settlement_at b.settled p ≡ None
  pub alone : leader b.follows p ≡ None

abbrev pub with_promise : Option SettlementView → PromiseBook → PromiseBook
with_promise s b = record b { settled = b.settled ++ s ∷ [] }

-- ---- settling

-- what settling a promise comes to, in order: promises are settled, and those who wait are told
pub data CascadeStep : Type 0 where
  settles : ℕ → CascadeStep
  notifies : ℕ → CascadeStep

-- a promise is settled, then what follows it, each with all that hangs on it, then those are told
-- that wait for it. No chain of following is longer than n
abbrev pub cascade : ℕ → List Following → ℕ → List CascadeStep
cascade zero fs p = settles p ∷ notifies p ∷ []
cascade (suc n) fs p =
    settles p ∷ flat_map (λ q. cascade n fs q) (followers fs p) ++ notifies p ∷ []

-- what it changes
pub record Flow : Type 0 where
  pub settled : List (Option SettlementView)
  pub requests : List Notice
  pub waiting : List Delivery
  pub log : List Event

abbrev pub asks : ℕ → Notice → Bool
asks p n = n.promise == p

abbrev pub stepped : SettlementView → CascadeStep → Flow → Flow
stepped v (settles p) f = record f {
  settled = slice_set f.settled p (Some v);
  log = f.log ++ events.settled p v ∷ [];
}
stepped v (notifies p) f = record f {
  requests = filter (λ n. not (asks p n)) f.requests;
  waiting = f.waiting ++ map notify (filter (asks p) f.requests);
}

abbrev pub all_stepped : SettlementView → List CascadeStep → Flow → Flow
all_stepped v [] f = f
all_stepped v (s ∷ ss) f = all_stepped v ss (stepped v s f)

-- the promise that a settlement names: it is followed
abbrev pub named_by : Obj → Option ℕ
named_by o = if is_promise_kind o.kind then Some o.number else None

abbrev pub target_of : SettlementView → Option ℕ
target_of (ok (object o)) = named_by o
target_of (ok t) = None
target_of (broken t) = None

-- promises, and what waits and what was told beside them
pub record Resolved : Type 0 where
  pub promises : PromiseBook
  pub waiting : List Delivery
  pub log : List Event

abbrev pub flowing : PromiseBook → List Delivery → List Event → Flow
flowing b waiting log = record {
  settled = b.settled;
  requests = b.requests;
  waiting = waiting;
  log = log;
}

abbrev pub as_resolved : List Following → Flow → Resolved
as_resolved fs f = record {
  promises = record { settled = f.settled; follows = fs; requests = f.requests };
  waiting = f.waiting;
  log = f.log;
}

-- a promise is settled for good
abbrev pub settling : ℕ → SettlementView → PromiseBook → List Delivery → List Event → Resolved
settling p v b waiting log =
    let steps = cascade (length b.settled) b.follows p in
    as_resolved b.follows (all_stepped v steps (flowing b waiting log))

-- a promise follows another: it is settled at once where that one is
abbrev pub following : Option SettlementView → ℕ → ℕ → PromiseBook
    → List Delivery → List Event → Resolved
following (Some v) p q b waiting log = settling p v b waiting log
following None p q b waiting log = record {
  promises = record b { follows = record { promise = p; target = q } ∷ b.follows };
  waiting = waiting;
  log = log;
}

abbrev pub resolving_to : Option ℕ → ℕ → SettlementView → PromiseBook
    → List Delivery → List Event → Resolved
resolving_to None p v b waiting log = settling p v b waiting log
resolving_to (Some q) p v b waiting log = following (settlement_at b.settled q) p q b waiting log

-- a promise is resolved
abbrev pub resolving : ℕ → SettlementView → PromiseBook → List Delivery → List Event → Resolved
resolving p v b waiting log = resolving_to (target_of v) p v b waiting log

-- a function asks to be told of a promise: at once where that is settled
abbrev pub asking : Option SettlementView → Notice → PromiseBook → PromiseBook
asking (Some v) n b = b
asking None n b = record b { requests = b.requests ++ n ∷ [] }

abbrev pub told_at_once : Option SettlementView → Notice → List Delivery
told_at_once (Some v) n = notify n ∷ []
told_at_once None n = []

-- What a store of promises is to the world: a book of promises.
use Rattle.std.specs.Prelude.{◌≡◌, ℕ, zero, suc, ◌<◌, List, [], ◌∷◌, ◌++◌, Bool, Option, None, Some, is_none, length, map, option_map, slice_index_or}
use Rattle.std.specs.List.{AllByRecursion, filter}
use Rattle.world_state.specs.host_data.Tree.{null}
use Rattle.world_state.specs.promise_store.Cascade.{settled_in}
use Rattle.world_state.specs.promise_store.Linked.{IsForest, IsInOrder, LeadsTo, Linked, settlement_of}
use Rattle.world_state.specs.promise_store.States.{SettlementView, settlement_at as with_number}
use Rattle.world_state.specs.promise_store.declared.links.Consequence.{Consequence}
use Rattle.world_state.specs.promise_store.declared.links.Consequence.TheVariants.{Notified, Settled}
use Rattle.world_state.specs.promise_store.declared.links.Following.{Following}
use Rattle.world_state.specs.promise_store.declared.links.Outcome.{Outcome}
use Rattle.world_state.specs.turn_records.Deliveries.{Delivery, Notice, notify}
use Rattle.world_state.specs.turn_records.Events as told
use Rattle.world_state.specs.Promises.{PromiseBook}

-- what f gives of the numbers below n, in order
abbrev pub listed : {X : Type 0} → (ℕ → X) → ℕ → List X
listed f zero = []
listed f (suc n) = listed f n ++ f n ∷ []

-- what promise n was settled with, if it was
abbrev pub settled_with : List Outcome → List SettlementView → ℕ → Option SettlementView
settled_with os vs n = option_map (with_number vs) (settlement_of os n)

-- the promise that a request asks for isn't settled
abbrev pub is_asking : List Outcome → Notice → Bool
is_asking os r = is_none (settlement_of os r.promise)

-- The book of these links, settlements by number and requests by number. A request stays until its
-- promise is settled.
abbrev pub book_by : Linked → List SettlementView → List Notice → PromiseBook
book_by l vs rs = record {
  settled = listed (settled_with l.outcomes vs) l.made;
  follows = l.follows;
  requests = filter (is_asking l.outcomes) rs;
}

-- the promise that a request asks for
abbrev pub asked_for : Notice → ℕ
asked_for r = r.promise

-- promises that follow were made
abbrev pub IsFollowerMade : ℕ → Following → Type 0
IsFollowerMade made f = f.promise < made

-- what was settled was made, with a settlement that is there
pub record IsOutcomeMade (made settlements : ℕ) (o : Outcome) : Type 0 where
  pub promise : o.promise < made
  pub settlement : o.settlement < settlements

-- What holds of them: no promise leads to itself, none is settled before what it follows, and each
-- request says which promise it asks for.
pub record IsBooked (l : Linked) (vs : List SettlementView) (rs : List Notice) : Type 0 where
  pub forest : IsForest l.follows
  pub order : IsInOrder l.follows l.outcomes
  pub followers : AllByRecursion (IsFollowerMade l.made) l.follows
  pub outcomes : AllByRecursion (IsOutcomeMade l.made (length vs)) l.outcomes
  pub asked : map asked_for rs ≡ l.asked

-- no request
abbrev pub no_notice : Notice
no_notice = record { instance = 0; promise = 0; function = []; held = null; answer = 0 }

-- the request of a number
abbrev pub notice_at : List Notice → ℕ → Notice
notice_at rs n = slice_index_or rs n no_notice

-- the requests that are answered among what comes of settling, in order
abbrev pub answered_in : List Notice → List Consequence → List Notice
answered_in rs [] = []
answered_in rs (Settled p ∷ es) = answered_in rs es
answered_in rs (Notified p r ∷ es) = notice_at rs r ∷ answered_in rs es

-- what waits once these are answered, and what is told once those are settled
abbrev pub queued : List Notice → List Consequence → List Delivery → List Delivery
queued rs es ds = ds ++ map notify (answered_in rs es)

abbrev pub told_of : SettlementView → ℕ → told.Event
told_of v p = told.settled p v

abbrev pub recorded : SettlementView → List Consequence → List told.Event → List told.Event
recorded v es log = log ++ map (told_of v) (settled_in es)

-- the requests that are answered are there
abbrev pub IsRequestIn : ℕ → Consequence → Type 0
IsRequestIn n (Settled p) = Unit {0}
IsRequestIn n (Notified p r) = r < n

abbrev pub AreRequestsIn : ℕ → List Consequence → Type 0
AreRequestsIn n es = AllByRecursion (IsRequestIn n) es

-- a promise that is resolved to another would follow itself
abbrev pub ComesRound : List Following → ℕ → Option ℕ → Type 0
ComesRound fs p None = ⊥
ComesRound fs p (Some t) = LeadsTo fs p t

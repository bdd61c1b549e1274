-- What contracts see of the store, and of a promise's state.
use Rattle.std.specs.Prelude.{◌≡◌, ℕ, List, map, take}
use Rattle.promise_store.specs.declared.links.Following.{Following}
use Rattle.promise_store.specs.declared.settlement.Settlement.{Settlement}
use Rattle.promise_store.specs.declared.store.Promises.{Promises}
use Rattle.promise_store.specs.declared.store.State.{State}
use Rattle.promise_store.specs.declared.store.State.TheVariants.{Pending, Follows, Settled}
use Rattle.promise_store.specs.Linked.{Linked, LinkedTurn}
use Rattle.promise_store.specs.States.{StateView, pending, follows, settled, settlement_view}
use Rattle.promise_store.specs.Turns.{Store, Turn, changed}

abbrev pub state_view : State → StateView
state_view Pending = pending
state_view (Follows q) = follows q
state_view (Settled s) = settled (settlement_view s.now)

abbrev pub turn_of : {R : Type 0} → LinkedTurn → List R → List Settlement → ℕ → ℕ → Turn R
turn_of l es ss e k = record {
  start = record { links = l.start; entries = take e es; settlements = take k (map settlement_view ss) };
  now = record { links = l.now; entries = es; settlements = map settlement_view ss };
}

abbrev pub promises_of : {R : Type 0} → Promises R → Turn R
promises_of p = turn_of p.links p.entries.items p.settlements.items p.kept_entries p.kept_settlements

-- as it is now
abbrev pub now_of : {R : Type 0} → Promises R → Store R
now_of p = (promises_of p).now

abbrev pub links_now : {R : Type 0} → Promises R → Linked
links_now p = (now_of p).links

abbrev pub follows_now : {R : Type 0} → Promises R → List Following
follows_now p = (links_now p).follows

-- the new ones are the old ones, where what is now is changed
abbrev pub Becomes : {R : Type 0} → (Store R → Store R) → Promises R → Promises R → Type 0
Becomes f old new = promises_of new ≡ changed f (promises_of old)

-- What a store of promises and a queue are to the world: a book, and what waits beside it.
use Rattle.std.specs.Prelude.{Bool, true, false, List, map}
use Rattle.world_state.specs.promise_store.States.{StateView, follows, pending, settled}
use Rattle.world_state.specs.promise_store.Turns.{Store, Turn}
use Rattle.world_state.specs.promise_store.declared.links.Consequence.{Consequence}
use Rattle.world_state.specs.turn_records.Views.{delivery_view, notice_view}
use Rattle.world_state.specs.turn_records.declared.deliveries.Delivery as code
use Rattle.world_state.specs.turn_records.declared.deliveries.Notice.{Notice}
use Rattle.world_state.specs.turn_records.Deliveries as deliveries
use Rattle.world_state.specs.turn_records.Events as events
use Rattle.world_state.specs.Promises.{PromiseBook, Resolved}
use Rattle.registers.specs.Books.{IsBooked, book_by, queued, recorded}

abbrev pub notice_views : List Notice → List deliveries.Notice
notice_views rs = map notice_view rs

-- the book of a store of promises
abbrev pub book_of : Store Notice → PromiseBook
book_of s = book_by s.links s.settlements (notice_views s.entries)

-- the book of the turn's start, and that of now
pub record Books : Type 0 where
  pub start : PromiseBook
  pub now : PromiseBook

abbrev pub books_of : Turn Notice → Books
books_of t = record { start = book_of t.start; now = book_of t.now }

abbrev pub book_now : Turn Notice → PromiseBook
book_now t = (books_of t).now

abbrev pub book_before : Turn Notice → PromiseBook
book_before t = (books_of t).start

-- what holds of a store
abbrev pub IsStoreBooked : Store Notice → Type 0
IsStoreBooked s = IsBooked s.links s.settlements (notice_views s.entries)

pub record AreBooked (t : Turn Notice) : Type 0 where
  pub start : IsStoreBooked t.start
  pub now : IsStoreBooked t.now

-- deliveries, as the world sees them
abbrev pub waiting_of : List code.Delivery → List deliveries.Delivery
waiting_of ds = map delivery_view ds

-- a book, with what waits and what was told beside it
abbrev pub beside : PromiseBook → List deliveries.Delivery → List events.Event → Resolved
beside b ds es = record { promises = b; waiting = ds; log = es }

-- what waits and what is told after these, where a promise is settled; else all stays
abbrev pub waits_after : StateView → List deliveries.Notice → List Consequence
    → List deliveries.Delivery → List deliveries.Delivery
waits_after (settled v) rs es ds = queued rs es ds
waits_after pending rs es ds = ds
waits_after (follows q) rs es ds = ds

abbrev pub told_after : StateView → List Consequence → List events.Event → List events.Event
told_after (settled v) es log = recorded v es log
told_after pending es log = log
told_after (follows q) es log = log

abbrev pub has_settled : StateView → Bool
has_settled (settled v) = true
has_settled pending = false
has_settled (follows q) = false

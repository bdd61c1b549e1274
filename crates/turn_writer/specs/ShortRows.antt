-- Rows that readers of journals take: without its line feed none is longer than 2^26 bytes. And how many bytes a
-- row has at least, told by the data in it alone.
use Rattle.std.specs.Prelude.{◌≤◌, ◌+◌, ◌-◌, ◌^◌, ◌||◌, ℕ, Bool, List, length, nat_le, nat_lt, Option, Some, None, if◌then◌else◌}
use Rattle.std.specs.List.{AllByRecursion, list_any}
use Rattle.serde_json.specs.Data.{Data}
use Rattle.serde_json.specs.Written.{compact_text}
use Rattle.turn_records.specs.Deliveries.{Delivery, offer, tick, Reading, gift, nothing, settlement, target, time}
use Rattle.turn_records.specs.Events.{Answer, given, refused, spent, threw, Event, called, exited, moved, opened, settled}
use Rattle.turn_records.specs.Printed.{trees_of}
use Rattle.turn_records.specs.Printable.{most_nested}
use Rattle.turn_records.specs.Turns.{Turn}
use Rattle.turn_records.specs.host_data.Tree.{Ordered, OrderedItems, Tree, items_size, nesting, size}
use Rattle.turn_records.specs.host_data.View.{items_of}
use Rattle.turn_records.specs.promise_store.States.{SettlementView, broken, ok}
use Rattle.turn_rows.specs.Rows.{rows_of}
use Rattle.turn_rows.specs.Texts.{journal_rows}
use Rattle.turn_rows.specs.Turns as rows
use Rattle.turn_rows.specs.declared.editions.Edition.{Edition}

abbrev pub most_row : ℕ
most_row = 2 ^ 26

abbrev pub IsShortRow : Data → Type 0
IsShortRow row = length (compact_text row) ≤ most_row

abbrev pub HasShortRows : Edition → rows.Turn → Type 0
HasShortRows e t = AllByRecursion IsShortRow (rows_of e t)

-- the journal of turns, with so many deliveries left
abbrev pub HasShortJournal : Edition → List rows.Turn → ℕ → Type 0
HasShortJournal e ts left = AllByRecursion IsShortRow (journal_rows e ts left)

-- ---- by the sizes of data

-- what is left of so many bytes, where they are enough
abbrev pub left_after : ℕ → ℕ → Option ℕ
left_after left n = if nat_le n left then Some (left - n) else None

abbrev pub answer_size : Answer → ℕ
answer_size (given t) = size t
answer_size (refused r) = 0
answer_size (threw t) = size t
answer_size (spent meter) = 0

abbrev pub settled_tree : SettlementView → Tree
settled_tree (ok t) = t
settled_tree (broken t) = t

-- what nests too deep to be told is printed as null
abbrev pub told_size : Tree → ℕ
told_size t = if nat_lt (nesting t) most_nested then size t else 0

abbrev pub reading_size : Reading → ℕ
reading_size nothing = 0
reading_size (target o args) = items_size (items_of args)
reading_size (gift t) = size t
reading_size (time t) = 0
reading_size (settlement s) = told_size (settled_tree s)

abbrev pub arguments_size : Delivery → Reading → ℕ
arguments_size (offer o) r = size o.offer_arguments
arguments_size (tick t) r = 0
arguments_size _ r = reading_size r

abbrev pub turn_row_size : Turn → ℕ
turn_row_size t = arguments_size t.delivery t.reading + answer_size t.answer

abbrev pub event_size : Event → ℕ
event_size (called c) = items_size (items_of c.arguments) + answer_size c.answer
event_size (opened o) = 0
event_size (moved m) = 0
event_size (exited x) = 0
event_size (settled n s) = size (settled_tree s)

abbrev pub is_long_event : Event → Bool
is_long_event e = nat_lt most_row (event_size e)

-- the data in a row of it take more bytes than a row may have
abbrev pub has_long_row : Turn → Bool
has_long_row t = nat_lt most_row (turn_row_size t) || list_any is_long_event t.events

-- ---- data whose records have their fields in order, each name once

abbrev pub HasAnswerInOrder : Answer → Type 0
HasAnswerInOrder (given t) = Ordered t
HasAnswerInOrder (refused r) = Unit {0}
HasAnswerInOrder (threw t) = Ordered t
HasAnswerInOrder (spent meter) = Unit {0}

abbrev pub HasEventInOrder : Event → Type 0
HasEventInOrder (called c) = OrderedItems (items_of c.arguments) × HasAnswerInOrder c.answer
HasEventInOrder (settled n s) = Ordered (settled_tree s)
HasEventInOrder _ = Unit {0}

pub record HasDataInOrder (t : Turn) : Type 0 where
  pub arguments : OrderedItems (items_of (trees_of t.delivery t.reading))
  pub answer : HasAnswerInOrder t.answer
  pub events : AllByRecursion HasEventInOrder t.events

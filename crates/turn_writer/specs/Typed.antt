-- What the code's types give of a turn: numbers within their bits, keywords and labels, texts in UTF-8, values
-- of their kinds, and all that refusals show.
use Rattle.std.specs.Prelude.{◌≡◌, ◌<◌, ◌^◌, ℕ, true, List, Option, Some, None}
use Rattle.std.specs.List.{AllByRecursion}
use Rattle.std.specs.Str.{IsUtf8}
use Rattle.turn_rows.specs.host_text.Words.{is_label}
use Rattle.turn_records.specs.host_data.Nodes.{EachNode, NodeFact}
use Rattle.turn_records.specs.Printable.{IsNumber}
use Rattle.turn_records.specs.host_data.Tree.{Tree, number, text, object}
use Rattle.turn_records.specs.host_data.declared.data.Obj.{Obj}
use Rattle.turn_records.specs.promise_store.States.{SettlementView, broken, ok}
use Rattle.turn_records.specs.refusals.Codes.{shown_by, shown_trees}
use Rattle.turn_rows.specs.Form.{HasSumForm, objects_end}
use Rattle.turn_records.specs.Deliveries.{Delivery, call, give, tick, bad, send, start, offer, wake, notify, deadline, Reading, target, gift, settlement}
use Rattle.turn_records.specs.Events.{Answer, given, refused, threw, spent, Call, Event, called, opened, moved, exited, settled, Opening}
use Rattle.turn_records.specs.Tellable.{ArePrintable, IsTellableExit, IsTellableMovement, IsTellableShare}
use Rattle.turn_records.specs.Turns.{Turn}

-- ---- data

-- a number has 128 bits, a text is in UTF-8, the number of an object has 32 bits
abbrev pub HasNodeTypes : NodeFact
HasNodeTypes n (number z) = IsNumber z
HasNodeTypes n (text s) = IsUtf8 s
HasNodeTypes n (object o) = o.number < objects_end
HasNodeTypes n _ = Unit {0}

-- at each node, however deep the data stands
abbrev pub HasDataTypes : Tree → Type 0
HasDataTypes t = (n : ℕ) → EachNode HasNodeTypes n t

abbrev pub HaveDataTypes : List Tree → Type 0
HaveDataTypes ts = AllByRecursion HasDataTypes ts

abbrev pub HasFieldTypes : List ℕ × Tree → Type 0
HasFieldTypes f = HasDataTypes f.1

abbrev pub HasSettlementTypes : SettlementView → Type 0
HasSettlementTypes (ok t) = HasDataTypes t
HasSettlementTypes (broken t) = HasDataTypes t

-- what a refusal shows is printable without more
abbrev pub HasAnswerTypes : Answer → Type 0
HasAnswerTypes (given t) = HasDataTypes t
HasAnswerTypes (refused r) = ArePrintable (shown_trees (shown_by r))
HasAnswerTypes (threw t) = HasDataTypes t
HasAnswerTypes (spent meter) = meter < 2 ^ 64

-- ---- what is delivered

abbrev pub IsLabel : List ℕ → Type 0
IsLabel s = is_label s ≡ true

abbrev pub HasOfferTypes : ℕ → ℕ → Tree → Type 0
HasOfferTypes instance seat t = (instance < objects_end) × (seat < objects_end) × HasDataTypes t

abbrev pub HasDeliveryTypes : Delivery → Type 0
HasDeliveryTypes (call c) = IsLabel c.by × IsUtf8 c.method
HasDeliveryTypes (give g) = IsLabel g.by × IsLabel g.to × IsLabel g.label × IsUtf8 g.label
HasDeliveryTypes (tick t) = Unit {0}
HasDeliveryTypes (bad refusal) = Unit {0}
HasDeliveryTypes (send s) = (s.instance < objects_end) × IsUtf8 s.method
HasDeliveryTypes (start s) = s.instance < objects_end
HasDeliveryTypes (offer o) = HasOfferTypes o.instance o.seat o.offer_arguments
HasDeliveryTypes (wake w) = w.instance < objects_end
HasDeliveryTypes (notify n) = (n.instance < objects_end) × (n.promise < objects_end)
HasDeliveryTypes (deadline seat) = seat < objects_end

abbrev pub HasReadingTypes : Reading → Type 0
HasReadingTypes (target o args) = (o.number < objects_end) × HaveDataTypes args
HasReadingTypes (gift t) = HasDataTypes t
HasReadingTypes (settlement s) = HasSettlementTypes s
HasReadingTypes _ = Unit {0}

-- ---- what happens

abbrev pub HasTargetType : Option Obj → Type 0
HasTargetType (Some o) = o.number < objects_end
HasTargetType None = Unit {0}

pub record HasCallTypes (c : Call) : Type 0 where
  pub on : HasTargetType c.on
  pub method : IsUtf8 c.method
  pub arguments : HaveDataTypes c.arguments
  pub answer : HasAnswerTypes c.answer

pub record HasOpeningTypes (o : Opening) : Type 0 where
  pub seat : o.seat < objects_end
  pub instance : o.instance < objects_end
  pub give : AllByRecursion IsTellableShare o.proposal.give
  pub want : AllByRecursion IsTellableShare o.proposal.want

abbrev pub HasEventTypes : Event → Type 0
HasEventTypes (called c) = HasCallTypes c
HasEventTypes (opened o) = HasOpeningTypes o
HasEventTypes (moved m) = IsTellableMovement m
HasEventTypes (exited x) = IsTellableExit x
HasEventTypes (settled n s) = (n < objects_end) × HasSettlementTypes s

pub record HasTypes (t : Turn) : Type 0 where
  pub number : t.number < 2 ^ 64
  pub delivery : HasDeliveryTypes t.delivery
  pub reading : HasReadingTypes t.reading
  pub answer : HasAnswerTypes t.answer
  pub events : AllByRecursion HasEventTypes t.events
  pub sums : AllByRecursion HasSumForm t.sums

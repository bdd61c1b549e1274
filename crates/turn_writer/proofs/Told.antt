-- What the types give and what is shown beside them is all that is needed for a turn that can be told.
use Rattle.std.proofs.Common.{ℕ, All, map, List, [], ◌∷◌, Option, Some, None, refl, arith}
use Rattle.std.proofs.lemmas.List.Elements.{recursion_from_All}
use Rattle.std.specs.List.{AllByRecursion}
use Rattle.std.specs.Str.{IsUtf8}
use Rattle.turn_records.specs.host_data.Tree.{Tree}
use Rattle.turn_records.specs.host_data.declared.data.Obj.{Obj}
use Rattle.turn_records.specs.promise_store.States.{SettlementView, broken, ok}
use Rattle.turn_rows.proofs.HostForms.{host_answer, host_call}
use Rattle.turn_rows.specs.Form.{IsParty, MayStand, may_call}
use Rattle.turn_rows.specs.HostForms.{runs_function}
use Rattle.turn_rows.specs.Kinds as kinds
use Rattle.turn_rows.specs.Kinds.{How, Kind}
use Rattle.turn_rows.specs.Turns as rows
use Rattle.turn_records.specs.Deliveries.{Delivery, call, give, tick, bad, send, start, offer, wake, notify, deadline, Reading, nothing, target, gift, time, settlement}
use Rattle.turn_records.specs.Events.{Answer, given, refused, threw, spent, Call, Event, called, opened, moved, exited, settled}
use Rattle.turn_records.specs.Printed.{kind_of, notice_tree, printed_answer, printed_event, read_trees, trees_of}
use Rattle.turn_records.specs.Tellable.{ArePrintable, IsObjectCalled, IsTellable, IsTellableAnswer, IsTellableCall, IsTellableDelivery, IsTellableEvent, IsTellableReading, IsTellableSettlement, IsTold}
use Rattle.turn_records.specs.Turns.{Turn}
use Rattle.turn_writer.specs.Printing.{CanPrint, CanPrintAll, CanPrintAnswer, CanPrintCall, CanPrintDelivery, CanPrintEvent, CanPrintObject, CanPrintReading, CanPrintSettlement, CanPrintTarget, IsOfNoInstance}
use Rattle.turn_writer.specs.Typed.{HasAnswerTypes, HasCallTypes, HasDeliveryTypes, HasEventTypes, HasReadingTypes, HasSettlementTypes, HasTargetType, HasTypes, IsLabel}
use Rattle.turn_writer.proofs.Nodes.{all_form, data_form, notice_typed, numbered}

party : (s : List ℕ) → IsLabel s → IsOfNoInstance s → IsParty s
party s label free = rw (label, free) refl

delivery_told : (d : Delivery) → HasDeliveryTypes d → CanPrintDelivery d → IsTellableDelivery d
delivery_told (call c) h f = (party c.by h.0 f, h.1)
delivery_told (give g) h f = (party g.by h.0 f.0, party g.to h.1 f.1, h.2, h.3)
delivery_told (tick t) h f = f
delivery_told (bad refusal) h f = tt
delivery_told (send s) h f = h
delivery_told (start s) h f = h
delivery_told (offer o) h f = (h.0, h.1, f)
delivery_told (wake w) h f = (h, f)
delivery_told (notify n) h f = (h.0, h.1, f)
delivery_told (deadline seat) h f = h

answer_told : (a : Answer) → HasAnswerTypes a → CanPrintAnswer a → IsTellableAnswer a
answer_told (given t) h f = data_form t h f
answer_told (refused r) h f = h
answer_told (threw t) h f = data_form t h f
answer_told (spent meter) h f = h

settlement_told : (s : SettlementView) → HasSettlementTypes s → CanPrintSettlement s → IsTellableSettlement s
settlement_told (ok t) h f = data_form t h f
settlement_told (broken t) h f = data_form t h f

reading_told : (r : Reading) → HasReadingTypes r → CanPrintReading r → IsTellableReading r
reading_told nothing h f = tt
reading_told (target o args) h f = numbered o.kind o.number h.0 f
reading_told (gift t) h f = tt
reading_told (time t) h f = f
reading_told (settlement s) h f = tt

-- ---- arguments

read_told : (r : Reading) → HasReadingTypes r → CanPrintReading r → CanPrintAll (read_trees r) → ArePrintable (read_trees r)
read_told nothing h f k = tt
read_told (target o args) h f k = all_form args h.1 k
read_told (gift t) h f k = (data_form t h k.0, tt)
read_told (time t) h f k = (omega (arith, f), tt)
read_told (settlement s) h f k = (data_form (notice_tree s) (notice_typed s h) k.0, tt)

arguments_told : (d : Delivery) (r : Reading) → HasDeliveryTypes d → HasReadingTypes r → CanPrintDelivery d → CanPrintReading r → CanPrintAll (trees_of d r) → ArePrintable (trees_of d r)
arguments_told (offer o) r h g f e k = (data_form o.offer_arguments h.2 k.0, tt)
arguments_told (tick t) r h g f e k = (omega (arith, f), tt)
arguments_told _ r h g f e k = read_told r g e k

-- ---- events

object_told : (on : Option Obj) → HasTargetType on → CanPrintObject on → IsObjectCalled on
object_told (Some o) h f = numbered o.kind o.number h f
object_told None h f = absurd f

target_told : (how : How) (on : Option Obj) (method : List ℕ) (args : List Tree) → HasTargetType on → IsUtf8 method → CanPrintTarget how on method args → IsTold how on method args
target_told kinds.calls on method args h text f = (object_told on h f, text)
target_told kinds.sends on method args h text f = (object_told on h f, text)
target_told kinds.when (Some o) method args h text f =
    record { promise = o.number; below = h; is = λ i. Some (record { kind = f.0 i; number = o.number }); named = f.1; one = f.2 }
target_told kinds.when None method args h text f = absurd f.0
target_told kinds.far on method args h text f = record { none = f.0; text = text; two = f.1 }

call_told : (c : Call) → HasCallTypes c → CanPrintCall c → IsTellableCall c
call_told c h f = record {
  called = target_told c.how c.on c.method c.arguments h.on h.method f.called;
  arguments = all_form c.arguments h.arguments f.arguments;
  answered = f.answered;
  answer = answer_told c.answer h.answer f.answer;
}

event_told : (e : Event) → HasEventTypes e → CanPrintEvent e → IsTellableEvent e
event_told (called c) h f = call_told c h f
event_told (opened o) h f = record { seat = h.seat; instance = h.instance; give = h.give; want = h.want; apart = f.apart; rule = f.rule }
event_told (moved m) h f = h
event_told (exited x) h f = h
event_told (settled n s) h f = (h.0, settlement_told s h.1 f)

events_told : (es : List Event) → AllByRecursion HasEventTypes es → AllByRecursion CanPrintEvent es → AllByRecursion IsTellableEvent es
events_told [] h f = tt
events_told (e ∷ es) h f = (event_told e h.0 f.0, events_told es h.1 f.1)

calls_told : (k : Kind) (a : rows.Answer) (es : List Event) → AllByRecursion (λ e. MayStand (runs_function k a) (printed_event e)) es → AllByRecursion (λ e. MayStand (may_call a) (printed_event e)) es
calls_told k a [] h = tt
calls_told k a (e ∷ es) h = (host_call k a (printed_event e) h.0, calls_told k a es h.1)

pub turn_told : (t : Turn) → HasTypes t → CanPrint t → IsTellable t
turn_told t h f = record {
  number = h.number;
  read = f.read;
  delivery = delivery_told t.delivery h.delivery f.delivery;
  reading = reading_told t.reading h.reading f.reading;
  arguments = arguments_told t.delivery t.reading h.delivery h.reading f.delivery f.reading f.arguments;
  answered = host_answer (kind_of t.delivery t.reading) (printed_answer t.answer) f.answered;
  answer = answer_told t.answer h.answer f.answer;
  events = events_told t.events h.events f.events;
  calls = calls_told (kind_of t.delivery t.reading) (printed_answer t.answer) t.events f.calls;
  sums = h.sums;
}

-- ---- lists as they are seen

pub each_by : {A B : Type 0} (P : B → Type 0) (view : A → B) (xs : List A) → AllByRecursion (λ x. P (view x)) xs → AllByRecursion P (map view xs)
each_by P view [] h = tt
each_by P view (x ∷ xs) h = (h.0, each_by P view xs h.1)

pub each_view : {A B : Type 0} (P : B → Type 0) (view : A → B) (xs : List A) → All (λ x. P (view x)) xs → AllByRecursion P (map view xs)
each_view P view xs h = each_by P view xs (recursion_from_All (λ x. P (view x)) xs h)

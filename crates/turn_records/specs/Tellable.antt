-- Turns that a journal can print in form: their texts, numbers, values and data are such as rows may have.
use Rattle.std.specs.Prelude.{◌≡◌, ◌<◌, ◌^◌, ℕ, true, List, length, Option, Some, None}
use Rattle.std.specs.List.{AllByRecursion}
use Rattle.std.specs.Str.{IsUtf8}
use Rattle.turn_rows.specs.host_text.Words.{is_field_name, is_keyword, is_label}
use Rattle.turn_rows.specs.amount_math.ValueView.{IsValue, ValueView}
use Rattle.turn_records.specs.Names.{numbers_end}
use Rattle.turn_records.specs.Printable.{IsPrintable}
use Rattle.turn_records.specs.Values.{HasTexts}
use Rattle.refusals.specs.host_data.Tree.{Tree}
use Rattle.refusals.specs.host_data.declared.data.Obj.{Obj}
use Rattle.refusals.specs.host_data.declared.data.ObjKind.TheVariants.{Promise}
use Rattle.promise_store.specs.States.{SettlementView, broken, ok}
use Rattle.proposals.specs.Shares.{amount_under}
use Rattle.proposals.specs.declared.allocations.Share.{Share}
use Rattle.proposals.specs.declared.offers.Exit as offered
use Rattle.proposals.specs.declared.offers.Exit.TheVariants.{AfterDeadline, OnDemand, Waived}
use Rattle.refusals.specs.Codes.{shown_by, shown_trees}
use Rattle.turn_rows.specs.rights_model.declared.Movement.{Movement}
use Rattle.turn_rows.specs.Form.{HasHolderForm, HasSumForm, IsAnswerOf, IsCallAnswer, IsParty, MayStand, brands_end, may_call, objects_end, times_end}
use Rattle.turn_rows.specs.Kinds as kinds
use Rattle.turn_rows.specs.Kinds.{How}
use Rattle.turn_rows.specs.Turns.{Payout}
use Rattle.turn_records.specs.Deliveries.{Delivery, call, give, tick, bad, send, start, offer, wake, notify, deadline, IsReadFor, Reading, target, time}
use Rattle.turn_records.specs.Events.{Answer, given, refused, threw, spent, Call, Event, called, opened, moved, exited, settled, Leaving, Opening}
use Rattle.turn_records.specs.Printed.{kind_of, object, printed_answer, printed_event, trees_of}
use Rattle.turn_records.specs.Turns.{Turn}

-- ---- data and answers

abbrev pub ArePrintable : List Tree → Type 0
ArePrintable ts = AllByRecursion IsPrintable ts

abbrev pub IsNumberedObject : Obj → Type 0
IsNumberedObject o = o.number < numbers_end o.kind

abbrev pub IsFunctionText : List ℕ → Type 0
IsFunctionText name = is_field_name name ≡ true

abbrev pub IsTellableAnswer : Answer → Type 0
IsTellableAnswer (given t) = IsPrintable t
IsTellableAnswer (refused r) = ArePrintable (shown_trees (shown_by r))
IsTellableAnswer (threw t) = IsPrintable t
IsTellableAnswer (spent meter) = meter < 2 ^ 64

-- a value that rows may have
pub record IsTellableValue (w : ValueView) : Type 0 where
  pub value : IsValue w.kind w.content
  pub texts : HasTexts w.content

-- ---- what is delivered

-- the target of a call that came to one, the time at which a function is woken
abbrev pub IsTellableReading : Reading → Type 0
IsTellableReading (target o args) = IsNumberedObject o
IsTellableReading (time t) = t < times_end
IsTellableReading _ = Unit {0}

abbrev pub IsTellableDelivery : Delivery → Type 0
IsTellableDelivery (call c) = IsParty c.by × IsUtf8 c.method
IsTellableDelivery (send s) = (s.instance < objects_end) × IsUtf8 s.method
IsTellableDelivery (give g) = IsParty g.by × IsParty g.to × (is_label g.label ≡ true) × IsUtf8 g.label
IsTellableDelivery (tick t) = t < times_end
IsTellableDelivery (bad refusal) = Unit {0}
IsTellableDelivery (start s) = s.instance < objects_end
IsTellableDelivery (offer o) = (o.instance < objects_end) × (o.seat < objects_end) × IsFunctionText o.function
IsTellableDelivery (wake w) = (w.instance < objects_end) × IsFunctionText w.function
IsTellableDelivery (notify n) = (n.instance < objects_end) × (n.promise < objects_end) × IsFunctionText n.function
IsTellableDelivery (deadline seat) = seat < objects_end

-- ---- calls of contracts

abbrev pub IsObjectCalled : Option Obj → Type 0
IsObjectCalled (Some o) = IsNumberedObject o
IsObjectCalled None = ⊥

-- a function is to be called once a promise is settled, with the data that is held for it
pub record IsAsked (on : Option Obj) (function : List ℕ) (arguments : List Tree) : Type 0 where
  pub promise : ℕ
  pub below : promise < objects_end
  pub is : on ≡ Some (object Promise promise)
  pub named : IsFunctionText function
  pub one : length arguments ≡ 1

-- a facet is made on nothing, with its methods and the data that is held for them
pub record IsMadeFar (on : Option Obj) (name : List ℕ) (arguments : List Tree) : Type 0 where
  pub none : on ≡ None
  pub text : IsUtf8 name
  pub two : length arguments ≡ 2

abbrev pub IsTold : How → Option Obj → List ℕ → List Tree → Type 0
IsTold kinds.calls on method args = IsObjectCalled on × IsUtf8 method
IsTold kinds.sends on method args = IsObjectCalled on × IsUtf8 method
IsTold kinds.when on method args = IsAsked on method args
IsTold kinds.far on method args = IsMadeFar on method args

pub record IsTellableCall (c : Call) : Type 0 where
  pub called : IsTold c.how c.on c.method c.arguments
  pub arguments : ArePrintable c.arguments
  pub answered : IsCallAnswer (printed_answer c.answer)
  pub answer : IsTellableAnswer c.answer

-- ---- events

pub record IsTellableShare (r : Share) : Type 0 where
  pub keyword : is_keyword r.keyword ≡ true
  pub brand : r.amount.brand < brands_end
  pub value : IsTellableValue r.amount.value

abbrev pub IsTellableRule : offered.Exit → Type 0
IsTellableRule OnDemand = Unit {0}
IsTellableRule Waived = Unit {0}
IsTellableRule (AfterDeadline t) = t < times_end

pub record IsTellableOpening (o : Opening) : Type 0 where
  pub seat : o.seat < objects_end
  pub instance : o.instance < objects_end
  pub give : AllByRecursion IsTellableShare o.proposal.give
  pub want : AllByRecursion IsTellableShare o.proposal.want
  pub apart : AllByRecursion (λ (r : Share). amount_under r.keyword o.proposal.want ≡ None) o.proposal.give
  pub rule : IsTellableRule o.proposal.exit

pub record IsTellableMovement (m : Movement) : Type 0 where
  pub brand : m.brand < brands_end
  pub from : HasHolderForm m.from
  pub to : HasHolderForm m.to
  pub value : IsTellableValue m.value

abbrev pub IsTellablePayout : Payout → Type 0
IsTellablePayout p = (is_keyword p.keyword ≡ true) × (p.payment < objects_end)

pub record IsTellableExit (x : Leaving) : Type 0 where
  pub seat : x.seat < objects_end
  pub payouts : AllByRecursion IsTellablePayout x.payouts

abbrev pub IsTellableSettlement : SettlementView → Type 0
IsTellableSettlement (ok t) = IsPrintable t
IsTellableSettlement (broken t) = IsPrintable t

abbrev pub IsTellableEvent : Event → Type 0
IsTellableEvent (called c) = IsTellableCall c
IsTellableEvent (opened o) = IsTellableOpening o
IsTellableEvent (moved m) = IsTellableMovement m
IsTellableEvent (exited x) = IsTellableExit x
IsTellableEvent (settled n s) = (n < objects_end) × IsTellableSettlement s

-- ---- turns

-- what its kind may have, and what is told of it
pub record IsTellable (t : Turn) : Type 0 where
  pub number : t.number < 2 ^ 64
  pub read : IsReadFor t.delivery t.reading
  pub delivery : IsTellableDelivery t.delivery
  pub reading : IsTellableReading t.reading
  pub arguments : ArePrintable (trees_of t.delivery t.reading)
  pub answered : IsAnswerOf (kind_of t.delivery t.reading) (printed_answer t.answer)
  pub answer : IsTellableAnswer t.answer
  pub events : AllByRecursion IsTellableEvent t.events
  pub calls : AllByRecursion (λ e. MayStand (may_call (printed_answer t.answer)) (printed_event e)) t.events
  pub sums : AllByRecursion HasSumForm t.sums

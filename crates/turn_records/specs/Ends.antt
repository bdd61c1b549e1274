-- With which answers the turn of a delivery can end.
use Rattle.std.specs.Prelude.{◌≡◌, ℕ}
use Rattle.refusals.specs.host_data.Tree.{null}
use Rattle.refusals.specs.host_data.declared.data.ObjKind.{ObjKind}
use Rattle.refusals.specs.host_data.declared.data.ObjKind.TheVariants.{Facet}
use Rattle.refusals.specs.declared.codes.Refusal.TheVariants.{Backwards}
use Rattle.turn_records.specs.Deliveries.{Delivery, call, give, tick, bad, send, start, offer, wake, notify, deadline, Reading, target, gift}
use Rattle.turn_records.specs.Events.{Answer, given, refused, spent, Event, called}
use Rattle.turn_records.specs.Printed.{kind_of, printed_answer, printed_event}
use Rattle.turn_rows.specs.Form.{MayStand}
use Rattle.turn_rows.specs.HostForms.{IsHostAnswerOf, runs_function}

abbrev pub IsRefused : Answer → Type 0
IsRefused (refused r) = Unit {0}
IsRefused _ = ⊥

abbrev pub IsAnswered : Answer → Type 0
IsAnswered (given t) = Unit {0}
IsAnswered (refused r) = Unit {0}
IsAnswered _ = ⊥

-- a method of a facet can come to any end, as a function does; another call is answered or refused
abbrev pub CanEndOn : ObjKind → Answer → Type 0
CanEndOn Facet a = Unit {0}
CanEndOn _ a = IsAnswered a

-- what came to no target was refused
abbrev pub CanEndCall : Reading → Answer → Type 0
CanEndCall (target o args) a = CanEndOn o.kind a
CanEndCall _ a = IsRefused a

abbrev pub CanEndGift : Reading → Answer → Type 0
CanEndGift (gift t) a = a ≡ given null
CanEndGift _ a = IsRefused a

-- the time is set, or the timer would go back to it
abbrev pub CanEndTick : ℕ → Answer → Type 0
CanEndTick t (given d) = d ≡ null
CanEndTick t (refused (Backwards now earlier)) = earlier ≡ t
CanEndTick t _ = ⊥

-- a function of a contract can come to any end
abbrev pub CanEnd : Delivery → Reading → Answer → Type 0
CanEnd (call c) r a = CanEndCall r a
CanEnd (send s) r a = CanEndCall r a
CanEnd (give g) r a = CanEndGift r a
CanEnd (tick t) r a = CanEndTick t a
CanEnd (bad refusal) r a = a ≡ refused refusal
CanEnd (deadline seat) r a = a ≡ given null
CanEnd _ r a = Unit {0}

-- the answer, as it is printed, is one that the host gives in a turn of the kind
abbrev pub FitsKind : Delivery → Reading → Answer → Type 0
FitsKind d r a = IsHostAnswerOf (kind_of d r) (printed_answer a)

-- ---- calls of the host

abbrev pub IsOfFacet : ObjKind → Type 0
IsOfFacet Facet = Unit {0}
IsOfFacet _ = ⊥

abbrev pub IsFacetCalled : Reading → Type 0
IsFacetCalled (target o args) = IsOfFacet o.kind
IsFacetCalled _ = ⊥

-- a turn of the delivery runs a function of a contract
abbrev pub RunsFunction : Delivery → Reading → Type 0
RunsFunction (call c) r = IsFacetCalled r
RunsFunction (send s) r = IsFacetCalled r
RunsFunction (start s) r = Unit {0}
RunsFunction (offer o) r = Unit {0}
RunsFunction (wake w) r = Unit {0}
RunsFunction (notify n) r = Unit {0}
RunsFunction _ r = ⊥

abbrev pub IsUnspent : Answer → Type 0
IsUnspent (spent meter) = ⊥
IsUnspent _ = Unit {0}

-- a call of the host is told only where a function was run that didn't spend its meter
abbrev pub CanTell : Delivery → Reading → Answer → Event → Type 0
CanTell d r a (called c) = RunsFunction d r × IsUnspent a
CanTell d r a _ = Unit {0}

-- the event, as it is printed, is one that the host tells in a turn of the kind
abbrev pub StandsIn : Delivery → Reading → Answer → Event → Type 0
StandsIn d r a e = MayStand (runs_function (kind_of d r) (printed_answer a)) (printed_event e)

-- whatever can be told stands there
abbrev pub AllStand : Delivery → Reading → Answer → Type 0
AllStand d r a = (e : Event) → CanTell d r a e → StandsIn d r a e

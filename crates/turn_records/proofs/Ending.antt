-- What a turn can end with is an answer that its kind may have.
use Rattle.std.proofs.Common.{◌≡◌, ℕ, true, refl, ap, sym, subst}
use Rattle.turn_records.specs.PrintedData as data_rows
use Rattle.refusals.specs.host_data.declared.data.ObjKind.{ObjKind}
use Rattle.refusals.specs.host_data.declared.data.ObjKind.TheVariants.{Facet}
use Rattle.refusals.specs.declared.codes.Refusal.TheVariants.{Backwards}
use Rattle.turn_rows.specs.Form.{IsCallAnswer, IsRefusal}
use Rattle.turn_rows.specs.HostForms.{IsHostAnswerOf, IsHostTickAnswer, runs_function}
use Rattle.turn_records.specs.Deliveries.{Delivery, call, give, tick, bad, send, start, offer, wake, notify, deadline, Reading, target, gift}
use Rattle.turn_records.specs.Events.{Answer, given, refused, threw, spent, Event, called}
use Rattle.turn_records.specs.Printed.{call_kind, gift_kind, kind_of, kind_on, printed_answer}
use Rattle.turn_records.specs.Ends.{CanEnd, CanEndCall, CanEndGift, CanEndOn, CanEndTick, CanTell, IsAnswered, IsFacetCalled, IsOfFacet, IsRefused, IsUnspent, RunsFunction, StandsIn}

refusal_is : (a : Answer) → IsRefused a → IsRefusal (printed_answer a)
refusal_is (given t) h = absurd h
refusal_is (refused r) h = tt
refusal_is (threw t) h = absurd h
refusal_is (spent meter) h = absurd h

answer_is : (a : Answer) → IsAnswered a → IsCallAnswer (printed_answer a)
answer_is (given t) h = tt
answer_is (refused r) h = tt
answer_is (threw t) h = absurd h
answer_is (spent meter) h = absurd h

on_is : (kind : ObjKind) (a : Answer) → CanEndOn kind a → IsHostAnswerOf (kind_on kind) (printed_answer a)
on_is Facet a h = tt
on_is _ a h = answer_is a h

call_is : (r : Reading) (a : Answer) → CanEndCall r a → IsHostAnswerOf (call_kind r) (printed_answer a)
call_is (target o args) a h = on_is o.kind a h
call_is _ a h = refusal_is a h

gift_is : (r : Reading) (a : Answer) → CanEndGift r a → IsHostAnswerOf (gift_kind r) (printed_answer a)
gift_is (gift t) a h = ap printed_answer h
gift_is _ a h = refusal_is a h

tick_is : (t : ℕ) (a : Answer) → CanEndTick t a → IsHostTickAnswer (printed_answer a)
tick_is t (given d) h = ap data_rows.printed h
tick_is t (refused (Backwards now earlier)) h = refl
tick_is t (refused _) h = absurd h
tick_is t (threw d) h = absurd h
tick_is t (spent meter) h = absurd h

pub ends : (d : Delivery) (r : Reading) (a : Answer) → CanEnd d r a → IsHostAnswerOf (kind_of d r) (printed_answer a)
ends (call c) r a h = call_is r a h
ends (send s) r a h = call_is r a h
ends (give g) r a h = gift_is r a h
ends (tick t) r a h = tick_is t a h
ends (bad refusal) r a h = refusal_is a (subst IsRefused (sym h) tt)
ends (deadline seat) r a h = ap printed_answer h
ends _ r a h = tt

-- ---- calls of the host

facet_runs : (kind : ObjKind) (a : Answer) → IsOfFacet kind → IsUnspent a → runs_function (kind_on kind) (printed_answer a) ≡ true
facet_runs Facet (given t) h k = refl
facet_runs Facet (refused r) h k = refl
facet_runs Facet (threw t) h k = refl
facet_runs Facet (spent meter) h k = absurd k
facet_runs _ a h k = absurd h

call_runs : (r : Reading) (a : Answer) → IsFacetCalled r → IsUnspent a → runs_function (call_kind r) (printed_answer a) ≡ true
call_runs (target o args) a h k = facet_runs o.kind a h k
call_runs _ a h k = absurd h

runs : (d : Delivery) (r : Reading) (a : Answer) → RunsFunction d r → IsUnspent a → runs_function (kind_of d r) (printed_answer a) ≡ true
runs d r (spent meter) h k = absurd k
runs (call c) r a h k = call_runs r a h k
runs (send s) r a h k = call_runs r a h k
runs (start s) r (given t) h k = refl
runs (start s) r (refused e) h k = refl
runs (start s) r (threw t) h k = refl
runs (offer o) r (given t) h k = refl
runs (offer o) r (refused e) h k = refl
runs (offer o) r (threw t) h k = refl
runs (wake w) r (given t) h k = refl
runs (wake w) r (refused e) h k = refl
runs (wake w) r (threw t) h k = refl
runs (notify n) r (given t) h k = refl
runs (notify n) r (refused e) h k = refl
runs (notify n) r (threw t) h k = refl
runs _ r a h k = absurd h

pub tells : (d : Delivery) (r : Reading) (a : Answer) (e : Event) → CanTell d r a e → StandsIn d r a e
tells d r a (called c) h = runs d r a h.0 h.1
tells d r a _ h = tt

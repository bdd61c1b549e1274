-- What must hold of a turn beside what its types give, so that a journal can print it in form: facts of its
-- data, and of what its kind may have. Nothing is asked of refusals, of movements and of exits.
use Rattle.std.specs.Prelude.{◌≡◌, ◌<◌, ◌+◌, ◌≤◌, ℕ, false, List, length, codes, Option, Some, None, ◌==◌}
use Rattle.std.specs.List.{AllByRecursion, starts_with}
use Rattle.turn_records.specs.host_data.Nodes.{EachNode, NodeFact}
use Rattle.turn_records.specs.Printable.{HaveFieldNames, most_nested}
use Rattle.turn_records.specs.host_data.Tree.{Tree, array, fields, function, object}
use Rattle.turn_records.specs.host_data.declared.data.Obj.{Obj}
use Rattle.turn_records.specs.host_data.declared.data.ObjKind.{ObjKind}
use Rattle.turn_records.specs.host_data.declared.data.ObjKind.TheVariants.{Brand, Issuer, Mint, Promise, Zmint}
use Rattle.turn_records.specs.proposals.Shares.{amount_under}
use Rattle.turn_records.specs.proposals.declared.allocations.Share.{Share}
use Rattle.turn_records.specs.promise_store.States.{SettlementView, broken, ok}
use Rattle.turn_rows.specs.Form.{IsCallAnswer, MayStand, brands_end, times_end}
use Rattle.turn_rows.specs.HostForms.{IsHostAnswerOf, most_keywords, runs_function}
use Rattle.turn_rows.specs.Kinds as kinds
use Rattle.turn_rows.specs.Kinds.{How}
use Rattle.turn_records.specs.Deliveries.{Delivery, call, give, tick, bad, send, start, offer, wake, notify, deadline, IsReadFor, Reading, target, time}
use Rattle.turn_records.specs.Events.{Answer, given, refused, threw, spent, Call, Event, called, opened, settled, Opening}
use Rattle.turn_records.specs.Printed.{kind_of, printed_answer, printed_event, trees_of}
use Rattle.turn_records.specs.Tellable.{IsFunctionText, IsTellableRule}
use Rattle.turn_records.specs.Turns.{Turn}

-- ---- data

-- a brand, its issuer and its mints have the brand's number
abbrev pub IsBrandBelow : ObjKind → ℕ → Type 0
IsBrandBelow (Brand kind) n = n < brands_end
IsBrandBelow Issuer n = n < brands_end
IsBrandBelow Mint n = n < brands_end
IsBrandBelow Zmint n = n < brands_end
IsBrandBelow _ n = Unit {0}

-- arrays and records nest at most 32 deep, and fields and functions have names that contracts can write
abbrev pub CanPrintNode : NodeFact
CanPrintNode n (array ts) = n < most_nested
CanPrintNode n (fields fs) = (n < most_nested) × HaveFieldNames fs
CanPrintNode n (object o) = IsBrandBelow o.kind o.number
CanPrintNode n (function name) = IsFunctionText name
CanPrintNode n _ = Unit {0}

abbrev pub CanPrintData : Tree → Type 0
CanPrintData t = EachNode CanPrintNode 0 t

abbrev pub CanPrintAll : List Tree → Type 0
CanPrintAll ts = AllByRecursion CanPrintData ts

abbrev pub CanPrintAnswer : Answer → Type 0
CanPrintAnswer (given t) = CanPrintData t
CanPrintAnswer (refused r) = Unit {0}
CanPrintAnswer (threw t) = CanPrintData t
CanPrintAnswer (spent meter) = Unit {0}

abbrev pub CanPrintSettlement : SettlementView → Type 0
CanPrintSettlement (ok t) = CanPrintData t
CanPrintSettlement (broken t) = CanPrintData t

-- ---- what is delivered

-- no instance has the name
abbrev pub IsOfNoInstance : List ℕ → Type 0
IsOfNoInstance s = starts_with (λ m n. m == n) s (codes "instance") ≡ false

-- parties aren't named as instances are, times come from lines, functions are those of contracts
abbrev pub CanPrintDelivery : Delivery → Type 0
CanPrintDelivery (call c) = IsOfNoInstance c.by
CanPrintDelivery (give g) = IsOfNoInstance g.by × IsOfNoInstance g.to
CanPrintDelivery (tick t) = t < times_end
CanPrintDelivery (bad refusal) = Unit {0}
CanPrintDelivery (send s) = Unit {0}
CanPrintDelivery (start s) = Unit {0}
CanPrintDelivery (offer o) = IsFunctionText o.function
CanPrintDelivery (wake w) = IsFunctionText w.function
CanPrintDelivery (notify n) = IsFunctionText n.function
CanPrintDelivery (deadline seat) = Unit {0}

-- the target of a call that came to one, the time at which a function is woken
abbrev pub CanPrintReading : Reading → Type 0
CanPrintReading (target o args) = IsBrandBelow o.kind o.number
CanPrintReading (time t) = t < times_end
CanPrintReading _ = Unit {0}

-- ---- what happens

abbrev pub CanPrintObject : Option Obj → Type 0
CanPrintObject (Some o) = IsBrandBelow o.kind o.number
CanPrintObject None = ⊥

abbrev pub IsPromiseAsked : Option Obj → Type 0
IsPromiseAsked (Some o) = o.kind ≡ Promise
IsPromiseAsked None = ⊥

-- on what a contract calls, and how many arguments there are
abbrev pub CanPrintTarget : How → Option Obj → List ℕ → List Tree → Type 0
CanPrintTarget kinds.calls on method args = CanPrintObject on
CanPrintTarget kinds.sends on method args = CanPrintObject on
CanPrintTarget kinds.when on method args =
    IsPromiseAsked on × IsFunctionText method × (length args ≡ 1)
CanPrintTarget kinds.far on method args = (on ≡ None) × (length args ≡ 2)

pub record CanPrintCall (c : Call) : Type 0 where
  pub called : CanPrintTarget c.how c.on c.method c.arguments
  pub arguments : CanPrintAll c.arguments
  pub answered : IsCallAnswer (printed_answer c.answer)
  pub answer : CanPrintAnswer c.answer

-- a keyword stands in give or in want, and there are few
pub record CanPrintOpening (o : Opening) : Type 0 where
  pub few : length o.proposal.give + length o.proposal.want ≤ most_keywords
  pub apart : AllByRecursion (λ (r : Share). amount_under r.keyword o.proposal.want ≡ None) o.proposal.give
  pub rule : IsTellableRule o.proposal.exit

-- a movement and an exit are told by their types alone
abbrev pub CanPrintEvent : Event → Type 0
CanPrintEvent (called c) = CanPrintCall c
CanPrintEvent (opened o) = CanPrintOpening o
CanPrintEvent (settled n s) = CanPrintSettlement s
CanPrintEvent _ = Unit {0}

-- a call of the host stands only where a function was run
abbrev pub MayFollow : Turn → Event → Type 0
MayFollow t e =
    MayStand (runs_function (kind_of t.delivery t.reading) (printed_answer t.answer)) (printed_event e)

-- ---- turns

pub record CanPrint (t : Turn) : Type 0 where
  pub read : IsReadFor t.delivery t.reading
  pub delivery : CanPrintDelivery t.delivery
  pub reading : CanPrintReading t.reading
  pub arguments : CanPrintAll (trees_of t.delivery t.reading)
  pub answered : IsHostAnswerOf (kind_of t.delivery t.reading) (printed_answer t.answer)
  pub answer : CanPrintAnswer t.answer
  pub events : AllByRecursion CanPrintEvent t.events
  pub calls : AllByRecursion (MayFollow t) t.events

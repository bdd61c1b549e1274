-- A turn as a journal prints it.
use Rattle.std.specs.Prelude.{ℕ, List, [], ◌∷◌, map, Option, codes, true, false, nat_lt, if◌then◌else◌}
use Rattle.std.specs.Option.{option_map_or}
use Rattle.serde_json.specs.Data as json
use Rattle.refusals.specs.host_data.Values.{number_tree}
use Rattle.turn_records.specs.Names.{object_name}
use Rattle.turn_records.specs.Printable.{most_nested}
use Rattle.turn_records.specs.PrintedData.{printed_items}
use Rattle.turn_records.specs.PrintedData as data_rows
use Rattle.turn_records.specs.Values.{printed_value}
use Rattle.refusals.specs.host_data.Tree.{Tree, boolean, field, fields, nesting, no_fields, null}
use Rattle.refusals.specs.host_data.View.{items_of}
use Rattle.refusals.specs.host_data.declared.data.Obj.{Obj}
use Rattle.refusals.specs.host_data.declared.data.ObjKind.{ObjKind}
use Rattle.refusals.specs.host_data.declared.data.ObjKind.TheVariants.{Facet, Instance, Promise, Seat, Timer, Zseat}
use Rattle.promise_store.specs.States.{SettlementView, broken, ok}
use Rattle.proposals.specs.declared.allocations.Share.{Share}
use Rattle.proposals.specs.declared.offers.Exit as offered
use Rattle.proposals.specs.declared.offers.Exit.TheVariants.{AfterDeadline, OnDemand, Waived}
use Rattle.refusals.specs.Codes.{code_of, shown_by, shown_trees}
use Rattle.refusals.specs.declared.codes.Refusal.{Refusal}
use Rattle.turn_rows.specs.rights_model.declared.Movement.{Movement}
use Rattle.turn_rows.specs.Kinds as kinds
use Rattle.turn_rows.specs.Kinds.{Kind}
use Rattle.turn_rows.specs.Order.{put_amount, put_payout}
use Rattle.turn_rows.specs.Turns as rows
use Rattle.turn_rows.specs.Turns.{KeywordAmount, Payout}
use Rattle.turn_records.specs.Deliveries.{Actor, party, instance, Delivery, call, give, tick, bad, send, start, offer, wake, notify, deadline, Reading, nothing, target, gift, time, settlement}
use Rattle.turn_records.specs.Events.{Answer, given, refused, threw, spent, Call, Event, called, opened, moved, exited, settled, Leaving, Opening}
use Rattle.turn_records.specs.Turns.{Turn}

-- ---- names

abbrev pub object : ObjKind → ℕ → Obj
object kind n = record { kind = kind; number = n }

abbrev pub named : ObjKind → ℕ → List ℕ
named kind n = object_name (object kind n)

abbrev pub actor_name : Actor → List ℕ
actor_name (party name) = name
actor_name (instance n) = named Instance n

-- ---- data and answers

abbrev pub printed_trees : List Tree → json.Items
printed_trees ts = printed_items (items_of ts)

abbrev pub printed_refusal : Refusal → rows.Answer
printed_refusal r = rows.refused (code_of r) (printed_trees (shown_trees (shown_by r)))

abbrev pub printed_answer : Answer → rows.Answer
printed_answer (given t) = rows.ok (data_rows.printed t)
printed_answer (refused r) = printed_refusal r
printed_answer (threw t) = rows.threw (data_rows.printed t)
printed_answer (spent meter) = rows.spent meter

-- ---- what is delivered

-- a call of a facet runs a function of its instance; all else is a service
abbrev pub kind_on : ObjKind → Kind
kind_on Facet = kinds.facet
kind_on _ = kinds.service

-- what was refused before it came to anything is a message
abbrev pub call_kind : Reading → Kind
call_kind (target o args) = kind_on o.kind
call_kind _ = kinds.message

abbrev pub gift_kind : Reading → Kind
gift_kind (gift t) = kinds.give
gift_kind _ = kinds.message

abbrev pub kind_of : Delivery → Reading → Kind
kind_of (call c) r = call_kind r
kind_of (send s) r = call_kind r
kind_of (give g) r = gift_kind r
kind_of (tick t) r = kinds.tick
kind_of (bad refusal) r = kinds.bad
kind_of (start s) r = kinds.start
kind_of (offer o) r = kinds.handler
kind_of (wake w) r = kinds.wake
kind_of (notify n) r = kinds.notify
kind_of (deadline seat) r = kinds.deadline

-- who calls, or whose instance it is
abbrev pub by_of : Delivery → List ℕ
by_of (call c) = c.by
by_of (send s) = named Instance s.instance
by_of (give g) = g.by
by_of (start s) = named Instance s.instance
by_of (offer o) = named Instance o.instance
by_of (wake w) = named Instance w.instance
by_of (notify n) = named Instance n.instance
by_of _ = []

abbrev pub target_name : Reading → List ℕ
target_name (target o args) = object_name o
target_name _ = []

-- the receiver of what is given
abbrev pub receiver : List ℕ → Reading → List ℕ
receiver to (gift t) = to
receiver to _ = []

abbrev pub on_of : Delivery → Reading → List ℕ
on_of (call c) r = target_name r
on_of (send s) r = target_name r
on_of (give g) r = receiver g.to r
on_of (tick t) r = named Timer 0
on_of (bad refusal) r = []
on_of (start s) r = named Instance s.instance
on_of (offer o) r = named Zseat o.seat
on_of (wake w) r = named Timer 0
on_of (notify n) r = named Promise n.promise
on_of (deadline seat) r = named Seat seat

abbrev pub method_of : Delivery → List ℕ
method_of (call c) = c.method
method_of (send s) = s.method
method_of (give g) = g.label
method_of (start s) = codes "start"
method_of (offer o) = o.function
method_of (wake w) = w.function
method_of (notify n) = n.function
method_of _ = []

-- the value of a promise, or null where it nests so deep that the record around it would nest too deep
abbrev pub told_value : Tree → Tree
told_value t = if nat_lt (nesting t) most_nested then t else null

-- `{ok, value}`: what a promise was settled with, as the function that is notified has it
abbrev pub notice_tree : SettlementView → Tree
notice_tree (ok t) = fields (field (codes "ok") (boolean true) (field (codes "value") (told_value t) no_fields))
notice_tree (broken t) = fields (field (codes "ok") (boolean false) (field (codes "value") (told_value t) no_fields))

abbrev pub read_trees : Reading → List Tree
read_trees nothing = []
read_trees (target o args) = args
read_trees (gift t) = t ∷ []
read_trees (time t) = number_tree t ∷ []
read_trees (settlement s) = notice_tree s ∷ []

abbrev pub trees_of : Delivery → Reading → List Tree
trees_of (offer o) r = o.offer_arguments ∷ []
trees_of (tick t) r = number_tree t ∷ []
trees_of _ r = read_trees r

-- ---- events

abbrev pub called_on : Option Obj → List ℕ
called_on on = option_map_or object_name on []

abbrev pub printed_call : Call → rows.Call
printed_call c = record { how = c.how; on = called_on c.on; method = c.method; arguments = printed_trees c.arguments; answer = printed_answer c.answer }

abbrev pub printed_share : Share → KeywordAmount
printed_share r = record { keyword = r.keyword; brand = r.amount.brand; value = printed_value r.amount.value }

-- in byte order of their keywords
abbrev pub printed_shares : List Share → List KeywordAmount
printed_shares [] = []
printed_shares (r ∷ rs) = put_amount (printed_share r) (printed_shares rs)

abbrev pub printed_payouts : List Payout → List Payout
printed_payouts [] = []
printed_payouts (p ∷ ps) = put_payout p (printed_payouts ps)

abbrev pub printed_rule : offered.Exit → rows.ExitRule
printed_rule OnDemand = rows.on_demand
printed_rule Waived = rows.waived
printed_rule (AfterDeadline t) = rows.after_deadline t

abbrev pub printed_opening : Opening → rows.Opening
printed_opening o = record { seat = o.seat; instance = o.instance; give = printed_shares o.proposal.give; want = printed_shares o.proposal.want; exit = printed_rule o.proposal.exit }

abbrev pub printed_move : Movement → rows.Move
printed_move m = record { brand = m.brand; from = m.from; to = m.to; value = printed_value m.value }

abbrev pub printed_exit : Leaving → rows.SeatExit
printed_exit x = record { seat = x.seat; cause = x.cause; payouts = printed_payouts x.payouts }

abbrev pub printed_settlement : SettlementView → rows.Settlement
printed_settlement (ok t) = rows.fulfilled (data_rows.printed t)
printed_settlement (broken t) = rows.broken (data_rows.printed t)

abbrev pub printed_event : Event → rows.Event
printed_event (called c) = rows.called (printed_call c)
printed_event (opened o) = rows.opened (printed_opening o)
printed_event (moved m) = rows.moved (printed_move m)
printed_event (exited x) = rows.exited (printed_exit x)
printed_event (settled n s) = rows.settled n (printed_settlement s)

-- ---- turns

abbrev pub printed : Turn → rows.Turn
printed t = record {
  number = t.number;
  kind = kind_of t.delivery t.reading;
  by = by_of t.delivery;
  on = on_of t.delivery t.reading;
  method = method_of t.delivery;
  arguments = printed_trees (trees_of t.delivery t.reading);
  answer = printed_answer t.answer;
  events = map printed_event t.events;
  sums = t.sums;
}

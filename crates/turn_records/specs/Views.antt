-- What the code's types of a turn are: the definitions of turn_records.
use Rattle.std.specs.Prelude.{ℕ, List, [], ◌∷◌, map}
use Rattle.refusals.specs.host_data.View.{tree, trees}
use Rattle.promise_store.specs.States.{settlement_view}
use Rattle.turn_rows.specs.Causes as causes
use Rattle.turn_rows.specs.Kinds as kinds
use Rattle.turn_rows.specs.Turns as rows
use Rattle.turn_records.specs.Messages as messages
use Rattle.turn_records.specs.Deliveries as deliveries
use Rattle.turn_records.specs.Events as told
use Rattle.turn_records.specs.Turns as turns
use Rattle.turn_records.specs.declared.messages.Part.{Part}
use Rattle.turn_records.specs.declared.messages.Part.TheFolds.{fold-Part}
use Rattle.turn_records.specs.declared.messages.Part.TheOpen.{Part-F}
use Rattle.turn_records.specs.declared.messages.LineCall.{LineCall}
use Rattle.turn_records.specs.declared.messages.LineGift.{LineGift}
use Rattle.turn_records.specs.declared.deliveries.Actor.{Actor}
use Rattle.turn_records.specs.declared.deliveries.Actor.TheVariants as actors
use Rattle.turn_records.specs.declared.deliveries.Send.{Send}
use Rattle.turn_records.specs.declared.deliveries.Start.{Start}
use Rattle.turn_records.specs.declared.deliveries.Offer.{Offer}
use Rattle.turn_records.specs.declared.deliveries.Wakeup.{Wakeup}
use Rattle.turn_records.specs.declared.deliveries.Notice.{Notice}
use Rattle.turn_records.specs.declared.deliveries.Delivery.{Delivery}
use Rattle.turn_records.specs.declared.deliveries.Delivery.TheVariants as waiting
use Rattle.turn_records.specs.declared.deliveries.Reading.{Reading}
use Rattle.turn_records.specs.declared.deliveries.Reading.TheVariants as readings
use Rattle.turn_records.specs.declared.events.Answer.{Answer}
use Rattle.turn_records.specs.declared.events.Answer.TheVariants as answers
use Rattle.turn_records.specs.declared.events.How.{How}
use Rattle.turn_records.specs.declared.events.How.TheVariants as hows
use Rattle.turn_records.specs.declared.events.Call.{Call}
use Rattle.turn_records.specs.declared.events.Opening.{Opening}
use Rattle.turn_records.specs.declared.events.Cause.{Cause}
use Rattle.turn_records.specs.declared.events.Cause.TheVariants as why
use Rattle.turn_records.specs.declared.events.Payout.{Payout}
use Rattle.turn_records.specs.declared.events.Leaving.{Leaving}
use Rattle.turn_records.specs.declared.events.Event.{Event}
use Rattle.turn_records.specs.declared.events.Event.TheVariants as events
use Rattle.turn_records.specs.declared.turns.TurnRecord.{TurnRecord}

-- ---- what lines ask for

abbrev pub parts_of : List messages.Part → messages.Parts
parts_of [] = messages.no_parts
parts_of (p ∷ ps) = messages.part p (parts_of ps)

abbrev pub field_parts_of : List (List ℕ × messages.Part) → messages.FieldParts
field_parts_of [] = messages.no_fields
field_parts_of (f ∷ fs) = messages.field f.0 f.1 (field_parts_of fs)

-- one level, with each part inside already seen
abbrev pub part_step : Part-F messages.Part → messages.Part
part_step Part-F.Null = messages.null
part_step (Part-F.Bool b) = messages.boolean b
part_step (Part-F.Number z) = messages.number z
part_step (Part-F.Text s) = messages.text s
part_step (Part-F.Array v) = messages.array (parts_of v.items)
part_step (Part-F.Record v) = messages.fields (field_parts_of v.items)
part_step (Part-F.Path p) = messages.path p

abbrev pub part_view : Part → messages.Part
part_view = fold-Part messages.Part part_step

abbrev pub part_views : List Part → List messages.Part
part_views ps = map part_view ps

abbrev pub line_call_view : LineCall → messages.LineCall
line_call_view c = record { by = c.by; on = c.on; method = c.method; arguments = parts_of (part_views c.arguments.items); label = c.label }

abbrev pub line_gift_view : LineGift → messages.LineGift
line_gift_view g = record { by = g.by; given = g.given; to = g.to; label = g.label }

-- ---- what is delivered

abbrev pub actor_view : Actor → deliveries.Actor
actor_view (actors.Party name) = deliveries.party name
actor_view (actors.Instance n) = deliveries.instance n

abbrev pub send_view : Send → deliveries.Send
send_view s = record { instance = s.instance; target = s.target; method = s.method; arguments = trees s.arguments.items; promise = s.promise }

abbrev pub start_view : Start → deliveries.Start
start_view s = record { instance = s.instance; private_arguments = tree s.private_arguments; promise = s.promise }

abbrev pub offer_view : Offer → deliveries.Offer
offer_view o = record { instance = o.instance; seat = o.seat; function = o.function; offer_arguments = tree o.offer_arguments; held = tree o.held; promise = o.promise }

abbrev pub wakeup_view : Wakeup → deliveries.Wakeup
wakeup_view w = record { instance = w.instance; function = w.function; held = tree w.held }

abbrev pub notice_view : Notice → deliveries.Notice
notice_view n = record { instance = n.instance; promise = n.promise; function = n.function; held = tree n.held; answer = n.answer }

abbrev pub delivery_view : Delivery → deliveries.Delivery
delivery_view (waiting.Call c) = deliveries.call (line_call_view c)
delivery_view (waiting.Give g) = deliveries.give (line_gift_view g)
delivery_view (waiting.Tick t) = deliveries.tick t
delivery_view (waiting.Bad r) = deliveries.bad r
delivery_view (waiting.Send s) = deliveries.send (send_view s)
delivery_view (waiting.Start s) = deliveries.start (start_view s)
delivery_view (waiting.Offer o) = deliveries.offer (offer_view o)
delivery_view (waiting.Wake w) = deliveries.wake (wakeup_view w)
delivery_view (waiting.Notify n) = deliveries.notify (notice_view n)
delivery_view (waiting.Deadline seat) = deliveries.deadline seat

abbrev pub reading_view : Reading → deliveries.Reading
reading_view readings.Nothing = deliveries.nothing
reading_view (readings.Target o args) = deliveries.target o (trees args.items)
reading_view (readings.Gift d) = deliveries.gift (tree d)
reading_view (readings.Time t) = deliveries.time t
reading_view (readings.Settlement s) = deliveries.settlement (settlement_view s)

-- ---- what happens in a turn

abbrev pub answer_view : Answer → told.Answer
answer_view (answers.Given d) = told.given (tree d)
answer_view (answers.Refused r) = told.refused r
answer_view (answers.Threw d) = told.threw (tree d)
answer_view (answers.Spent meter) = told.spent meter

abbrev pub how_view : How → kinds.How
how_view hows.Call = kinds.calls
how_view hows.Send = kinds.sends
how_view hows.When = kinds.when
how_view hows.Far = kinds.far

abbrev pub cause_view : Cause → causes.Cause
cause_view why.Asked = causes.asked
cause_view why.Deadline = causes.deadline
cause_view why.Exit = causes.exit
cause_view why.Fail = causes.fail
cause_view why.Threw = causes.threw
cause_view why.Halted = causes.halted
cause_view why.Spent = causes.spent

abbrev pub call_view : Call → told.Call
call_view c = record { how = how_view c.how; on = c.on; method = c.method; arguments = trees c.arguments.items; answer = answer_view c.answer }

abbrev pub opening_view : Opening → told.Opening
opening_view o = record { seat = o.seat; instance = o.instance; proposal = o.proposal }

abbrev pub payout_view : Payout → rows.Payout
payout_view p = record { keyword = p.keyword; payment = p.payment }

abbrev pub payout_views : List Payout → List rows.Payout
payout_views ps = map payout_view ps

abbrev pub leaving_view : Leaving → told.Leaving
leaving_view x = record { seat = x.seat; cause = cause_view x.cause; payouts = payout_views x.payouts.items }

abbrev pub event_view : Event → told.Event
event_view (events.Called c) = told.called (call_view c)
event_view (events.Opened o) = told.opened (opening_view o)
event_view (events.Moved m) = told.moved m
event_view (events.Exited x) = told.exited (leaving_view x)
event_view (events.Settled promise s) = told.settled promise (settlement_view s)

abbrev pub event_views : List Event → List told.Event
event_views es = map event_view es

-- ---- turns

abbrev pub turn_view : TurnRecord → turns.Turn
turn_view t = record {
  number = t.number;
  delivery = delivery_view t.delivery;
  reading = reading_view t.reading;
  answer = answer_view t.answer;
  events = event_views t.events.items;
  sums = t.sums.items;
}

-- How contracts see a row: as what it says.
use Rattle.std.specs.Prelude.{[], map, String, string_bytes}
use Rattle.std.specs.declared.alloc.Global.{Global}
use Rattle.serde_json.specs.View.{items_view, view}
use Rattle.journal_rows.specs.Row as rows
use Rattle.journal_rows.specs.turn_rows.Kinds as kinds
use Rattle.journal_rows.specs.turn_rows.Turns as turns
use Rattle.turn_records.specs.Printed.{printed_rule}
use Rattle.turn_records.specs.Views.{cause_view, how_view}
use Rattle.turn_records.specs.declared.events.Payout.{Payout}
use Rattle.row_records.specs.declared.rows.Answer.{Answer}
use Rattle.row_records.specs.declared.rows.Answer.TheVariants as answers
use Rattle.row_records.specs.declared.rows.CallRow.{CallRow}
use Rattle.row_records.specs.declared.rows.Element.{Element}
use Rattle.row_records.specs.declared.rows.Element.TheVariants as code_elements
use Rattle.row_records.specs.declared.rows.EventRow.{EventRow}
use Rattle.row_records.specs.declared.rows.EventRow.TheVariants as events
use Rattle.row_records.specs.declared.rows.ExitRow.{ExitRow}
use Rattle.row_records.specs.declared.rows.KeywordAmount.{KeywordAmount}
use Rattle.row_records.specs.declared.rows.Kind.{Kind}
use Rattle.row_records.specs.declared.rows.Kind.TheVariants as code_kinds
use Rattle.row_records.specs.declared.rows.MoveRow.{MoveRow}
use Rattle.row_records.specs.declared.rows.OpenRow.{OpenRow}
use Rattle.row_records.specs.declared.rows.PrintedValue.{PrintedValue}
use Rattle.row_records.specs.declared.rows.PrintedValue.TheVariants as values
use Rattle.row_records.specs.declared.rows.Row.{Row}
use Rattle.row_records.specs.declared.rows.Row.TheVariants as code_rows
use Rattle.row_records.specs.declared.rows.Settlement.{Settlement}
use Rattle.row_records.specs.declared.rows.Settlement.TheVariants as settlements
use Rattle.row_records.specs.declared.rows.TurnRow.{TurnRow}

abbrev pub answer_view : Answer → turns.Answer
answer_view (answers.Given d) = turns.ok (view d)
answer_view (answers.Refused code shown) = turns.refused (string_bytes code) (items_view shown.items)
answer_view (answers.Threw d) = turns.threw (view d)
answer_view (answers.Spent meter) = turns.spent meter

abbrev pub kind_view : Kind → kinds.Kind
kind_view code_kinds.Service = kinds.service
kind_view code_kinds.Facet = kinds.facet
kind_view code_kinds.Handler = kinds.handler
kind_view code_kinds.Wake = kinds.wake
kind_view code_kinds.Notify = kinds.notify
kind_view code_kinds.Deadline = kinds.deadline
kind_view code_kinds.Start = kinds.start
kind_view code_kinds.Tick = kinds.tick
kind_view code_kinds.Give = kinds.give
kind_view code_kinds.Bad = kinds.bad
kind_view code_kinds.Message = kinds.message

-- ---- values and amounts

abbrev pub element_view : Element → turns.Element
element_view (code_elements.Key k) = turns.key k
element_view (code_elements.Counted k n) = turns.counted k n

abbrev pub value_view : PrintedValue → turns.Value
value_view (values.Number n) = turns.number n
value_view (values.Elements es) = turns.elements (map element_view es.items)

abbrev pub amount_view : KeywordAmount → turns.KeywordAmount
amount_view a = record { keyword = a.keyword; brand = a.brand; value = value_view a.value }

abbrev pub payout_view : Payout → turns.Payout
payout_view p = record { keyword = p.keyword; payment = p.payment }

-- ---- rows

abbrev pub turn_view : TurnRow → turns.Turn
turn_view t = record {
  number = t.number;
  kind = kind_view t.kind;
  by = string_bytes t.by;
  on = string_bytes t.on;
  method = string_bytes t.method;
  arguments = items_view t.arguments.items;
  answer = answer_view t.answer;
  events = [];
  sums = [];
}

abbrev pub call_view : CallRow → turns.Call
call_view c = record {
  how = how_view c.how;
  on = string_bytes c.on;
  method = string_bytes c.method;
  arguments = items_view c.arguments.items;
  answer = answer_view c.answer;
}

abbrev pub open_view : OpenRow → turns.Opening
open_view o = record {
  seat = o.seat;
  instance = o.instance;
  give = map amount_view o.give.items;
  want = map amount_view o.want.items;
  exit = printed_rule o.exit;
}

abbrev pub move_view : MoveRow → turns.Move
move_view m = record { brand = m.brand; from = m.from; to = m.to; value = value_view m.value }

abbrev pub exit_view : ExitRow → turns.SeatExit
exit_view x = record { seat = x.seat; cause = cause_view x.cause; payouts = map payout_view x.payouts.items }

abbrev pub settlement_view : Settlement → turns.Settlement
settlement_view (settlements.Fulfilled d) = turns.fulfilled (view d)
settlement_view (settlements.Broken d) = turns.broken (view d)

abbrev pub event_view : EventRow → turns.Event
event_view (events.Called c) = turns.called (call_view c)
event_view (events.Opened o) = turns.opened (open_view o)
event_view (events.Moved m) = turns.moved (move_view m)
event_view (events.Exited x) = turns.exited (exit_view x)
event_view (events.Settled promise s) = turns.settled promise (settlement_view s)

abbrev pub row_view : Row → rows.Row
row_view code_rows.Version = rows.version
row_view (code_rows.Turn t) = rows.turn (turn_view t)
row_view (code_rows.Event e) = rows.event (event_view e)
row_view (code_rows.Sum s) = rows.sum s
row_view (code_rows.Close left turns) = rows.close left turns

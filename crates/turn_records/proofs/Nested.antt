-- No row nests deep.
use Rattle.std.proofs.Common.{◌≡◌, ◌≤◌, ◌^◌, ℕ, List, [], ◌∷◌, Bool, true, false, nat_lt, refl, arith}
use Rattle.serde_json.specs.Data.{depth, items_depth, members_depth}
use Rattle.turn_records.proofs.Depth.{data_depth}
use Rattle.turn_records.specs.PrintedData as data_rows
use Rattle.turn_records.specs.Printable.{IsPrintable}
use Rattle.turn_records.specs.Values.{printed_value}
use Rattle.refusals.specs.host_data.Tree.{Tree}
use Rattle.promise_store.specs.States.{SettlementView, broken, ok}
use Rattle.refusals.specs.Codes.{shown_by, shown_trees}
use Rattle.turn_rows.specs.Rows.{amounts_json, answer_json, element_json, elements_json, event_row, exit_rule_json, number_json, payouts_json, settlement_json, value_json}
use Rattle.turn_rows.specs.Turns as rows
use Rattle.turn_rows.specs.Turns.{Element, ExitRule, KeywordAmount, Payout, Value}
use Rattle.turn_records.specs.Events.{Answer, given, refused, threw, spent, Event, called, opened, moved, exited, settled}
use Rattle.turn_records.specs.Printed.{printed_answer, printed_event, printed_payouts, printed_shares, printed_rule, printed_settlement, printed_trees}
use Rattle.turn_records.specs.Tellable.{ArePrintable, IsTellableAnswer, IsTellableEvent, IsTellableSettlement}

tree_depth : (t : Tree) → IsPrintable t → depth (data_rows.printed t) ≤ 33
tree_depth t h = omega (arith, data_depth 0 t (omega arith) h)

pub trees_depth : (ts : List Tree) → ArePrintable ts → items_depth (printed_trees ts) ≤ 33
trees_depth [] h = omega arith
trees_depth (t ∷ ts) h = omega (arith, tree_depth t h.0, trees_depth ts h.1)

pub answer_depth : (a : Answer) → IsTellableAnswer a → depth (answer_json (printed_answer a)) ≤ 40
answer_depth (given t) h = omega (arith, tree_depth t h)
answer_depth (refused r) h = omega (arith, trees_depth (shown_trees (shown_by r)) h)
answer_depth (threw t) h = omega (arith, tree_depth t h)
answer_depth (spent meter) h = omega arith

settlement_depth : (s : SettlementView) → IsTellableSettlement s → depth (settlement_json (printed_settlement s)) ≤ 40
settlement_depth (ok t) h = omega (arith, tree_depth t h)
settlement_depth (broken t) h = omega (arith, tree_depth t h)

-- ---- values and amounts

number_depth : (n : ℕ) (b : Bool) → nat_lt n (2 ^ 63) ≡ b → depth (number_json n) ≤ 1
number_depth n true low = rw low (omega arith)
number_depth n false low = rw low (omega arith)

element_depth : (e : Element) → depth (element_json e) ≤ 2
element_depth (rows.key s) = omega arith
element_depth (rows.counted s n) = omega (arith, number_depth n (nat_lt n (2 ^ 63)) refl)

elements_depth : (es : List Element) → items_depth (elements_json es) ≤ 2
elements_depth [] = omega arith
elements_depth (e ∷ es) = omega (arith, element_depth e, elements_depth es)

value_depth : (v : Value) → depth (value_json v) ≤ 3
value_depth (rows.number n) = omega (arith, number_depth n (nat_lt n (2 ^ 63)) refl)
value_depth (rows.elements es) = omega (arith, elements_depth es)

amounts_depth : (rs : List KeywordAmount) → members_depth (amounts_json rs) ≤ 4
amounts_depth [] = omega arith
amounts_depth (r ∷ rs) = omega (arith, value_depth r.value, amounts_depth rs)

payouts_depth : (ps : List Payout) → members_depth (payouts_json ps) ≤ 0
payouts_depth [] = omega arith
payouts_depth (p ∷ ps) = omega (arith, payouts_depth ps)

rule_depth : (r : ExitRule) → depth (exit_rule_json r) ≤ 2
rule_depth rows.on_demand = omega arith
rule_depth rows.waived = omega arith
rule_depth (rows.after_deadline t) = omega (arith, number_depth t (nat_lt t (2 ^ 63)) refl)

-- ---- rows of events

pub event_depth : (e : Event) → IsTellableEvent e → depth (event_row (printed_event e)) ≤ 127
event_depth (called c) h = omega (arith, answer_depth c.answer h.answer, trees_depth c.arguments h.arguments)
event_depth (opened o) h = omega (arith, rule_depth (printed_rule o.proposal.exit), amounts_depth (printed_shares o.proposal.give), amounts_depth (printed_shares o.proposal.want))
event_depth (moved m) h = omega (arith, value_depth (printed_value m.value))
event_depth (exited x) h = omega (arith, payouts_depth (printed_payouts x.payouts))
event_depth (settled n s) h = omega (arith, settlement_depth s h.1)

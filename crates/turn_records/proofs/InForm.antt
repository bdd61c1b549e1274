-- A turn that can be told is printed in form.
use Rattle.std.proofs.Common.{◌≤◌, List, [], ◌∷◌, ◌++◌, Bool, map, arith}
use Rattle.std.specs.List.{AllByRecursion}
use Rattle.serde_json.specs.Data.{depth}
use Rattle.serde_json.specs.Read.{max_depth}
use Rattle.turn_records.proofs.Values.{value_form}
use Rattle.proposals.specs.declared.offers.Exit as offered
use Rattle.proposals.specs.declared.offers.Exit.TheVariants.{AfterDeadline, OnDemand, Waived}
use Rattle.turn_rows.specs.rights_model.declared.Sum.{Sum}
use Rattle.turn_rows.specs.Form.{HasEventForm, HasExitForm, HasExitRuleForm, HasOpeningForm, IsInForm, MayStand}
use Rattle.turn_rows.specs.Rows.{event_row, sum_row, turn_row}
use Rattle.turn_records.specs.Events.{Event, called, opened, moved, exited, settled, Leaving, Opening}
use Rattle.turn_records.specs.Printed.{printed, printed_event, printed_exit, printed_opening, printed_payouts, printed_rule, trees_of}
use Rattle.turn_records.specs.Tellable.{IsTellable, IsTellableEvent, IsTellableExit, IsTellableOpening, IsTellableRule}
use Rattle.turn_records.specs.Turns.{Turn}
use Rattle.turn_records.proofs.Parts.{answer_is, call_form, data_are, delivered_is, settlement_is}
use Rattle.turn_records.proofs.Ordered.{payout_keywords, payout_numbers, payouts_each, payouts_rise, shares_apart, shares_are}
use Rattle.turn_records.proofs.Nested.{answer_depth, event_depth, trees_depth}
use Rattle.turn_rows.specs.Editions.{written}

rule_is : (e : offered.Exit) → IsTellableRule e → HasExitRuleForm (printed_rule e)
rule_is OnDemand h = tt
rule_is Waived h = tt
rule_is (AfterDeadline t) h = h

opening_is : (o : Opening) → IsTellableOpening o → HasOpeningForm written (printed_opening o)
opening_is o h = record {
  seat = h.seat;
  instance = h.instance;
  give = shares_are o.proposal.give h.give;
  want = shares_are o.proposal.want h.want;
  apart = shares_apart o.proposal.give o.proposal.want h.apart;
  exit = rule_is o.proposal.exit h.rule;
}

exit_is : (x : Leaving) → IsTellableExit x → HasExitForm (printed_exit x)
exit_is x h = record {
  seat = h.seat;
  keywords = payout_keywords (printed_payouts x.payouts) (payouts_each x.payouts h.payouts);
  payments = payout_numbers (printed_payouts x.payouts) (payouts_each x.payouts h.payouts);
  rising = payouts_rise x.payouts;
}

event_is : (e : Event) → IsTellableEvent e → HasEventForm written (printed_event e)
event_is (called c) h = call_form c h
event_is (opened o) h = opening_is o h
event_is (moved m) h = (h.brand, h.from, h.to, value_form m.value h.value.value h.value.texts)
event_is (exited x) h = exit_is x h
event_is (settled n s) h = (h.0, settlement_is s h.1)

events_are : (es : List Event) → AllByRecursion IsTellableEvent es → AllByRecursion (HasEventForm written) (map printed_event es)
events_are [] h = tt
events_are (e ∷ es) h = (event_is e h.0, events_are es h.1)

calls_stand : (runs : Bool) (es : List Event) → AllByRecursion (λ e. MayStand runs (printed_event e)) es → AllByRecursion (MayStand runs) (map printed_event es)
calls_stand runs [] h = tt
calls_stand runs (e ∷ es) h = (h.0, calls_stand runs es h.1)

sums_shallow : (ss : List Sum) → AllByRecursion (λ row. depth row ≤ max_depth) (map (sum_row written) ss)
sums_shallow [] = tt
sums_shallow (s ∷ ss) = (omega arith, sums_shallow ss)

rows_shallow : (es : List Event) (ss : List Sum) → AllByRecursion IsTellableEvent es → AllByRecursion (λ row. depth row ≤ max_depth) (map event_row (map printed_event es) ++ map (sum_row written) ss)
rows_shallow [] ss h = sums_shallow ss
rows_shallow (e ∷ es) ss h = (event_depth e h.0, rows_shallow es ss h.1)

turn_shallow : (t : Turn) → IsTellable t → depth (turn_row (printed t)) ≤ max_depth
turn_shallow t h = omega (arith, answer_depth t.answer h.answer, trees_depth (trees_of t.delivery t.reading) h.arguments)

pub in_form : (t : Turn) → IsTellable t → IsInForm written (printed t)
in_form t h = record {
  number = h.number;
  delivered = delivered_is t.delivery t.reading h.read h.delivery h.reading;
  arguments = data_are (trees_of t.delivery t.reading) h.arguments;
  answered = h.answered;
  answer = answer_is t.answer h.answer;
  events = events_are t.events h.events;
  calls = calls_stand _ t.events h.calls;
  sums = h.sums;
  nesting = (turn_shallow t h, rows_shallow t.events t.sums h.events);
}

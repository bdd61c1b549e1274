-- The rows of a turn are plain where its data is.
use Rattle.std.proofs.Common.{◌≡◌, ℕ, ◌^◌, ◌<◌, Bool, true, false, List, [], ◌∷◌, ◌++◌, map, nat_lt, refl, arith}
use Rattle.std.specs.List.{AllByRecursion}
use Rattle.rights_model.specs.declared.Sum.{Sum}
use Rattle.turn_rows.proofs.Ranges.{IsPlainAnswer, IsPlainEvent, IsPlainSettlement, IsPlainTurn}
use Rattle.turn_rows.specs.Rows.{amounts_json, answer_json, close_row, elements_json, event_row, exit_rule_json, number_json, payouts_json, rows_of, settlement_json, sum_row, value_json}
use Rattle.turn_rows.proofs.Ranges.{ArePlain, ArePlainMembers, IsPlain}
use Rattle.turn_rows.specs.Editions.{version_rows}
use Rattle.turn_rows.specs.declared.editions.Edition.{Edition}
use Rattle.turn_rows.specs.declared.editions.Edition.TheVariants.{First, Second}
use Rattle.turn_rows.specs.Turns.{Answer, Element, Event, ExitRule, Payout, KeywordAmount, Settlement, Turn, Value, after_deadline, broken, called, counted, elements, fulfilled, key, exited, moved, number, ok, on_demand, opened, refused, settled, spent, threw, waived}

number_by : (n : ℕ) (b : Bool) → nat_lt n (2 ^ 63) ≡ b → IsPlain (number_json n)
number_by n true is = rw is (grind arith)
number_by n false is = rw is (tt, tt)

plain_number : (n : ℕ) → IsPlain (number_json n)
plain_number n = number_by n (nat_lt n (2 ^ 63)) refl

plain_elements : (es : List Element) → ArePlain (elements_json es)
plain_elements [] = tt
plain_elements (key s ∷ es) = (tt, plain_elements es)
plain_elements (counted s n ∷ es) = ((tt, (plain_number n, tt)), plain_elements es)

plain_value : (v : Value) → IsPlain (value_json v)
plain_value (number n) = plain_number n
plain_value (elements es) = plain_elements es

plain_amounts : (rs : List KeywordAmount) → ArePlainMembers (amounts_json rs)
plain_amounts [] = tt
plain_amounts (r ∷ rs) = (((tt, tt), (plain_value r.value, tt)), plain_amounts rs)

plain_payouts : (ps : List Payout) → ArePlainMembers (payouts_json ps)
plain_payouts [] = tt
plain_payouts (p ∷ ps) = (tt, plain_payouts ps)

plain_exit_rule : (e : ExitRule) → IsPlain (exit_rule_json e)
plain_exit_rule on_demand = tt
plain_exit_rule waived = tt
plain_exit_rule (after_deadline time) = (plain_number time, tt)

plain_answer : (a : Answer) → IsPlainAnswer a → IsPlain (answer_json a)
plain_answer (ok d) h = (h, tt)
plain_answer (refused code shown) h = ((tt, (h, tt)), tt)
plain_answer (threw d) h = (h, tt)
plain_answer (spent meter) h = (h, tt)

plain_settlement : (s : Settlement) → IsPlainSettlement s → IsPlain (settlement_json s)
plain_settlement (fulfilled d) h = (h, tt)
plain_settlement (broken d) h = (h, tt)

pub plain_event : (e : Event) → IsPlainEvent e → IsPlain (event_row e)
plain_event (called c) h = (plain_answer c.answer h.1, (h.0, (tt, (tt, (tt, (tt, tt))))))
plain_event (opened o) h = (plain_exit_rule o.exit, (plain_amounts o.give, (tt, (tt, (h, (plain_amounts o.want, tt))))))
plain_event (moved m) h = (tt, (tt, (tt, (tt, (plain_value m.value, tt)))))
plain_event (exited x) h = (tt, (plain_payouts x.payouts, (tt, (h, tt))))
plain_event (settled promise s) h = (h.0, (tt, (plain_settlement s h.1, tt)))

pub plain_sum : (d : Edition) (s : Sum) → IsPlain (sum_row d s)
plain_sum First s = (tt, (tt, (tt, (tt, (tt, (tt, (tt, tt)))))))
plain_sum Second s = (tt, (tt, (tt, (tt, (tt, (tt, (tt, (tt, tt))))))))

plain_sums : (d : Edition) (ss : List Sum) → AllByRecursion IsPlain (map (sum_row d) ss)
plain_sums d [] = tt
plain_sums d (s ∷ ss) = (plain_sum d s, plain_sums d ss)

plain_events : (d : Edition) (es : List Event) (ss : List Sum) → AllByRecursion IsPlainEvent es → AllByRecursion IsPlain (map event_row es ++ map (sum_row d) ss)
plain_events d [] ss h = plain_sums d ss
plain_events d (e ∷ es) ss h = (plain_event e h.0, plain_events d es ss h.1)

pub plain_turn : (d : Edition) (t : Turn) → IsPlainTurn t → AllByRecursion IsPlain (rows_of d t)
plain_turn d t h = ((plain_answer t.answer h.answer, (h.arguments, (tt, (tt, (tt, (h.number, (tt, (tt, tt)))))))), plain_events d t.events t.sums h.events)

pub plain_close : (left turns : ℕ) → left < 2 ^ 64 → turns < 2 ^ 64 → IsPlain (close_row left turns)
plain_close left turns first second = (first, (tt, (second, tt)))

pub plain_version : (d : Edition) → AllByRecursion IsPlain (version_rows d)
plain_version First = tt
plain_version Second = ((tt, (omega arith, tt)), tt)

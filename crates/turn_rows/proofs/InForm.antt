-- Turns in form have rows of plain JSON, and numbers that their names tell: so no journal in form has the text of another.
use Rattle.std.proofs.Common.{◌≡◌, ◌<◌, ◌^◌, ℕ, pos, negsuc, List, [], ◌∷◌, ◌++◌, inl, inr, length, arith}
use Rattle.std.specs.List.{AllByRecursion, flat_map}
use Rattle.serde_json.specs.Data as json
use Rattle.rights_model.specs.declared.Holder.{Holder}
use Rattle.rights_model.specs.declared.Holder.TheVariants as holders
use Rattle.rights_model.specs.declared.Sum.{Sum}
use Rattle.turn_rows.specs.Form.{AreData, AreFields, AreInForm, HasAmountForm, HasAnswerForm, HasElementForm, HasEventForm, HasExitRuleForm, HasHolderForm, HasSettlementForm, HasSumForm, HasValueForm, IsData, IsInForm, IsMark, IsSmallNumber}
use Rattle.turn_rows.proofs.Ranges.{IsPlainAnswer, IsPlainEvent, IsPlainSettlement, IsPlainTurn}
use Rattle.turn_rows.specs.Rows.{close_row, event_row, rows_of, sum_row}
use Rattle.turn_rows.specs.Texts.{OneText}
use Rattle.turn_rows.specs.Editions.{version_rows}
use Rattle.turn_rows.specs.declared.editions.Edition.{Edition}
use Rattle.turn_rows.specs.declared.editions.Edition.TheVariants.{First, Second}
use Rattle.turn_rows.proofs.Ranges.{ArePlain, ArePlainMembers, IsAmount, IsElement, IsEvent, IsExitRule, IsHolder, IsJournal, IsPayout, IsPlain, IsPlainNumber, IsSum, IsTurn, IsValue}
use Rattle.turn_rows.specs.Turns.{Answer, Element, Event, ExitRule, KeywordAmount, Payout, Settlement, Turn, Value, after_deadline, broken, called, counted, elements, exited, fulfilled, key, moved, number, ok, on_demand, opened, refused, settled, spent, threw, waived}
use Rattle.turn_rows.specs.ReadBack.{event_in, sum_in}
use Rattle.turn_rows.proofs.Read.{event_read, one_text, sum_read}
use Rattle.turn_rows.proofs.PlainRows.{plain_close, plain_turn as plain_rows, plain_version}

-- ---- data

small_is_plain : (n : json.Num) → IsSmallNumber n → IsPlainNumber n
small_is_plain (json.unsigned n) h = omega (arith, h)
small_is_plain (json.negative (pos n)) h = absurd h
small_is_plain (json.negative (negsuc n)) h = omega (arith, h)
small_is_plain (json.float x) h = absurd h

mark_is_plain : (ms : json.Members) → IsMark ms → ArePlainMembers ms
mark_is_plain (json.member k (json.string s) json.no_members) h = (tt, tt)
mark_is_plain (json.member k (json.string s) (json.member l d ms)) h = absurd h
mark_is_plain (json.member k json.null ms) h = absurd h
mark_is_plain (json.member k (json.boolean b) ms) h = absurd h
mark_is_plain (json.member k (json.number n) ms) h = absurd h
mark_is_plain (json.member k (json.array ds) ms) h = absurd h
mark_is_plain (json.member k (json.object os) ms) h = absurd h
mark_is_plain json.no_members h = absurd h

mutual
  data_is_plain : (d : json.Data) → IsData d → IsPlain d
  data_is_plain json.null h = tt
  data_is_plain (json.boolean b) h = tt
  data_is_plain (json.number n) h = small_is_plain n h
  data_is_plain (json.string s) h = tt
  data_is_plain (json.array ds) h = items_are_plain ds h
  data_is_plain (json.object ms) (inl mark) = mark_is_plain ms mark
  data_is_plain (json.object ms) (inr fields) = fields_are_plain ms fields.0

  pub items_are_plain : (ds : json.Items) → AreData ds → ArePlain ds
  items_are_plain json.no_items h = tt
  items_are_plain (json.item d ds) h = (data_is_plain d h.0, items_are_plain ds h.1)

  fields_are_plain : (ms : json.Members) → AreFields ms → ArePlainMembers ms
  fields_are_plain json.no_members h = tt
  fields_are_plain (json.member k d ms) h = (data_is_plain d h.1, fields_are_plain ms h.2)

-- ---- rows

pub plain_answer : (a : Answer) → HasAnswerForm a → IsPlainAnswer a
plain_answer (ok d) h = data_is_plain d h
plain_answer (refused code shown) h = items_are_plain shown h.1
plain_answer (threw d) h = data_is_plain d h
plain_answer (spent meter) h = h

plain_settlement : (s : Settlement) → HasSettlementForm s → IsPlainSettlement s
plain_settlement (fulfilled d) h = data_is_plain d h
plain_settlement (broken d) h = data_is_plain d h

pub plain_event : (d : Edition) (e : Event) → HasEventForm d e → IsPlainEvent e
plain_event d (called c) h = (items_are_plain c.arguments h.arguments, plain_answer c.answer h.answer)
plain_event d (opened o) h = omega (arith, h.seat)
plain_event d (moved m) h = tt
plain_event d (exited x) h = omega (arith, h.seat)
plain_event d (settled promise s) h = (omega (arith, h.0), plain_settlement s h.1)

plain_events : (d : Edition) (es : List Event) → AllByRecursion (HasEventForm d) es → AllByRecursion IsPlainEvent es
plain_events d [] h = tt
plain_events d (e ∷ es) h = (plain_event d e h.0, plain_events d es h.1)

plain_turn : (d : Edition) (t : Turn) → IsInForm d t → IsPlainTurn t
plain_turn d t h = record { number = h.number; arguments = items_are_plain t.arguments h.arguments; answer = plain_answer t.answer h.answer; events = plain_events d t.events h.events }

all_plain : (xs ys : List json.Data) → AllByRecursion IsPlain xs → AllByRecursion IsPlain ys → AllByRecursion IsPlain (xs ++ ys)
all_plain [] ys h k = k
all_plain (x ∷ xs) ys h k = (h.0, all_plain xs ys h.1 k)

plain_turns : (d : Edition) (ts : List Turn) → AllByRecursion (IsInForm d) ts → AllByRecursion IsPlain (flat_map (rows_of d) ts)
plain_turns d [] h = tt
plain_turns d (t ∷ ts) h = all_plain (rows_of d t) (flat_map (rows_of d) ts) (plain_rows d t (plain_turn d t h.0)) (plain_turns d ts h.1)

-- ---- numbers in names and totals

wide_holder : (w : Holder) → HasHolderForm w → IsHolder w
wide_holder (holders.Purse n) h = omega (arith, h)
wide_holder (holders.Payment n) h = omega (arith, h)
wide_holder (holders.Slot seat keyword) h = omega (arith, h.0)
wide_holder holders.Hand h = tt
wide_holder holders.Outside h = tt

wide_element : (e : Element) → HasElementForm e → IsElement e
wide_element (key s) h = tt
wide_element (counted s n) h = omega (arith, h.2)

wide_elements : (es : List Element) → AllByRecursion HasElementForm es → AllByRecursion IsElement es
wide_elements [] h = tt
wide_elements (e ∷ es) h = (wide_element e h.0, wide_elements es h.1)

wide_value : (d : Edition) (v : Value) → HasValueForm d v → IsValue v
wide_value First (number n) h = omega (arith, h)
wide_value Second (number n) h = omega (arith, h)
wide_value d (elements es) h = wide_elements es h.each

wide_amounts : (d : Edition) (amounts : List KeywordAmount) → AllByRecursion (HasAmountForm d) amounts → AllByRecursion IsAmount amounts
wide_amounts d [] h = tt
wide_amounts d (a ∷ amounts) h = ((omega (arith, h.0.brand), wide_value d a.value h.0.value), wide_amounts d amounts h.1)

wide_exit_rule : (e : ExitRule) → HasExitRuleForm e → IsExitRule e
wide_exit_rule on_demand h = tt
wide_exit_rule waived h = tt
wide_exit_rule (after_deadline time) h = omega (arith, h)

wide_payouts : (ps : List Payout) → AllByRecursion (λ p. p.payment < 2 ^ 32) ps → AllByRecursion IsPayout ps
wide_payouts [] h = tt
wide_payouts (p ∷ ps) h = (omega (arith, h.0), wide_payouts ps h.1)

wide_event : (d : Edition) (e : Event) → HasEventForm d e → IsEvent e
wide_event d (called c) h = tt
wide_event d (opened o) h = record { instance = omega (arith, h.instance); give = wide_amounts d o.give h.give.each; want = wide_amounts d o.want h.want.each; exit = wide_exit_rule o.exit h.exit }
wide_event d (moved m) h = (omega (arith, h.0), wide_holder m.from h.1, wide_holder m.to h.2, wide_value d m.value h.3)
wide_event d (exited x) h = wide_payouts x.payouts h.payments
wide_event d (settled promise s) h = tt

wide_events : (d : Edition) (es : List Event) → AllByRecursion (HasEventForm d) es → AllByRecursion IsEvent es
wide_events d [] h = tt
wide_events d (e ∷ es) h = (wide_event d e h.0, wide_events d es h.1)

wide_sums : (ss : List Sum) → AllByRecursion HasSumForm ss → AllByRecursion IsSum ss
wide_sums [] h = tt
wide_sums (s ∷ ss) h = (record { brand = omega (arith, h.0.brand); burned = h.0.burned; minted = h.0.minted; payments = h.0.payments; purses = h.0.purses; slots = h.0.slots }, wide_sums ss h.1)

pub wide_turn : (d : Edition) (t : Turn) → IsInForm d t → IsTurn t
wide_turn d t h = record { events = wide_events d t.events h.events; sums = wide_sums t.sums h.sums }

wide_turns : (d : Edition) (ts : List Turn) → AllByRecursion (IsInForm d) ts → AllByRecursion IsTurn ts
wide_turns d [] h = tt
wide_turns d (t ∷ ts) h = (wide_turn d t h.0, wide_turns d ts h.1)

pub form_is_told : (d : Edition) (ts : List Turn) (left : ℕ) → AreInForm d ts left → IsJournal d ts left
form_is_told d ts left h = record {
  rows = all_plain (version_rows d) (flat_map (rows_of d) ts ++ close_row left (length ts) ∷ []) (plain_version d) (all_plain (flat_map (rows_of d) ts) (close_row left (length ts) ∷ []) (plain_turns d ts h.turns) (plain_close left (length ts) h.few h.as_many, tt));
  turns = wide_turns d ts h.turns;
}

pub one_text_in_form : OneText
one_text_in_form d ts us left others h k same = one_text d ts us left others (form_is_told d ts left h) (form_is_told d us others k) same

pub event_in_form : (d : Edition) (e : Event) → HasEventForm d e → event_in (event_row e) ≡ e
event_in_form d e h = event_read e (wide_event d e h)

pub sum_in_form : (d : Edition) (s : Sum) → HasSumForm s → sum_in (sum_row d s) ≡ s
sum_in_form d s h = sum_read d s (record { brand = omega (arith, h.brand); burned = h.burned; minted = h.minted; payments = h.payments; purses = h.purses; slots = h.slots })

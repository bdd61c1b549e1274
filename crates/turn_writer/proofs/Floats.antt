-- No row has a float.
use Rattle.std.proofs.Common.{◌≡◌, ◌^◌, List, [], ◌∷◌, ℕ, ℤ, pos, negsuc, Bool, true, false, true≢false, nat_lt, ◌||◌, Ordering, Less, Equal, Greater, refl}
use Rattle.std.specs.Ordering.{nat_cmp, match_ordering}
use Rattle.std.specs.Cmp.Lexicographic.{slice_cmp}
use Rattle.serde_json.specs.Data as json
use Rattle.serde_json.specs.Find.{is_float, of_integer}
use Rattle.serde_json.specs.Written.{has_float, items_have_float, members_have_float}
use Rattle.turn_records.specs.host_data.Tree.{Tree, null, boolean, number, text, array, fields, object, function, Items, no_items, item, Fields, no_fields, field}
use Rattle.turn_records.specs.PrintedData.{is_wide, printed, printed_fields, printed_items, printed_number}
use Rattle.turn_records.specs.promise_store.States as settlements
use Rattle.turn_records.specs.promise_store.States.{SettlementView}
use Rattle.turn_rows.specs.Rows.{amounts_json, answer_json, elements_json, event_row, exit_rule_json, number_json, payouts_json, settlement_json, turn_row, value_json}
use Rattle.turn_rows.specs.Turns as rows
use Rattle.turn_rows.specs.Turns.{Element, KeywordAmount, Payout, Value}
use Rattle.turn_records.specs.Events.{Answer, given, refused, threw, spent, Event, called, opened, moved, exited, settled}
use Rattle.turn_records.specs.Printed as turns
use Rattle.turn_records.specs.Printed.{printed_answer, printed_event, printed_shares, printed_settlement}
use Rattle.turn_records.specs.Turns.{Turn}

-- ---- data

whole : (z : ℤ) → is_float (of_integer z) ≡ false
whole (pos n) = refl
whole (negsuc n) = refl

flat_number : (z : ℤ) (b : Bool) → is_wide z ≡ b → has_float (printed_number z) ≡ false
flat_number z true is = rw is refl
flat_number z false is = rw is (whole z)

or_left : (a b : Bool) → a || b ≡ false → a ≡ false
or_left true b e = e
or_left false b e = refl

or_right : (a b : Bool) → a || b ≡ false → b ≡ false
or_right true b e = absurd (true≢false e)
or_right false b e = e

put_at : (o : Ordering) (k l : List ℕ) (d e : json.Data) (ms : json.Members) → has_float d ≡ false → members_have_float (json.member l e ms) ≡ false
    → members_have_float (json.put k d ms) ≡ false
    → members_have_float (match_ordering o (json.member k d (json.member l e ms)) (json.member l d ms) (json.member l e (json.put k d ms))) ≡ false
put_at Less k l d e ms flat rest more = rw (flat, rest)
put_at Equal k l d e ms flat rest more = rw flat (or_right (has_float e) (members_have_float ms) rest)
put_at Greater k l d e ms flat rest more = rw (or_left (has_float e) (members_have_float ms) rest) more

put_flat : (k : List ℕ) (d : json.Data) (ms : json.Members) → has_float d ≡ false → members_have_float ms ≡ false → members_have_float (json.put k d ms) ≡ false
put_flat k d json.no_members flat rest = rw flat
put_flat k d (json.member l e ms) flat rest = put_at (slice_cmp nat_cmp k l) k l d e ms flat rest (put_flat k d ms flat (or_right (has_float e) (members_have_float ms) rest))

mutual
  flat : (t : Tree) → has_float (printed t) ≡ false
  flat null = refl
  flat (boolean b) = refl
  flat (number z) = flat_number z (is_wide z) refl
  flat (text s) = refl
  flat (array ts) = flat_items ts
  flat (fields fs) = flat_fields fs json.no_members refl
  flat (object o) = refl
  flat (function name) = refl

  flat_items : (ts : Items) → items_have_float (printed_items ts) ≡ false
  flat_items no_items = refl
  flat_items (item t ts) = rw (flat t, flat_items ts)

  flat_fields : (fs : Fields) (found : json.Members) → members_have_float found ≡ false → members_have_float (printed_fields fs found) ≡ false
  flat_fields no_fields found h = h
  flat_fields (field name t fs) found h = flat_fields fs (json.put name (printed t) found) (put_flat name (printed t) found (flat t) h)

-- ---- values and amounts

flat_whole : (n : ℕ) (b : Bool) → nat_lt n (2 ^ 63) ≡ b → has_float (number_json n) ≡ false
flat_whole n true is = rw is refl
flat_whole n false is = rw is refl

flat_elements : (es : List Element) → items_have_float (elements_json es) ≡ false
flat_elements [] = refl
flat_elements (rows.key s ∷ es) = flat_elements es
flat_elements (rows.counted s n ∷ es) = rw (flat_whole n (nat_lt n (2 ^ 63)) refl, flat_elements es)

flat_value : (v : Value) → has_float (value_json v) ≡ false
flat_value (rows.number n) = flat_whole n (nat_lt n (2 ^ 63)) refl
flat_value (rows.elements es) = flat_elements es

flat_amounts : (ks : List KeywordAmount) → members_have_float (amounts_json ks) ≡ false
flat_amounts [] = refl
flat_amounts (k ∷ ks) = rw (flat_value k.value, flat_amounts ks)

flat_payouts : (ps : List Payout) → members_have_float (payouts_json ps) ≡ false
flat_payouts [] = refl
flat_payouts (p ∷ ps) = flat_payouts ps

-- ---- rows

flat_answer : (a : Answer) → has_float (answer_json (printed_answer a)) ≡ false
flat_answer (given t) = rw (flat t)
flat_answer (refused r) = rw (flat_items _)
flat_answer (threw t) = rw (flat t)
flat_answer (spent meter) = refl

pub flat_turn : (t : Turn) → has_float (turn_row (turns.printed t)) ≡ false
flat_turn t = rw (flat_answer t.answer, flat_items _)

flat_rule : (r : rows.ExitRule) → has_float (exit_rule_json r) ≡ false
flat_rule rows.on_demand = refl
flat_rule rows.waived = refl
flat_rule (rows.after_deadline time) = rw (flat_whole time (nat_lt time (2 ^ 63)) refl)

flat_settlement : (s : SettlementView) → has_float (settlement_json (printed_settlement s)) ≡ false
flat_settlement (settlements.ok t) = rw (flat t)
flat_settlement (settlements.broken t) = rw (flat t)

pub flat_event : (e : Event) → has_float (event_row (printed_event e)) ≡ false
flat_event (called c) = rw (flat_answer c.answer, flat_items _)
flat_event (opened o) = rw (flat_rule _, flat_amounts (printed_shares o.proposal.give), flat_amounts (printed_shares o.proposal.want))
flat_event (moved m) = rw (flat_value _)
flat_event (exited x) = rw (flat_payouts _)
flat_event (settled promise s) = rw (flat_settlement s)

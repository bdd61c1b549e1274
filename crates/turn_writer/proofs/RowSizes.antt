-- Data is printed as at least so many bytes as its size tells, where the fields of its records stand in order. So a
-- turn whose rows are short is none of which sizes tell that a row is too long.
use Rattle.std.proofs.Common.{◌≡◌, ◌≤◌, ◌<◌, ◌+◌, ◌^◌, ℕ, ℤ, pos, negsuc, List, [], ◌∷◌, ◌++◌, length, map, Bool, true, false, cond, if◌then◌else◌, not, nat_lt, Less, Greater, refl, ap, ◌∙◌, arith, length-append}
use Rattle.std.proofs.lemmas.Bool.{le-ltb}
use Rattle.std.proofs.lemmas.Cmp.{nat_list_cmp_total}
use Rattle.std.proofs.lemmas.Fmt.{decimal_nonempty}
use Rattle.std.specs.List.{AllByRecursion, list_any}
use Rattle.std.specs.Ordering.{nat_cmp, ordering_reverse}
use Rattle.std.specs.Cmp.Lexicographic.{slice_cmp}
use Rattle.json.specs.Print.{escape, escape_byte, escape_letter, quoted}
use Rattle.serde_json.specs.Data as json
use Rattle.serde_json.specs.Written.{comma_if, compact_text, items_text, members_text}
use Rattle.turn_records.specs.Deliveries.{Delivery, tick, offer, Reading, nothing, target, gift, time, settlement}
use Rattle.turn_records.specs.Events.{Answer, given, refused, spent, threw, Event, called, exited, moved, opened, settled}
use Rattle.turn_records.specs.Printed as turns
use Rattle.turn_records.specs.Printed.{printed_answer, printed_event, printed_settlement, read_trees, trees_of}
use Rattle.turn_records.specs.Printable.{most_nested}
use Rattle.turn_records.specs.PrintedData.{is_wide, printed, printed_fields, printed_items, printed_number}
use Rattle.turn_records.specs.Turns.{Turn}
use Rattle.turn_records.specs.host_data.Tree.{Tree, null, boolean, number, text, array, fields, object, function, Items, no_items, item, Fields, no_fields, field, Before, Ordered, OrderedFields, OrderedItems, fields_size, items_size, nesting, size}
use Rattle.turn_records.specs.host_data.View.{items_of}
use Rattle.turn_records.specs.promise_store.States as settlements
use Rattle.turn_records.specs.promise_store.States.{SettlementView}
use Rattle.turn_rows.specs.Rows.{answer_json, event_row, settlement_json, sum_row, turn_row}
use Rattle.turn_rows.specs.amount_math.Content.{key_cmp}
use Rattle.turn_writer.specs.ShortRows.{HasAnswerInOrder, HasDataInOrder, HasEventInOrder, HasShortRows, IsShortRow, answer_size, arguments_size, event_size, has_long_row, is_long_event, most_row, reading_size, settled_tree, turn_row_size}
use Rattle.turn_rows.specs.declared.editions.Edition.{Edition}

-- ---- numbers and texts

is_narrow : (n : ℕ) → not (nat_lt n (2 ^ 63)) ≡ false → n < 2 ^ 64
is_narrow n is = grind (arith, is)

number_some : (z : ℤ) (b : Bool) → is_wide z ≡ b → 1 ≤ length (compact_text (printed_number z))
number_some z true is = rw is (omega arith)
number_some (pos n) false is = rw is (decimal_nonempty n (is_narrow n is))
number_some (negsuc n) false is = rw is (omega arith)

one_of : (a b : Bool) (ps qs rs : List ℕ) → 1 ≤ length ps → 1 ≤ length qs → 1 ≤ length rs → 1 ≤ length (cond a ps (cond b qs rs))
one_of true b ps qs rs p q r = p
one_of false true ps qs rs p q r = q
one_of false false ps qs rs p q r = r

escape_some : (x : ℕ) → 1 ≤ length (escape_byte x)
unfolding escape_byte
escape_some x = one_of (nat_lt 0 (escape_letter x)) (nat_lt x 32) _ _ _ (omega arith) (omega arith) (omega arith)

escape_long : (s : List ℕ) → length s ≤ length (escape s)
escape_long [] = omega arith
escape_long (x ∷ s) = omega (arith, escape_some x, escape_long s, length-append (escape_byte x) (escape s))

quoted_long : (s : List ℕ) → length s + 2 ≤ length (quoted s)
quoted_long s = omega (arith, escape_long s, length-append (escape s) (34 ∷ []))

-- ---- members

-- names and what stands under them
abbrev members_size : json.Members → ℕ
members_size json.no_members = 0
members_size (json.member k d ms) = length k + length (compact_text d) + members_size ms

members_long : (later : Bool) (ms : json.Members) → members_size ms + 1 ≤ length (members_text later ms)
members_long later json.no_members = omega arith
members_long later (json.member k d ms) =
    let rest = members_text true ms in
    omega (arith, quoted_long k, members_long true ms, length-append (comma_if later) (quoted k ++ 58 ∷ (compact_text d ++ rest)), length-append (quoted k) (58 ∷ (compact_text d ++ rest)), length-append (compact_text d) rest)

-- each name stands before k
abbrev AllBefore : json.Members → List ℕ → Type 0
AllBefore json.no_members k = Unit {0}
AllBefore (json.member l e ms) k = (key_cmp l k ≡ Less) × AllBefore ms k

after : (k l : List ℕ) → key_cmp l k ≡ Less → slice_cmp nat_cmp k l ≡ Greater
after k l before = nat_list_cmp_total.antisymm k l ∙ ap ordering_reverse before

put_size : (k : List ℕ) (d : json.Data) (ms : json.Members) → AllBefore ms k → members_size (json.put k d ms) ≡ members_size ms + (length k + length (compact_text d))
put_size k d json.no_members h = omega arith
put_size k d (json.member l e ms) h = rw (after k l h.0) (omega (arith, put_size k d ms h.1))

all_later : (k m : List ℕ) (ms : json.Members) → key_cmp k m ≡ Less → AllBefore ms k → AllBefore ms m
all_later k m json.no_members before h = tt
all_later k m (json.member l e ms) before h = (nat_list_cmp_total.trans l k m h.0 before, all_later k m ms before h.1)

put_before : (k m : List ℕ) (d : json.Data) (ms : json.Members) → key_cmp k m ≡ Less → AllBefore ms k → AllBefore (json.put k d ms) m
put_before k m d json.no_members before h = (before, tt)
put_before k m d (json.member l e ms) before h = rw (after k l h.0) (nat_list_cmp_total.trans l k m h.0 before, put_before k m d ms before h.1)

-- all that was put stands before the fields that are left
abbrev StandBefore : json.Members → Fields → Type 0
StandBefore ms no_fields = Unit {0}
StandBefore ms (field name t fs) = AllBefore ms name

put_stands : (name : List ℕ) (d : json.Data) (ms : json.Members) (fs : Fields) → Before name fs → AllBefore ms name → StandBefore (json.put name d ms) fs
put_stands name d ms no_fields before h = tt
put_stands name d ms (field next t fs) before h = put_before name next d ms before h

none_stands : (fs : Fields) → StandBefore json.no_members fs
none_stands no_fields = tt
none_stands (field name t fs) = tt

-- ---- data

mutual
  data_long : (t : Tree) → Ordered t → size t ≤ length (compact_text (printed t))
  data_long null h = omega arith
  data_long (boolean true) h = omega arith
  data_long (boolean false) h = omega arith
  data_long (number z) h = number_some z (is_wide z) refl
  data_long (text s) h = omega (arith, quoted_long s)
  data_long (array ts) h = omega (arith, items_long false ts h)
  data_long (fields fs) h = omega (arith, fields_long fs json.no_members h (none_stands fs), members_long false (printed_fields fs json.no_members))
  data_long (object o) h = omega arith
  data_long (function name) h = omega arith

  items_long : (later : Bool) (ts : Items) → OrderedItems ts → items_size ts + 1 ≤ length (items_text later (printed_items ts))
  items_long later no_items h = omega arith
  items_long later (item t ts) h =
      let rest = items_text true (printed_items ts) in
      omega (arith, data_long t h.0, items_long true ts h.1, length-append (comma_if later) (compact_text (printed t) ++ rest), length-append (compact_text (printed t)) rest)

  fields_long : (fs : Fields) (found : json.Members) → OrderedFields fs → StandBefore found fs → fields_size fs + members_size found ≤ members_size (printed_fields fs found)
  fields_long no_fields found h stand = omega arith
  fields_long (field name t fs) found h stand =
      omega (arith, data_long t h.0, put_size name (printed t) found stand, fields_long fs (json.put name (printed t) found) h.2 (put_stands name (printed t) found fs h.1 stand))

-- ---- parts of rows

abbrev members_in : json.Data → json.Members
members_in (json.object ms) = ms
members_in _ = json.no_members

row_long : (d : json.Data) → members_size (members_in d) ≤ length (compact_text d)
row_long (json.object ms) = omega (arith, members_long false ms)
row_long json.null = omega arith
row_long (json.boolean b) = omega arith
row_long (json.number n) = omega arith
row_long (json.string s) = omega arith
row_long (json.array ds) = omega arith

answer_long : (a : Answer) → HasAnswerInOrder a → answer_size a ≤ length (compact_text (answer_json (printed_answer a)))
answer_long (given t) h = omega (arith, data_long t h, row_long (answer_json (printed_answer (given t))))
answer_long (refused r) h = omega arith
answer_long (threw t) h = omega (arith, data_long t h, row_long (answer_json (printed_answer (threw t))))
answer_long (spent meter) h = omega arith

settlement_long : (s : SettlementView) → Ordered (settled_tree s) → size (settled_tree s) ≤ length (compact_text (settlement_json (printed_settlement s)))
settlement_long (settlements.ok t) h = omega (arith, data_long t h, row_long (settlement_json (printed_settlement (settlements.ok t))))
settlement_long (settlements.broken t) h = omega (arith, data_long t h, row_long (settlement_json (printed_settlement (settlements.broken t))))

-- ---- arguments

chosen : (b : Bool) (t : Tree) → (if b then size t else 0) ≤ size (if b then t else null)
chosen true t = omega arith
chosen false t = omega arith

reading_long : (r : Reading) → reading_size r ≤ items_size (items_of (read_trees r))
reading_long nothing = omega arith
reading_long (target o args) = omega arith
reading_long (gift t) = omega arith
reading_long (time t) = omega arith
reading_long (settlement (settlements.ok t)) = omega (arith, chosen (nat_lt (nesting t) most_nested) t)
reading_long (settlement (settlements.broken t)) = omega (arith, chosen (nat_lt (nesting t) most_nested) t)

arguments_long : (d : Delivery) (r : Reading) → arguments_size d r ≤ items_size (items_of (trees_of d r))
arguments_long (offer o) r = omega arith
arguments_long (tick t) r = omega arith
arguments_long _ r = reading_long r

-- ---- rows

turn_row_long : (t : Turn) → HasDataInOrder t → turn_row_size t ≤ length (compact_text (turn_row (turns.printed t)))
turn_row_long t h =
    omega (arith, arguments_long t.delivery t.reading, items_long false (items_of (trees_of t.delivery t.reading)) h.arguments, answer_long t.answer h.answer, row_long (turn_row (turns.printed t)))

event_long : (e : Event) → HasEventInOrder e → event_size e ≤ length (compact_text (event_row (printed_event e)))
event_long (called c) h = omega (arith, items_long false (items_of c.arguments) h.0, answer_long c.answer h.1, row_long (event_row (printed_event (called c))))
event_long (opened o) h = omega arith
event_long (moved m) h = omega arith
event_long (exited x) h = omega arith
event_long (settled n s) h = omega (arith, settlement_long s h, row_long (event_row (printed_event (settled n s))))

events_pass : (es : List Event) (others : List json.Data) → AllByRecursion HasEventInOrder es → AllByRecursion IsShortRow (map event_row (map printed_event es) ++ others) → list_any is_long_event es ≡ false
events_pass [] others h short = refl
events_pass (e ∷ es) others h short = rw (le-ltb most_row (event_size e) (omega (arith, event_long e h.0, short.0))) (events_pass es others h.1 short.1)

pub short_rows_pass : (d : Edition) (t : Turn) → HasDataInOrder t → HasShortRows d (turns.printed t) → has_long_row t ≡ false
short_rows_pass d t h short =
    rw (le-ltb most_row (turn_row_size t) (omega (arith, turn_row_long t h, short.0)))
    (events_pass t.events (map (sum_row d) t.sums) h.events short.1)

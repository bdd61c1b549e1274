-- The turns are read back from the rows of a journal, and the rows from its text.
use Rattle.std.proofs.Common.{◌≡◌, ℕ, ◌^◌, List, [], ◌∷◌, ◌++◌, map, Bool, true, false, nat_lt, refl, sym, ap, ◌∙◌, append_assoc, eqb}
use Rattle.std.specs.List.{AllByRecursion, flat_map, slice_split}
use Rattle.std.specs.Prelude.{codes, if◌then◌else◌}
use Rattle.std.specs.Str.{bytes_eq}
use Rattle.serde_json.specs.Data as json
use Rattle.serde_json.specs.Written.{compact_text}
use Rattle.rights_model.specs.declared.Sum.{Sum}
use Rattle.turn_rows.specs.ReadBack.{amount_brand_in, amount_value_in, answer_in, call_in, cause_in, element_in, elements_in, event_in, exit_rule_in, how_in, kind_in, seat_exit_in, move_in, number_in, opening_in, payouts_in, amounts_in, settlement_in, sum_in, text_in, turn_in, value_in, whole_in}
use Rattle.turn_rows.specs.Causes as causes
use Rattle.turn_rows.specs.Causes.{Cause, cause_word}
use Rattle.turn_rows.specs.Kinds as kinds
use Rattle.turn_rows.specs.Kinds.{How, how_word, Kind, kind_word}
use Rattle.turn_rows.specs.Rows.{amount_json, amounts_json, answer_json, call_row, element_json, elements_json, event_row, exit_rule_json, exit_row, move_row, number_json, open_row, payouts_json, rows_of, settlement_json, sum_row, turn_row, value_json}
use Rattle.turn_rows.specs.Texts.{journal_rows, journal_text, row_text}
use Rattle.turn_rows.specs.Editions.{version_rows}
use Rattle.turn_rows.specs.declared.editions.Edition.{Edition}
use Rattle.turn_rows.specs.declared.editions.Edition.TheVariants.{First, Second}
use Rattle.turn_rows.proofs.Ranges.{IsElement, IsEvent, IsExitRule, IsJournal, IsOpening, IsPayout, IsPlain, IsAmount, IsSum, IsTurn, IsValue, IsWide}
use Rattle.turn_rows.specs.Turns.{Answer, ok, refused, threw, spent, Call, Element, key, counted, Value, number, elements, KeywordAmount, ExitRule, on_demand, waived, after_deadline, Opening, Move, Payout, SeatExit, Settlement, fulfilled, broken, Event, called, opened, moved, exited, settled, Turn}
use Rattle.turn_rows.proofs.Feeds.{no_feed, slice_split-row}
use Rattle.turn_rows.proofs.Names.{brand_read, holder_read, instance_read, payment_read, value-decimal}
use Rattle.turn_rows.proofs.Plain.{one_value}

-- ---- words

kind_read : (k : Kind) → kind_in (kind_word k) ≡ k
kind_read kinds.service = refl
kind_read kinds.facet = refl
kind_read kinds.handler = refl
kind_read kinds.wake = refl
kind_read kinds.notify = refl
kind_read kinds.deadline = refl
kind_read kinds.start = refl
kind_read kinds.tick = refl
kind_read kinds.give = refl
kind_read kinds.bad = refl
kind_read kinds.message = refl

how_read : (h : How) → how_in (how_word h) ≡ h
how_read kinds.calls = refl
how_read kinds.sends = refl
how_read kinds.when = refl
how_read kinds.far = refl

cause_read : (c : Cause) → cause_in (cause_word c) ≡ c
cause_read causes.asked = refl
cause_read causes.deadline = refl
cause_read causes.exit = refl
cause_read causes.fail = refl
cause_read causes.threw = refl
cause_read causes.halted = refl
cause_read causes.spent = refl

-- ---- parts

answer_read : (a : Answer) → answer_in (answer_json a) ≡ a
answer_read (ok d) = refl
answer_read (refused code shown) = refl
answer_read (threw d) = refl
answer_read (spent meter) = refl

number_by : (n : ℕ) (b : Bool) → nat_lt n (2 ^ 63) ≡ b → IsWide n → number_in (number_json n) ≡ n
number_by n true is h = rw is refl
number_by n false is h = rw is (value-decimal n h)

number_read : (n : ℕ) → IsWide n → number_in (number_json n) ≡ n
number_read n h = number_by n (nat_lt n (2 ^ 63)) refl h

element_read : (e : Element) → IsElement e → element_in (element_json e) ≡ e
element_read (key s) h = refl
element_read (counted s n) h = ap (counted s) (number_read n h)

elements_read : (es : List Element) → AllByRecursion IsElement es → elements_in (elements_json es) ≡ es
elements_read [] h = refl
elements_read (e ∷ es) h = rw (element_read e h.0, elements_read es h.1) refl

number_value : (n : ℕ) (b : Bool) → nat_lt n (2 ^ 63) ≡ b → IsWide n → value_in (number_json n) ≡ number n
number_value n true is h = rw is refl
number_value n false is h = rw is (ap number (value-decimal n h))

value_read : (v : Value) → IsValue v → value_in (value_json v) ≡ v
value_read (number n) h = number_value n (nat_lt n (2 ^ 63)) refl h
value_read (elements es) h = ap elements (elements_read es h)

amounts_read : (rs : List KeywordAmount) → AllByRecursion IsAmount rs → amounts_in (amounts_json rs) ≡ rs
amounts_read [] h = refl
amounts_read (r ∷ rs) h = rw (brand_read r.brand h.0.0, value_read r.value h.0.1, amounts_read rs h.1) refl

-- an amount is read back from its JSON
pub amount_read : (b : ℕ) (v : Value) → IsWide b → IsValue v → (amount_brand_in (amount_json b v) ≡ b) × (amount_value_in (amount_json b v) ≡ v)
amount_read b v wide value = (brand_read b wide, value_read v value)

exit_rule_read : (e : ExitRule) → IsExitRule e → exit_rule_in (exit_rule_json e) ≡ e
exit_rule_read on_demand h = refl
exit_rule_read waived h = refl
exit_rule_read (after_deadline time) h = ap after_deadline (number_read time h)

payouts_read : (ps : List Payout) → AllByRecursion IsPayout ps → payouts_in (payouts_json ps) ≡ ps
payouts_read [] h = refl
payouts_read (p ∷ ps) h = rw (payment_read p.payment h.0, payouts_read ps h.1) refl

settlement_read : (s : Settlement) → settlement_in (settlement_json s) ≡ s
settlement_read (fulfilled d) = refl
settlement_read (broken d) = refl

-- ---- rows

call_read : (c : Call) → call_in (call_row c) ≡ c
call_read c = rw (how_read c.how, answer_read c.answer) refl

opening_read : (o : Opening) → IsOpening o → opening_in (open_row o) ≡ o
opening_read o h = rw (instance_read o.instance h.instance, amounts_read o.give h.give, amounts_read o.want h.want, exit_rule_read o.exit h.exit) refl

seat_exit_read : (x : SeatExit) → AllByRecursion IsPayout x.payouts → seat_exit_in (exit_row x) ≡ x
seat_exit_read x h = rw (cause_read x.cause, payouts_read x.payouts h) refl

move_read : (m : Move) → IsEvent (moved m) → move_in (move_row m) ≡ m
move_read m h = rw (brand_read m.brand h.0, holder_read m.from h.1, holder_read m.to h.2, value_read m.value h.3) refl

pub event_read : (e : Event) → IsEvent e → event_in (event_row e) ≡ e
event_read (called c) h = ap called (call_read c)
event_read (opened o) h = ap opened (opening_read o h)
event_read (moved m) h = ap moved (move_read m h)
event_read (exited x) h = ap exited (seat_exit_read x h)
event_read (settled promise s) h = ap (settled promise) (settlement_read s)

pub sum_read : (d : Edition) (s : Sum) → IsSum s → sum_in (sum_row d s) ≡ s
sum_read d s h = rw (brand_read s.brand h.brand, value-decimal s.burned h.burned, value-decimal s.minted h.minted, value-decimal s.payments h.payments, value-decimal s.purses h.purses, value-decimal s.slots h.slots) refl

pub turn_read : (t : Turn) → turn_in (turn_row t) t.events t.sums ≡ t
turn_read t = rw (kind_read t.kind, answer_read t.answer) refl

-- ---- turns

-- what the rows from some row on tell: events and sums of a turn whose row stands before, later turns, and what is left
record Later : Type 0 where
  events : List Event
  sums : List Sum
  turns : List Turn
  left : ℕ

abbrev later : List Event → List Sum → List Turn → ℕ → Later
later es ss ts left = record { events = es; sums = ss; turns = ts; left = left }

abbrev with_row : json.Data → Later → Later
with_row row l =
    if bytes_eq (text_in (codes "row") row) (codes "turn") then later [] [] (turn_in row l.events l.sums ∷ l.turns) l.left else
    if bytes_eq (text_in (codes "row") row) (codes "sum") then later l.events (sum_in row ∷ l.sums) l.turns l.left else
    if bytes_eq (text_in (codes "row") row) (codes "close") then later [] [] [] (whole_in (codes "left") row) else
    if bytes_eq (text_in (codes "row") row) (codes "version") then l else later (event_in row ∷ l.events) l.sums l.turns l.left

abbrev told_by : List json.Data → Later
told_by [] = later [] [] [] 0
told_by (row ∷ rows) = with_row row (told_by rows)

with_sum : (d : Edition) (s : Sum) (l : Later) → with_row (sum_row d s) l ≡ later l.events (sum_in (sum_row d s) ∷ l.sums) l.turns l.left
with_sum d s l = refl

sums_told : (d : Edition) (ss : List Sum) (more : List json.Data) (ts : List Turn) (left : ℕ) → AllByRecursion IsSum ss → told_by more ≡ later [] [] ts left
    → told_by (map (sum_row d) ss ++ more) ≡ later [] ss ts left
sums_told d [] more ts left h is = is
sums_told d (s ∷ ss) more ts left h is = rw (sums_told d ss more ts left h.1 is) (with_sum d s (later [] ss ts left) ∙ ap (λ x. later [] (x ∷ ss) ts left) (sum_read d s h.0))

with_event : (e : Event) (l : Later) → with_row (event_row e) l ≡ later (event_in (event_row e) ∷ l.events) l.sums l.turns l.left
with_event (called c) l = refl
with_event (opened o) l = refl
with_event (moved m) l = refl
with_event (exited x) l = refl
with_event (settled promise s) l = refl

events_told : (es : List Event) (more : List json.Data) (ss : List Sum) (ts : List Turn) (left : ℕ) → AllByRecursion IsEvent es → told_by more ≡ later [] ss ts left
    → told_by (map event_row es ++ more) ≡ later es ss ts left
events_told [] more ss ts left h is = is
events_told (e ∷ es) more ss ts left h is =
    ap (with_row (event_row e)) (events_told es more ss ts left h.1 is) ∙ with_event e _ ∙ ap (λ x. later (x ∷ es) ss ts left) (event_read e h.0)

turn_told : (d : Edition) (t : Turn) (more : List json.Data) (ts : List Turn) (left : ℕ) → IsTurn t → told_by more ≡ later [] [] ts left → told_by (rows_of d t ++ more) ≡ later [] [] (t ∷ ts) left
turn_told d t more ts left h is =
    let below : told_by ((map event_row t.events ++ map (sum_row d) t.sums) ++ more) ≡ later t.events t.sums ts left =
    rw append_assoc (events_told t.events _ t.sums ts left h.events (sums_told d t.sums more ts left h.sums is)) in
    rw below (ap (λ x. later [] [] (x ∷ ts) left) (turn_read t))

turns_told : (d : Edition) (ts : List Turn) (more : List json.Data) (left : ℕ) → AllByRecursion IsTurn ts → told_by more ≡ later [] [] [] left → told_by (flat_map (rows_of d) ts ++ more) ≡ later [] [] ts left
turns_told d [] more left h is = is
turns_told d (t ∷ ts) more left h is = ap told_by (append_assoc (rows_of d t) (flat_map (rows_of d) ts) more) ∙ turn_told d t _ ts left h.0 (turns_told d ts more left h.1 is)

version_told : (d : Edition) (more : List json.Data) → told_by (version_rows d ++ more) ≡ told_by more
version_told First more = refl
version_told Second more = refl

-- ---- texts

lines_are : (rows : List json.Data) → AllByRecursion IsPlain rows → slice_split (λ b. eqb b 10) (flat_map row_text rows) ≡ map compact_text rows ++ [] ∷ []
unfolding row_text
lines_are [] h = refl
lines_are (row ∷ rows) h =
    let apart : (compact_text row ++ 10 ∷ []) ++ flat_map row_text rows ≡ compact_text row ++ 10 ∷ flat_map row_text rows = append_assoc (compact_text row) (10 ∷ []) _ in
    rw (apart, slice_split-row (compact_text row) (flat_map row_text rows) (no_feed row h.0)) (ap (λ (ls : List (List ℕ)). compact_text row ∷ ls) (lines_are rows h.1))

one_list : (xs ys : List json.Data) → AllByRecursion IsPlain xs → AllByRecursion IsPlain ys → map compact_text xs ++ [] ∷ [] ≡ map compact_text ys ++ [] ∷ [] → xs ≡ ys
one_list [] [] h k same = refl
one_list [] (y ∷ []) h k same = absurd (cc)
one_list [] (y ∷ z ∷ ys) h k same = absurd (cc)
one_list (x ∷ []) [] h k same = absurd (cc)
one_list (x ∷ z ∷ xs) [] h k same = absurd (cc)
one_list (x ∷ xs) (y ∷ ys) h k same =
    let heads : compact_text x ≡ compact_text y = cc in
    let tails : map compact_text xs ++ [] ∷ [] ≡ map compact_text ys ++ [] ∷ [] = cc in
    rw (one_value x y h.0 k.0 heads, one_list xs ys h.1 k.1 tails) refl

pub one_text : (d : Edition) (ts us : List Turn) (left others : ℕ) → IsJournal d ts left → IsJournal d us others → journal_text d ts left ≡ journal_text d us others → (ts ≡ us) × (left ≡ others)
one_text d ts us left others h k same =
    let lines : map compact_text (journal_rows d ts left) ++ [] ∷ [] ≡ map compact_text (journal_rows d us others) ++ [] ∷ [] =
    sym (lines_are (journal_rows d ts left) h.rows) ∙ ap (slice_split (λ b. eqb b 10)) same ∙ lines_are (journal_rows d us others) k.rows in
    let rows : journal_rows d ts left ≡ journal_rows d us others = one_list _ _ h.rows k.rows lines in
    let told : later [] [] ts left ≡ later [] [] us others = sym (version_told d _ ∙ turns_told d ts _ left h.turns refl) ∙ ap told_by rows ∙ (version_told d _ ∙ turns_told d us _ others k.turns refl) in
    (ap (λ l. l.turns) told, ap (λ l. l.left) told)

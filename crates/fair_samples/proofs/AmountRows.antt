-- Rows that answer amounts: where each of them is as the table has it, the list of turns meets the sentence.
use Rattle.std.proofs.Common.{◌≡◌, ◌≤◌, ◌<◌, ◌+◌, ◌/◌, ◌%◌, ℕ, zero, suc, Bool, true, false, cond, not, ◌&&◌, ◌==◌, List, [], ◌∷◌, length, codes, bytes_eq, refl, sym, ap, subst, ◌∙◌, ⊎_elim, ne_eqb, arith, get_or}
use Rattle.std.proofs.lemmas.Bool.{and_parts, cases_lt, true≢false}
use Rattle.std.proofs.lemmas.Fmt.{decimal_digit}
use Rattle.std.specs.Prelude.{MatchBool}
use Rattle.std.specs.Cmp.Lexicographic.{bytes_decides}
use Rattle.std.specs.Fmt.{decimal, digit_glyph, digits, digits_onto}
use Rattle.fair_rows.specs.amount_math.ValueView.{IsValue}
use Rattle.fair_rows.specs.amount_math.declared.Kind.{Kind}
use Rattle.fair_rows.specs.rights_model.Supply.{is_outside}
use Rattle.fair_rows.specs.rights_model.Table.{Table, holds}
use Rattle.fair_rows.specs.rights_model.declared.Holder.{Holder}
use Rattle.fair_rows.specs.rights_model.declared.Sum.{Sum}
use Rattle.fair_rows.specs.turn_rows.Turns.{Call, Event, Move, Turn, Value, called, exited, moved, opened, settled, Opening, SeatExit, Settlement}
use Rattle.fair_rows.specs.turn_rows.declared.editions.Edition.{Edition}
use Rattle.fair_rows.specs.Amounts.{IsPrinted}
use Rattle.fair_rows.specs.ExitCauses.{calls, is_call, is_ok, name, serves}
use Rattle.fair_rows.specs.Rows.{InTurn, after_event}
use Rattle.fair_rows.specs.SoFar.{SoFar, with_turn}
use Rattle.fair_rows.specs.Turns.{after_events, after_turn_row}
use Rattle.fair_rows.specs.Values.{content_of, value_of}
use Rattle.fair_samples.specs.Sentences.{AtEnd, AtRow, AtTurnRow, MeetsFrom, MeetsRows, Sentence, current_amounts, final_amounts, payment_amounts, purse_amounts, slot_amounts}
use Rattle.fair_samples.proofs.Held.{has_just, just, table_of}
use Rattle.fair_samples.proofs.Printed.{is_value, value_is}
use Rattle.fair_samples.proofs.Sound.{no_call, no_read}
use Rattle.fair_samples.proofs.Tests.{is_call_of, is_read}

-- ---- numbers of one digit in names

either : (b : Bool) (m : ℕ) (xs ys : List ℕ) → m < length xs → m < length ys → m < length (cond b xs ys)
either true m xs ys p q = p
either false m xs ys p q = q

one_more : (m x : ℕ) (xs : List ℕ) → m ≡ length xs → m < length (x ∷ xs)
one_more m x xs e = omega (arith, e)

less_than_more : (m x : ℕ) (xs ys : List ℕ) → length (x ∷ xs) < length ys → m ≡ length xs → m < length ys
less_than_more m x xs ys h e = omega (arith, e, h)

longer : (k n : ℕ) (acc : List ℕ) → length acc < length (digits_onto (suc k) 10 false n acc)
longer zero n acc = either (n / 10 == 0) (length acc) _ _ (one_more (length acc) (digit_glyph false (n % 10)) acc refl) (one_more (length acc) (digit_glyph false (n % 10)) acc refl)
longer (suc k) n acc = either (n / 10 == 0) (length acc) _ _ (one_more (length acc) (digit_glyph false (n % 10)) acc refl) (less_than_more (length acc) (digit_glyph false (n % 10)) acc _ (longer k (n / 10) (digit_glyph false (n % 10) ∷ acc)) refl)

if_false : (b : Bool) (m : ℕ) (xs ys : List ℕ) → b ≡ false → m < length ys → m < length (cond b xs ys)
if_false true m xs ys e h = absurd (true≢false e)
if_false false m xs ys e h = h

two_digits : (n : ℕ) → 10 ≤ n → 1 < length (decimal n)
unfolding digits
two_digits n much = if_false (n / 10 == 0) 1 _ _ (ne_eqb (n / 10) 0 (λ none. omega (arith, none, much))) (longer 62 (n / 10) (digit_glyph false (n % 10) ∷ []))

pub one_digit : (n d : ℕ) → (48 + d) ∷ [] ≡ decimal n → n ≡ d
one_digit n d is = ⊎_elim
    (λ few. omega (arith, ap (λ (xs : List ℕ). get_or xs 0 0) (is ∙ decimal_digit n few)))
    (λ much. absurd (omega (arith, two_digits n much, ap (λ (xs : List ℕ). length xs) is)))
    (cases_lt n 10)

-- ---- what a holder has, as it is printed

pub printed : (t : Table) (ms : List Move) (h : Holder) (b : ℕ) (kind : Kind) (v : Value) → t ≡ table_of ms → is_outside h ≡ false → has_just ms h b v ≡ true → is_value kind v ≡ true → IsPrinted (holds t h b) v
printed t ms h b kind v is inside there good =
    let same : content_of v ≡ holds t h b = just ms h b v inside there ∙ ap (λ u. holds u h b) (sym is) in
    let parts = value_is kind v good in
    record { kind = kind; value = subst (IsValue kind) same parts.0; is = parts.1 ∙ ap (value_of kind) same }

-- ---- turn rows

abbrev pub ReadsMet : List ℕ → Sentence → SoFar → List Turn → Type 0
ReadsMet method y s [] = Unit {0}
ReadsMet method y s (t ∷ ts) = MatchBool (is_read method t) (AtTurnRow y s t) (Unit {0}) × ReadsMet method y (with_turn s t) ts

match : {P : Type 0} (Q : Type 0) (b : Bool) → (b ≡ false → P) → MatchBool b P Q → P
match Q true other h = h
match Q false other h = other refl

rows_of_nothing : (y : Sentence) → ((i : InTurn) (e : Event) → AtRow y i e) → (i : InTurn) (es : List Event) → MeetsRows y i es
rows_of_nothing y so i [] = tt
rows_of_nothing y so i (e ∷ es) = (so i e, rows_of_nothing y so (after_event i e) es)

reads_met : (d : Edition) (method : List ℕ) (y : Sentence) → ((s : SoFar) (t : Turn) → is_read method t ≡ false → AtTurnRow y s t) → ((i : InTurn) (e : Event) → AtRow y i e) → ((i : InTurn) (sums : List Sum) → AtEnd d y i sums) → (s : SoFar) (ts : List Turn) → ReadsMet method y s ts → MeetsFrom d y s ts
reads_met d method y others rows ends s [] h = tt
reads_met d method y others rows ends s (t ∷ ts) h = ((match _ (is_read method t) (others s t) h.0, rows_of_nothing y rows (after_turn_row s t) t.events, ends (after_events (after_turn_row s t) t.events) t.sums), reads_met d method y others rows ends (with_turn s t) ts h.1)

pub purses_met : (d : Edition) (s : SoFar) (ts : List Turn) → ReadsMet (codes "getCurrentAmount") purse_amounts s ts → MeetsFrom d purse_amounts s ts
purses_met d = reads_met d (codes "getCurrentAmount") purse_amounts (λ s t other n is served. no_read (codes "getCurrentAmount") (name (codes "purse") n) t (ap not other) is served) (λ i e. tt) (λ i sums. tt)

pub payments_met : (d : Edition) (s : SoFar) (ts : List Turn) → ReadsMet (codes "getAmountOf") payment_amounts s ts → MeetsFrom d payment_amounts s ts
payments_met d = reads_met d (codes "getAmountOf") payment_amounts (λ s t other n is served. no_read (codes "getAmountOf") (name (codes "issuer") n) t (ap not other) is served) (λ i e. tt) (λ i sums. tt)

pub finals_met : (d : Edition) (s : SoFar) (ts : List Turn) → ReadsMet (codes "getFinalAllocation") final_amounts s ts → MeetsFrom d final_amounts s ts
finals_met d = reads_met d (codes "getFinalAllocation") final_amounts (λ s t other n is served. no_read (codes "getFinalAllocation") (name (codes "seat") n) t (ap not other) is served) (λ i e. tt) (λ i sums. tt)

-- ---- call rows

abbrev pub CallMet : List ℕ → Sentence → InTurn → Event → Type 0
CallMet method y i (called c) = MatchBool (is_call_of method c) (AtRow y i (called c)) (Unit {0})
CallMet method y i _ = Unit {0}

abbrev pub CallsIn : List ℕ → Sentence → InTurn → List Event → Type 0
CallsIn method y i [] = Unit {0}
CallsIn method y i (e ∷ es) = CallMet method y i e × CallsIn method y (after_event i e) es

abbrev pub CallsMet : List ℕ → Sentence → SoFar → List Turn → Type 0
CallsMet method y s [] = Unit {0}
CallsMet method y s (t ∷ ts) = CallsIn method y (after_turn_row s t) t.events × CallsMet method y (with_turn s t) ts

abbrev Others : Sentence → List ℕ → Type 0
Others y method = (i : InTurn) (c : Call) → is_call_of method c ≡ false → AtRow y i (called c)

call_met : (method : List ℕ) (y : Sentence) → Others y method → ((i : InTurn) (m : Move) → AtRow y i (moved m)) → ((i : InTurn) (o : Opening) → AtRow y i (opened o)) → ((i : InTurn) (x : SeatExit) → AtRow y i (exited x)) → ((i : InTurn) (p : ℕ) (r : Settlement) → AtRow y i (settled p r)) → (i : InTurn) (e : Event) → CallMet method y i e → AtRow y i e
call_met method y others m o x r i (called c) h = match _ (is_call_of method c) (others i c) h
call_met method y others m o x r i (moved z) h = m i z
call_met method y others m o x r i (opened z) h = o i z
call_met method y others m o x r i (exited z) h = x i z
call_met method y others m o x r i (settled p z) h = r i p z

calls_in : (method : List ℕ) (y : Sentence) → ((i : InTurn) (e : Event) → CallMet method y i e → AtRow y i e) → (i : InTurn) (es : List Event) → CallsIn method y i es → MeetsRows y i es
calls_in method y so i [] h = tt
calls_in method y so i (e ∷ es) h = (so i e h.0, calls_in method y so (after_event i e) es h.1)

calls_met : (d : Edition) (method : List ℕ) (y : Sentence) → ((i : InTurn) (e : Event) → CallMet method y i e → AtRow y i e) → ((s : SoFar) (t : Turn) → AtTurnRow y s t) → ((i : InTurn) (sums : List Sum) → AtEnd d y i sums) → (s : SoFar) (ts : List Turn) → CallsMet method y s ts → MeetsFrom d y s ts
calls_met d method y so rows ends s [] h = tt
calls_met d method y so rows ends s (t ∷ ts) h = ((rows s t, calls_in method y so (after_turn_row s t) t.events h.0, ends (after_events (after_turn_row s t) t.events) t.sums), calls_met d method y so rows ends (with_turn s t) ts h.1)

pub currents_met : (d : Edition) (s : SoFar) (ts : List Turn) → CallsMet (codes "getCurrentAllocation") current_amounts s ts → MeetsFrom d current_amounts s ts
currents_met d = calls_met d (codes "getCurrentAllocation") current_amounts (call_met (codes "getCurrentAllocation") current_amounts (λ i c other n made. no_call (codes "getCurrentAllocation") (name (codes "zseat") n) c (ap not other) made) (λ i m. tt) (λ i o. tt) (λ i x. tt) (λ i p r. tt)) (λ s t. tt) (λ i sums. tt)

pub slots_met : (d : Edition) (s : SoFar) (ts : List Turn) → CallsMet (codes "getAmountAllocated") slot_amounts s ts → MeetsFrom d slot_amounts s ts
slots_met d = calls_met d (codes "getAmountAllocated") slot_amounts (call_met (codes "getAmountAllocated") slot_amounts (λ i c other n made. no_call (codes "getAmountAllocated") (name (codes "zseat") n) c (ap not other) made) (λ i m. tt) (λ i o. tt) (λ i x. tt) (λ i p r. tt)) (λ s t. tt) (λ i sums. tt)

-- ---- names

same_bytes : (s t : List ℕ) → bytes_eq s t ≡ true → s ≡ t
same_bytes s t e = (bytes_decides s t).0 e

pub served_on : (on method : List ℕ) (t : Turn) → serves on method t ≡ true → t.on ≡ on
served_on on method t served = same_bytes t.on on (and_parts (is_ok t.answer) (bytes_eq t.on on) (and_parts (is_ok t.answer && bytes_eq t.on on) (bytes_eq t.method method) served).0).1

pub called_on : (on method : List ℕ) (c : Call) → calls on method c ≡ true → c.on ≡ on
called_on on method c made = same_bytes c.on on (and_parts (is_call c.how && is_ok c.answer) (bytes_eq c.on on) (and_parts (is_call c.how && is_ok c.answer && bytes_eq c.on on) (bytes_eq c.method method) made).0).1

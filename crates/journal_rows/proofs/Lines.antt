-- A row in form is one line, and the line tells the row.
use Rattle.std.proofs.Common.{◌≡◌, ◌≢◌, ℕ, false, List, [], ◌∷◌, ◌++◌, eqb, refl, sym, ap, subst, ◌∙◌, append_assoc, arith}
use Rattle.std.proofs.lemmas.Bool.Decides.{nat_tests}
use Rattle.std.specs.List.{AllByRecursion}
use Rattle.serde_json.specs.Written.{compact_text}
use Rattle.fair_rows.specs.turn_rows.ReadBack.{turn_in}
use Rattle.fair_rows.specs.turn_rows.Rows.{turn_row}
use Rattle.fair_rows.specs.turn_rows.Texts.{row_text}
use Rattle.fair_rows.specs.turn_rows.Turns.{Event, Turn, called, exited, moved, opened, settled}
use Rattle.fair_rows.specs.turn_rows.declared.editions.Edition.{Edition}
use Rattle.fair_rows.specs.turn_rows.declared.editions.Edition.TheVariants.{Second}
use Rattle.fair_rows.specs.turn_rows.rights_model.declared.Sum.{Sum}
use Rattle.fair_rows.proofs.turn_rows.Feeds.{NoFeed, no_feed}
use Rattle.fair_rows.proofs.turn_rows.InForm.{event_in_form, items_are_plain, plain_answer, plain_event as plain_form, sum_in_form}
use Rattle.fair_rows.proofs.turn_rows.Plain.{one_value}
use Rattle.fair_rows.proofs.turn_rows.PlainRows.{plain_close, plain_event, plain_sum, plain_turn, plain_version}
use Rattle.fair_rows.proofs.turn_rows.Ranges.{IsPlain}
use Rattle.fair_rows.proofs.turn_rows.Read.{turn_read}
use Rattle.journal_rows.specs.Laws.{OneRow, RowsAreLines, RowsAreReadBack}
use Rattle.journal_rows.specs.Row.{HasRowForm, IsTurnRow, Row, close, event, row_in, row_json, row_line, sum, turn, version}

-- ---- rows are plain

plain_turn_row : (e : Edition) (t : Turn) → IsTurnRow t → IsPlain (row_json e (turn t))
plain_turn_row e t h =
    (plain_turn e t (record {
      number = h.number;
      arguments = items_are_plain t.arguments h.arguments;
      answer = plain_answer t.answer h.answer;
      events = rw h.no_events tt;
    })).0

plain_row : (e : Edition) (r : Row) → HasRowForm e r → IsPlain (row_json e r)
plain_row e version h = (plain_version Second).0
plain_row e (turn t) h = plain_turn_row e t h.row
plain_row e (event x) h = plain_event x (plain_form e x h.row)
plain_row e (sum s) h = plain_sum e s
plain_row e (close left turns) h = plain_close left turns h.row.0 h.row.1

-- ---- lines

pub no_row_feed : (e : Edition) (r : Row) → HasRowForm e r → NoFeed (compact_text (row_json e r))
no_row_feed e r h = no_feed (row_json e r) (plain_row e r h)

isnt_feed : (b : ℕ) → eqb b 10 ≡ false → b ≢ 10
isnt_feed b h = grind (arith, nat_tests)

each_isnt : (bs : List ℕ) → NoFeed bs → AllByRecursion (λ b. b ≢ 10) bs
each_isnt [] h = tt
each_isnt (b ∷ bs) h = (isnt_feed b h.0, each_isnt bs h.1)

pub rows_are_lines : RowsAreLines
unfolding row_text
rows_are_lines e r h = record { line = compact_text (row_json e r); is = refl; one = each_isnt _ (no_row_feed e r h) }

-- up to the first line feed two texts are the same, and behind it
apart : (xs ys cs bs : List ℕ) → NoFeed xs → NoFeed ys → xs ++ 10 ∷ cs ≡ ys ++ 10 ∷ bs → (xs ≡ ys) × (cs ≡ bs)
apart [] [] cs bs h k same = (refl, cc)
apart [] (y ∷ ys) cs bs h k same = absurd (isnt_feed y k.0 (cc))
apart (x ∷ xs) [] cs bs h k same = absurd (isnt_feed x h.0 (cc))
apart (x ∷ xs) (y ∷ ys) cs bs h k same =
    let heads : x ≡ y = cc in
    let tails : xs ++ 10 ∷ cs ≡ ys ++ 10 ∷ bs = cc in
    let rest = apart xs ys cs bs h.1 k.1 tails in
    (rw (heads, rest.0) refl, rest.1)

-- ---- what a line tells

event_read : (e : Edition) (x : Event) → HasRowForm e (event x) → row_in (row_json e (event x)) ≡ event x
event_read e (called c) h = ap event (event_in_form e (called c) h.row)
event_read e (opened o) h = ap event (event_in_form e (opened o) h.row)
event_read e (moved m) h = ap event (event_in_form e (moved m) h.row)
event_read e (exited x) h = ap event (event_in_form e (exited x) h.row)
event_read e (settled promise s) h = ap event (event_in_form e (settled promise s) h.row)

turn_told : (e : Edition) (t : Turn) → IsTurnRow t → row_in (row_json e (turn t)) ≡ turn t
turn_told e t h =
    ap turn (subst (λ (p : List Event × List Sum). turn_in (turn_row t) p.0 p.1 ≡ t) (λ i. (h.no_events i, h.no_sums i)) (turn_read t))

pub rows_are_read_back : RowsAreReadBack
rows_are_read_back e version h = refl
rows_are_read_back e (turn t) h = turn_told e t h.row
rows_are_read_back e (event x) h = event_read e x h
rows_are_read_back e (sum s) h = ap sum (sum_in_form e s h.row)
rows_are_read_back e (close left turns) h = refl

same_row : (e : Edition) (r q : Row) → HasRowForm e r → HasRowForm e q → compact_text (row_json e r) ≡ compact_text (row_json e q) → r ≡ q
same_row e r q h k same =
    let one : row_json e r ≡ row_json e q = one_value (row_json e r) (row_json e q) (plain_row e r h) (plain_row e q k) same in
    sym (rows_are_read_back e r h) ∙ ap row_in one ∙ rows_are_read_back e q k

-- a text begins with the line of one row in form at most
pub one_beginning : (e : Edition) (r q : Row) (cs bs : List ℕ) → HasRowForm e r → HasRowForm e q → row_line e r ++ cs ≡ row_line e q ++ bs → (r ≡ q) × (cs ≡ bs)
unfolding row_text
one_beginning e r q cs bs h k same =
    let first = compact_text (row_json e r) in
    let second = compact_text (row_json e q) in
    let parts = apart first second cs bs (no_row_feed e r h) (no_row_feed e q k) (sym (append_assoc first (10 ∷ []) cs) ∙ same ∙ append_assoc second (10 ∷ []) bs) in
    (same_row e r q h k parts.0, parts.1)

pub one_row : OneRow
one_row e r q h k same = (one_beginning e r q [] [] h k (ap (λ bytes. bytes ++ []) same)).0

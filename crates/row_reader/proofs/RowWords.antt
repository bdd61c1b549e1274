-- Rows by the word of their kind.
use Rattle.std.proofs.Common.{◌≡◌, ◌≢◌, ◌<◌, ◌^◌, ℕ, List, [], ◌∷◌, Bool, true, false, Option, Some, None, codes, refl, sym, ap, subst, ◌∙◌}
use Rattle.std.specs.Str.{bytes_eq}
use Rattle.serde_json.specs.Data as json
use Rattle.serde_json.specs.Data.{Data, Members}
use Rattle.serde_json.specs.Find.{as_object, as_str, get, get_member}
use Rattle.std.specs.Prelude.{option_and_then}
use Rattle.turn_rows.specs.Editions.{version_row}
use Rattle.turn_rows.specs.Form.{HasCallForm, HasEventForm, HasExitForm, HasOpeningForm, HasSumForm}
use Rattle.turn_rows.specs.Rows.{call_row, close_row, event_row, exit_row, move_row, open_row, sum_row, turn_row}
use Rattle.turn_rows.specs.Turns.{Call, Event, Move, Opening, SeatExit, Settlement, Turn, called, exited, moved, opened, settled}
use Rattle.turn_rows.specs.declared.editions.Edition.{Edition}
use Rattle.turn_rows.specs.declared.editions.Edition.TheVariants.{First, Second}
use Rattle.turn_rows.specs.rights_model.declared.Sum.{Sum}
use Rattle.row_records.specs.journal_rows.Row.{IsTurnRow, MayBeRow, Row, close, event, row_json, sum, turn, version}
use Rattle.row_reader.specs.Events.{HasMoveForm, HasSettledForm, settled_row}
use Rattle.row_reader.proofs.Named.{other_name, texts_same}

abbrev pub event_word : Event → List ℕ
event_word (called c) = codes "call"
event_word (opened o) = codes "open"
event_word (moved m) = codes "move"
event_word (exited x) = codes "exit"
event_word (settled promise s) = codes "settle"

event_has_word : (x : Event) → get (codes "row") (event_row x) ≡ Some (json.string (event_word x))
event_has_word (called c) = refl
event_has_word (opened o) = refl
event_has_word (moved m) = refl
event_has_word (exited x) = refl
event_has_word (settled promise s) = refl

pub event_says : (x : Event) (ms : Members) (w : List ℕ) → get_member (codes "row") ms ≡ Some (json.string w)
    → event_row x ≡ json.object ms → event_word x ≡ w
event_says x ms w row same =
    texts_same (get_member (codes "row") ms) (event_word x) w (sym (ap (get (codes "row")) same) ∙ event_has_word x) row

pub bad_call : (e : Edition) (ms : Members) → get_member (codes "row") ms ≡ Some (json.string (codes "call"))
    → ((y : Call) → HasCallForm y → call_row y ≢ json.object ms) → (x : Event) → HasEventForm e x → event_row x ≡ json.object ms → ⊥
bad_call e ms row bad (called c) form same = bad c form same
bad_call e ms row bad (opened o) form same =
    other_name (codes "open") (codes "call") refl (event_says (opened o) ms (codes "call") row same)
bad_call e ms row bad (moved m) form same =
    other_name (codes "move") (codes "call") refl (event_says (moved m) ms (codes "call") row same)
bad_call e ms row bad (exited x) form same =
    other_name (codes "exit") (codes "call") refl (event_says (exited x) ms (codes "call") row same)
bad_call e ms row bad (settled promise s) form same =
    other_name (codes "settle") (codes "call") refl (event_says (settled promise s) ms (codes "call") row same)

pub bad_open : (e : Edition) (ms : Members) → get_member (codes "row") ms ≡ Some (json.string (codes "open"))
    → ((y : Opening) → HasOpeningForm e y → open_row y ≢ json.object ms) → (x : Event) → HasEventForm e x → event_row x ≡ json.object ms → ⊥
bad_open e ms row bad (called c) form same =
    other_name (codes "call") (codes "open") refl (event_says (called c) ms (codes "open") row same)
bad_open e ms row bad (opened o) form same = bad o form same
bad_open e ms row bad (moved m) form same =
    other_name (codes "move") (codes "open") refl (event_says (moved m) ms (codes "open") row same)
bad_open e ms row bad (exited x) form same =
    other_name (codes "exit") (codes "open") refl (event_says (exited x) ms (codes "open") row same)
bad_open e ms row bad (settled promise s) form same =
    other_name (codes "settle") (codes "open") refl (event_says (settled promise s) ms (codes "open") row same)

pub bad_move : (e : Edition) (ms : Members) → get_member (codes "row") ms ≡ Some (json.string (codes "move"))
    → ((y : Move) → HasMoveForm e y → move_row y ≢ json.object ms) → (x : Event) → HasEventForm e x → event_row x ≡ json.object ms → ⊥
bad_move e ms row bad (called c) form same =
    other_name (codes "call") (codes "move") refl (event_says (called c) ms (codes "move") row same)
bad_move e ms row bad (opened o) form same =
    other_name (codes "open") (codes "move") refl (event_says (opened o) ms (codes "move") row same)
bad_move e ms row bad (moved m) form same = bad m form same
bad_move e ms row bad (exited x) form same =
    other_name (codes "exit") (codes "move") refl (event_says (exited x) ms (codes "move") row same)
bad_move e ms row bad (settled promise s) form same =
    other_name (codes "settle") (codes "move") refl (event_says (settled promise s) ms (codes "move") row same)

pub bad_exit : (e : Edition) (ms : Members) → get_member (codes "row") ms ≡ Some (json.string (codes "exit"))
    → ((y : SeatExit) → HasExitForm y → exit_row y ≢ json.object ms) → (x : Event) → HasEventForm e x → event_row x ≡ json.object ms → ⊥
bad_exit e ms row bad (called c) form same =
    other_name (codes "call") (codes "exit") refl (event_says (called c) ms (codes "exit") row same)
bad_exit e ms row bad (opened o) form same =
    other_name (codes "open") (codes "exit") refl (event_says (opened o) ms (codes "exit") row same)
bad_exit e ms row bad (moved m) form same =
    other_name (codes "move") (codes "exit") refl (event_says (moved m) ms (codes "exit") row same)
bad_exit e ms row bad (exited x) form same = bad x form same
bad_exit e ms row bad (settled promise s) form same =
    other_name (codes "settle") (codes "exit") refl (event_says (settled promise s) ms (codes "exit") row same)

pub bad_settle : (e : Edition) (ms : Members) → get_member (codes "row") ms ≡ Some (json.string (codes "settle"))
    → ((y : ℕ × Settlement) → HasSettledForm y → settled_row y ≢ json.object ms) → (x : Event) → HasEventForm e x → event_row x ≡ json.object ms → ⊥
bad_settle e ms row bad (called c) form same =
    other_name (codes "call") (codes "settle") refl (event_says (called c) ms (codes "settle") row same)
bad_settle e ms row bad (opened o) form same =
    other_name (codes "open") (codes "settle") refl (event_says (opened o) ms (codes "settle") row same)
bad_settle e ms row bad (moved m) form same =
    other_name (codes "move") (codes "settle") refl (event_says (moved m) ms (codes "settle") row same)
bad_settle e ms row bad (exited x) form same =
    other_name (codes "exit") (codes "settle") refl (event_says (exited x) ms (codes "settle") row same)
bad_settle e ms row bad (settled promise s) form same = bad (promise, s) form same

-- a word that no event's row has
no_event_word : (w : List ℕ) → bytes_eq w (codes "call") ≡ false → bytes_eq w (codes "open") ≡ false
    → bytes_eq w (codes "move") ≡ false → bytes_eq w (codes "exit") ≡ false → bytes_eq w (codes "settle") ≡ false
    → (x : Event) → event_word x ≡ w → ⊥
no_event_word w first second third fourth last (called c) same = other_name w (codes "call") first (sym same)
no_event_word w first second third fourth last (opened o) same = other_name w (codes "open") second (sym same)
no_event_word w first second third fourth last (moved m) same = other_name w (codes "move") third (sym same)
no_event_word w first second third fourth last (exited x) same = other_name w (codes "exit") fourth (sym same)
no_event_word w first second third fourth last (settled promise s) same = other_name w (codes "settle") last (sym same)

pub no_event : (e : Edition) (ms : Members) (w : List ℕ) → get_member (codes "row") ms ≡ Some (json.string w)
    → bytes_eq w (codes "call") ≡ false → bytes_eq w (codes "open") ≡ false → bytes_eq w (codes "move") ≡ false
    → bytes_eq w (codes "exit") ≡ false → bytes_eq w (codes "settle") ≡ false
    → (x : Event) → HasEventForm e x → event_row x ≡ json.object ms → ⊥
no_event e ms w row first second third fourth last x form same = no_event_word w first second third fourth last x (event_says x ms w row same)

-- ---- rows

abbrev pub row_word : Row → List ℕ
row_word version = codes "version"
row_word (turn t) = codes "turn"
row_word (event x) = event_word x
row_word (sum s) = codes "sum"
row_word (close left turns) = codes "close"

row_has_word : (e : Edition) (r : Row) → get (codes "row") (row_json e r) ≡ Some (json.string (row_word r))
row_has_word e version = refl
row_has_word e (turn t) = refl
row_has_word e (event x) = event_has_word x
row_has_word e (sum s) = refl
row_has_word e (close left turns) = refl

pub row_says : (e : Edition) (r : Row) (ms : Members) (w : List ℕ) → get_member (codes "row") ms ≡ Some (json.string w)
    → row_json e r ≡ json.object ms → row_word r ≡ w
row_says e r ms w row same =
    texts_same (get_member (codes "row") ms) (row_word r) w (sym (ap (get (codes "row")) same) ∙ row_has_word e r) row

-- an event's word is that of no other row
event_isnt : (w : List ℕ) → bytes_eq (codes "call") w ≡ false → bytes_eq (codes "open") w ≡ false
    → bytes_eq (codes "move") w ≡ false
    → bytes_eq (codes "exit") w ≡ false → bytes_eq (codes "settle") w ≡ false → (x : Event) → event_word x ≡ w → ⊥
event_isnt w first second third fourth last (called c) same = other_name (codes "call") w first same
event_isnt w first second third fourth last (opened o) same = other_name (codes "open") w second same
event_isnt w first second third fourth last (moved m) same = other_name (codes "move") w third same
event_isnt w first second third fourth last (exited x) same = other_name (codes "exit") w fourth same
event_isnt w first second third fourth last (settled promise s) same = other_name (codes "settle") w last same

pub bad_version : (e : Edition) (ms : Members) → get_member (codes "row") ms ≡ Some (json.string (codes "version"))
    → ((y : Unit {0}) → e ≡ Second → version_row ≢ json.object ms) → (r : Row) → MayBeRow e r → row_json e r ≡ json.object ms → ⊥
bad_version e ms row bad version form same = bad tt form same
bad_version e ms row bad (turn t) form same =
    other_name (codes "turn") (codes "version") refl (row_says e (turn t) ms (codes "version") row same)
bad_version e ms row bad (event x) form same = event_isnt (codes "version") refl refl refl refl refl x (row_says e (event x) ms (codes "version") row same)
bad_version e ms row bad (sum s) form same =
    other_name (codes "sum") (codes "version") refl (row_says e (sum s) ms (codes "version") row same)
bad_version e ms row bad (close left turns) form same =
    other_name (codes "close") (codes "version") refl (row_says e (close left turns) ms (codes "version") row same)

pub bad_turn : (e : Edition) (ms : Members) → get_member (codes "row") ms ≡ Some (json.string (codes "turn"))
    → ((y : Turn) → IsTurnRow y → turn_row y ≢ json.object ms) → (r : Row) → MayBeRow e r → row_json e r ≡ json.object ms → ⊥
bad_turn e ms row bad version form same =
    other_name (codes "version") (codes "turn") refl (row_says e version ms (codes "turn") row same)
bad_turn e ms row bad (turn t) form same = bad t form same
bad_turn e ms row bad (event x) form same = event_isnt (codes "turn") refl refl refl refl refl x (row_says e (event x) ms (codes "turn") row same)
bad_turn e ms row bad (sum s) form same =
    other_name (codes "sum") (codes "turn") refl (row_says e (sum s) ms (codes "turn") row same)
bad_turn e ms row bad (close left turns) form same =
    other_name (codes "close") (codes "turn") refl (row_says e (close left turns) ms (codes "turn") row same)

pub bad_sum : (e : Edition) (ms : Members) → get_member (codes "row") ms ≡ Some (json.string (codes "sum"))
    → ((y : Sum) → HasSumForm y → sum_row e y ≢ json.object ms) → (r : Row) → MayBeRow e r → row_json e r ≡ json.object ms → ⊥
bad_sum e ms row bad version form same =
    other_name (codes "version") (codes "sum") refl (row_says e version ms (codes "sum") row same)
bad_sum e ms row bad (turn t) form same =
    other_name (codes "turn") (codes "sum") refl (row_says e (turn t) ms (codes "sum") row same)
bad_sum e ms row bad (event x) form same = event_isnt (codes "sum") refl refl refl refl refl x (row_says e (event x) ms (codes "sum") row same)
bad_sum e ms row bad (sum s) form same = bad s form same
bad_sum e ms row bad (close left turns) form same =
    other_name (codes "close") (codes "sum") refl (row_says e (close left turns) ms (codes "sum") row same)

pub bad_close : (e : Edition) (ms : Members) → get_member (codes "row") ms ≡ Some (json.string (codes "close"))
    → ((y : ℕ × ℕ) → (y.0 < 2 ^ 64) × (y.1 < 2 ^ 64) → close_row y.0 y.1 ≢ json.object ms) → (r : Row) → MayBeRow e r → row_json e r ≡ json.object ms → ⊥
bad_close e ms row bad version form same =
    other_name (codes "version") (codes "close") refl (row_says e version ms (codes "close") row same)
bad_close e ms row bad (turn t) form same =
    other_name (codes "turn") (codes "close") refl (row_says e (turn t) ms (codes "close") row same)
bad_close e ms row bad (event x) form same = event_isnt (codes "close") refl refl refl refl refl x (row_says e (event x) ms (codes "close") row same)
bad_close e ms row bad (sum s) form same =
    other_name (codes "sum") (codes "close") refl (row_says e (sum s) ms (codes "close") row same)
bad_close e ms row bad (close left turns) form same = bad (left, turns) form same

pub bad_event : (e : Edition) (ms : Members) (w : List ℕ) → get_member (codes "row") ms ≡ Some (json.string w)
    → bytes_eq w (codes "version") ≡ false → bytes_eq w (codes "turn") ≡ false → bytes_eq w (codes "sum") ≡ false
    → bytes_eq w (codes "close") ≡ false
    → ((x : Event) → HasEventForm e x → event_row x ≢ json.object ms) → (r : Row) → MayBeRow e r → row_json e r ≡ json.object ms → ⊥
bad_event e ms w row first second third last bad version form same =
    other_name w (codes "version") first (sym (row_says e version ms w row same))
bad_event e ms w row first second third last bad (turn t) form same =
    other_name w (codes "turn") second (sym (row_says e (turn t) ms w row same))
bad_event e ms w row first second third last bad (event x) form same = bad x form same
bad_event e ms w row first second third last bad (sum s) form same =
    other_name w (codes "sum") third (sym (row_says e (sum s) ms w row same))
bad_event e ms w row first second third last bad (close left turns) form same =
    other_name w (codes "close") last (sym (row_says e (close left turns) ms w row same))

-- ---- no row at all

pub no_row_object : (e : Edition) (r : Row) (d : Data) → None ≡ as_object d → row_json e r ≡ d → ⊥
no_row_object e r d none same =
    let found : None ≡ option_and_then (get_member (codes "row")) (as_object d) = ap (option_and_then (get_member (codes "row"))) none in
    let there : option_and_then (get_member (codes "row")) (as_object d) ≡ Some (json.string (row_word r)) =
    by_get d ∙ sym (ap (get (codes "row")) same) ∙ row_has_word e r in
    let both_are : None ≡ Some (json.string (row_word r)) = found ∙ there in
    absurd (cc)
  where
    by_get : (c : Data) → option_and_then (get_member (codes "row")) (as_object c) ≡ get (codes "row") c
    by_get json.null = refl
    by_get (json.boolean b) = refl
    by_get (json.number n) = refl
    by_get (json.string s) = refl
    by_get (json.array ds) = refl
    by_get (json.object ms) = refl

pub no_row_word : (e : Edition) (r : Row) (ms : Members) → None ≡ option_and_then as_str (get_member (codes "row") ms)
    → row_json e r ≡ json.object ms → ⊥
no_row_word e r ms none same =
    let there : get_member (codes "row") ms ≡ Some (json.string (row_word r)) = sym (ap (get (codes "row")) same) ∙ row_has_word e r in
    let both_are : None ≡ Some (row_word r) = none ∙ ap (option_and_then as_str) there in
    absurd (cc)

-- A row of a journal, by itself: what it says, its JSON, its form and its line.
use Rattle.std.specs.Prelude.{◌≡◌, ◌≤◌, ◌<◌, ◌^◌, ℕ, List, [], ◌∷◌, ◌++◌, length, map, if◌then◌else◌, codes}
use Rattle.std.specs.List.{AllByRecursion, flat_map}
use Rattle.std.specs.Str.{bytes_eq}
use Rattle.serde_json.specs.Data as json
use Rattle.serde_json.specs.Data.{depth}
use Rattle.serde_json.specs.Read.{max_depth}
use Rattle.fair_rows.specs.turn_rows.Editions.{version_row}
use Rattle.fair_rows.specs.turn_rows.Form.{AreData, HasAnswerForm, HasEventForm, HasSumForm, IsAnswerOf, IsDelivered}
use Rattle.fair_rows.specs.turn_rows.ReadBack.{closing_in, event_in, sum_in, text_in, turn_in}
use Rattle.fair_rows.specs.turn_rows.Rows.{close_row, event_row, sum_row, turn_row}
use Rattle.fair_rows.specs.turn_rows.Texts.{row_text}
use Rattle.fair_rows.specs.turn_rows.Turns.{Event, Turn}
use Rattle.fair_rows.specs.turn_rows.declared.editions.Edition.{Edition}
use Rattle.fair_rows.specs.turn_rows.declared.editions.Edition.TheVariants.{First, Second}
use Rattle.fair_rows.specs.turn_rows.rights_model.declared.Sum.{Sum}

pub data Row : Type 0 where
  version : Row
  -- a turn row; what happened in the turn, and its sums, have rows of their own
  turn : Turn → Row
  event : Event → Row
  sum : Sum → Row
  -- how many deliveries are left, and how many turns were run
  close : ℕ → ℕ → Row

abbrev pub row_json : Edition → Row → json.Data
row_json e version = version_row
row_json e (turn t) = turn_row t
row_json e (event x) = event_row x
row_json e (sum s) = sum_row e s
row_json e (close left turns) = close_row left turns

-- its text, with the line feed
abbrev pub row_line : Edition → Row → List ℕ
row_line e r = row_text (row_json e r)

-- ---- form

-- a turn by its row alone
pub record IsTurnRow (t : Turn) : Type 0 where
  pub number : t.number < 2 ^ 64
  pub delivered : IsDelivered t.kind t.by t.on t.method t.arguments
  pub arguments : AreData t.arguments
  pub answered : IsAnswerOf t.kind t.answer
  pub answer : HasAnswerForm t.answer
  pub no_events : t.events ≡ []
  pub no_sums : t.sums ≡ []

-- which texts and numbers a row may have
abbrev pub MayBeRow : Edition → Row → Type 0
MayBeRow e version = e ≡ Second
MayBeRow e (turn t) = IsTurnRow t
MayBeRow e (event x) = HasEventForm e x
MayBeRow e (sum s) = HasSumForm s
MayBeRow e (close left turns) = (left < 2 ^ 64) × (turns < 2 ^ 64)

-- a row that may stand in a journal, and nests no deeper than is read
pub record HasRowForm (e : Edition) (r : Row) : Type 0 where
  pub row : MayBeRow e r
  pub nesting : depth (row_json e r) ≤ max_depth

abbrev pub HaveRowForm : Edition → List Row → Type 0
HaveRowForm e rows = AllByRecursion (HasRowForm e) rows

-- ---- what a row says, read back from any JSON

abbrev pub row_in : json.Data → Row
row_in d =
    if bytes_eq (text_in (codes "row") d) (codes "version") then version else
    if bytes_eq (text_in (codes "row") d) (codes "turn") then turn (turn_in d [] []) else
    if bytes_eq (text_in (codes "row") d) (codes "sum") then sum (sum_in d) else
    if bytes_eq (text_in (codes "row") d) (codes "close") then close (closing_in d).left (closing_in d).turns else
    event (event_in d)

-- ---- the rows of turns

-- a turn as its row tells it
abbrev pub by_its_row : Turn → Turn
by_its_row t = record t { events = []; sums = [] }

abbrev pub rows_of_turn : Turn → List Row
rows_of_turn t = turn (by_its_row t) ∷ (map event t.events ++ map sum t.sums)

abbrev pub rows_of_turns : List Turn → ℕ → List Row
rows_of_turns ts left = flat_map rows_of_turn ts ++ close left (length ts) ∷ []

abbrev pub version_first : Edition → List Row
version_first First = []
version_first Second = version ∷ []

-- the version row, where the edition has one, the rows of the turns and the close row
abbrev pub rows_of_journal : Edition → List Turn → ℕ → List Row
rows_of_journal e ts left = version_first e ++ rows_of_turns ts left

-- The text of a journal, and the law that it tells the turns and what is left.
use Rattle.std.specs.Prelude.{◌≡◌, ℕ, zero, suc, List, [], ◌∷◌, ◌++◌, length}
use Rattle.std.specs.List.{flat_map}
use Rattle.serde_json.specs.Data as json
use Rattle.serde_json.specs.Written.{compact_text}
use Rattle.turn_rows.specs.Editions.{version_rows}
use Rattle.turn_rows.specs.Form.{AreInForm}
use Rattle.turn_rows.specs.Rows.{close_row, rows_of}
use Rattle.turn_rows.specs.Turns.{Turn}
use Rattle.turn_rows.specs.declared.editions.Edition.{Edition}

-- each row has a line feed at its end
unfoldable pub row_text : json.Data → List ℕ
row_text row = compact_text row ++ 10 ∷ []

-- the version row, where the edition has one, the rows of the turns, and a close row with how many deliveries are left and how many turns were run
abbrev pub journal_rows : Edition → List Turn → ℕ → List json.Data
journal_rows e ts left = version_rows e ++ (flat_map (rows_of e) ts ++ close_row left (length ts) ∷ [])

abbrev pub journal_text : Edition → List Turn → ℕ → List ℕ
journal_text e ts left = flat_map row_text (journal_rows e ts left)

-- ---- the same, turn by turn

-- what stands before the rows that come after those of so many turns: before the first of all the version row
abbrev pub first_rows : Edition → ℕ → List json.Data
first_rows e zero = version_rows e
first_rows e (suc n) = []

-- the text of a turn that comes after so many others
abbrev pub turn_text : Edition → ℕ → Turn → List ℕ
turn_text e before t = flat_map row_text (first_rows e before ++ rows_of e t)

-- the text of turns, of which the first comes after so many others
abbrev pub turns_text : Edition → ℕ → List Turn → List ℕ
turns_text e before [] = []
turns_text e before (t ∷ ts) = turn_text e before t ++ turns_text e (suc before) ts

-- the text of what comes after the turns
abbrev pub close_text : Edition → ℕ → ℕ → List ℕ
close_text e left turns = flat_map row_text (first_rows e turns ++ close_row left turns ∷ [])

-- these texts, one after another, are the journal's
abbrev pub TextByTurns : Type 0
TextByTurns = (e : Edition) (ts : List Turn) (left : ℕ) → journal_text e ts left ≡ turns_text e 0 ts ++ close_text e left (length ts)

-- ---- one text

-- in either edition, no text of one list of turns, and of what is left, is the text of another
abbrev pub OneText : Type 0
OneText =
    (e : Edition) (ts us : List Turn) (left others : ℕ)
    → AreInForm e ts left
    → AreInForm e us others
    → journal_text e ts left ≡ journal_text e us others
    → (ts ≡ us) × (left ≡ others)

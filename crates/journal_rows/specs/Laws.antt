-- The laws of a journal's rows.
use Rattle.std.specs.Prelude.{◌≡◌, ◌≢◌, ◌<◌, ◌==◌, ℕ, ◌+◌, List, [], ◌∷◌, ◌++◌, length}
use Rattle.std.specs.List.{AllByRecursion, count_by}
use Rattle.fair_rows.specs.Turns.{IsFairJournal}
use Rattle.fair_rows.specs.turn_rows.Turns.{Turn}
use Rattle.fair_rows.specs.turn_rows.declared.editions.Edition.{Edition}
use Rattle.journal_rows.specs.Row.{HasRowForm, Row, row_in, row_json, row_line, rows_of_journal}
use Rattle.journal_rows.specs.Verdicts.{IsFirstBad, IsWhole}

-- ---- one row

-- bytes with one line feed, at their end
pub record IsLine (bytes : List ℕ) : Type 0 where
  pub line : List ℕ
  pub is : bytes ≡ line ++ 10 ∷ []
  pub one : AllByRecursion (λ b. b ≢ 10) line

abbrev pub RowsAreLines : Type 0
RowsAreLines = (e : Edition) (r : Row) → HasRowForm e r → IsLine (row_line e r)

-- what a row in form says is read back from its JSON
abbrev pub RowsAreReadBack : Type 0
RowsAreReadBack = (e : Edition) (r : Row) → HasRowForm e r → row_in (row_json e r) ≡ r

-- the line of a row in form is that of no other
abbrev pub OneRow : Type 0
OneRow =
    (e : Edition) (r q : Row)
    → HasRowForm e r
    → HasRowForm e q
    → row_line e r ≡ row_line e q
    → r ≡ q

-- ---- journals

-- the rows of a fair journal are good one after another, and the last one closes it
abbrev pub FairTurnsAreGood : Type 0
FairTurnsAreGood =
    (e : Edition) (bytes : List ℕ) (ts : List Turn) (left : ℕ)
    → IsFairJournal e bytes ts left
    → IsWhole e bytes (rows_of_journal e ts left)

pub record AreOfFairTurns (e : Edition) (bytes : List ℕ) (rows : List Row) : Type 0 where
  pub turns : List Turn
  pub left : ℕ
  pub fair : IsFairJournal e bytes turns left
  pub is : rows ≡ rows_of_journal e turns left

-- rows that are good one after another, and the last of which closes the journal, are those of
-- fair turns
abbrev pub GoodRowsAreFair : Type 0
GoodRowsAreFair =
    (e : Edition) (bytes : List ℕ) (rows : List Row)
    → IsWhole e bytes rows
    → AreOfFairTurns e bytes rows

-- where a row is bad, the bytes are the text of no fair journal
abbrev pub BadJournalsAreUnfair : Type 0
BadJournalsAreUnfair =
    (e : Edition) (bytes : List ℕ) (k : ℕ)
    → IsFirstBad e bytes k
    → (ts : List Turn) (left : ℕ)
    → IsFairJournal e bytes ts left
    → ⊥

abbrev pub OneFirstBad : Type 0
OneFirstBad =
    (e : Edition) (bytes : List ℕ) (j k : ℕ)
    → IsFirstBad e bytes j
    → IsFirstBad e bytes k
    → j ≡ k

-- how many lines are whole
abbrev pub lines_in : List ℕ → ℕ
lines_in bytes = count_by (λ b. b == 10) bytes

-- of the text of a fair journal that is cut off, the row is bad that comes after the whole lines
abbrev pub ACutIsBadThere : Type 0
ACutIsBadThere =
    (e : Edition) (bytes more : List ℕ) (ts : List Turn) (left : ℕ)
    → IsFairJournal e (bytes ++ more) ts left
    → 0 < length more
    → IsFirstBad e bytes (lines_in bytes + 1)

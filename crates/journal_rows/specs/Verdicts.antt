-- What can be said of bytes: they are a whole journal, or there is a first row that is bad.
use Rattle.std.specs.Prelude.{◌≡◌, ℕ, ◌+◌, List, [], ◌++◌, length}
use Rattle.std.specs.List.{flat_map}
use Rattle.fair_rows.specs.turn_rows.declared.editions.Edition.{Edition}
use Rattle.journal_rows.specs.Row.{HasRowForm, HaveRowForm, Row, row_line}
use Rattle.journal_rows.specs.Reading.{AreGood, IsGood, after_rows, closed, unread}

-- the bytes are the lines of good rows, the last of which closes the journal
pub record IsWhole (e : Edition) (bytes : List ℕ) (rows : List Row) : Type 0 where
  pub is : bytes ≡ flat_map (row_line e) rows
  pub form : HaveRowForm e rows
  pub good : AreGood e (unread e) rows
  pub is_closed : after_rows (unread e) rows ≡ closed

-- row k, from 1, is the first that is bad: good rows stand before it, and what follows them doesn't
-- begin with the line of a row that is good there; or nothing follows, and the journal isn't closed
pub record IsFirstBad (e : Edition) (bytes : List ℕ) (k : ℕ) : Type 0 where
  pub before : List Row
  pub rest : List ℕ
  pub is : bytes ≡ flat_map (row_line e) before ++ rest
  pub place : k ≡ length before + 1
  pub form : HaveRowForm e before
  pub good : AreGood e (unread e) before
  pub next : (r : Row) (more : List ℕ) → HasRowForm e r → rest ≡ row_line e r ++ more
      → IsGood e (after_rows (unread e) before) r → ⊥
  pub not_whole : rest ≡ [] → after_rows (unread e) before ≡ closed → ⊥

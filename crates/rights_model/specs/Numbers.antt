-- What is numbered, and the number that the next one of each kind gets.
use Rattle.std.specs.Prelude.{ℕ}

-- each kind is numbered by itself, from 0 in order of making
pub data Numbered : Type 0 where
  brands : Numbered
  purses : Numbered
  payments : Numbered
  seats : Numbered
  invitations : Numbered
  installations : Numbered
  instances : Numbered
  facets : Numbered
  promises : Numbered
  turns : Numbered

abbrev pub Numbers : Type 0
Numbers = Numbered → ℕ

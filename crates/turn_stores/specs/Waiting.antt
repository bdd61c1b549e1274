-- What contracts see of a queue that can go back: what waited at the turn's start, and what waits now.
use Rattle.std.specs.Prelude.{List}

-- The entries, the one that came first in front.
pub record Waiting (T : Type 0) : Type 0 where
  pub start : List T
  pub now : List T

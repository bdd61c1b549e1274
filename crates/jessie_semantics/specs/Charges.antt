-- What an evaluation's calls of the host, and the answers to them, take of its meter.
use Rattle.std.specs.Prelude.{◌≡◌, ◌≤◌, ◌+◌, ℕ, List, [], ◌∷◌, ◌++◌, length}
use Rattle.host_data.specs.Tree.{Tree, null, size, items_size}
use Rattle.host_data.specs.View.{items_of}
use Rattle.jessie_semantics.specs.Play.{Call, call, send, when, far, Reply, given, refused}
use Rattle.jessie_semantics.specs.Play.{Exchange, Play, Ends, Spends, Asks, Answered}

-- data that a call may leave out is null to the host, and then takes nothing
abbrev pub held_size : Tree → ℕ
held_size null = 0
held_size v = size v

-- the names of a facet's methods, and one for each of their functions
abbrev pub methods_size : List (List ℕ × List ℕ) → ℕ
methods_size [] = 0
methods_size (m ∷ ms) = length m.0 + 1 + methods_size ms

-- what a call costs at least before it is made: a null that the text writes out costs one more
abbrev pub cost : Call → ℕ
cost (call o x vs) = 100 + items_size (items_of vs)
cost (send o x vs) = 100 + items_size (items_of vs)
cost (when o f v) = 102 + held_size v
cost (far x ms v) = 100 + (1 + length x) + (1 + methods_size ms) + held_size v

-- what an answer takes, once it is there
abbrev pub reply_size : Reply → ℕ
reply_size (given v) = size v
reply_size (refused v) = size v

-- what these calls and their answers take in all
abbrev pub charges : List Exchange → ℕ
charges [] = 0
charges (x ∷ xs) = cost x.call + reply_size x.reply + charges xs

-- so much was taken: it is within the meter, and with the next call's cost too; or the meter is spent
abbrev pub Fits : (meter taken : ℕ) → Play → Type 0
Fits meter taken (Ends e values) = taken ≤ meter
Fits meter taken Spends = Unit {0}
Fits meter taken (Asks c go) = taken + cost c ≤ meter

-- What a call costs and what the calls before it took, with their answers, is within the meter; and so
-- is all that was taken in the end, unless the meter is spent.
pub record FitsMeter {W : Type 0} (step : W → Exchange → W → Type 0) (old new : W) (meter : ℕ) (r : Play) : Type 0 where
  pub since : List Exchange
  pub answered : Answered step old since new
  pub asks : (before : List Exchange) (x : Exchange) (rest : List Exchange)
      → since ≡ before ++ x ∷ rest → charges before + cost x.call ≤ meter
  pub ends : Fits meter (charges since) r

-- What contracts see of the sources and sinks that tell all, and when these fail.
use Rattle.std.specs.Prelude.{ℕ, ◌+◌, ◌-◌, ◌^◌, ◌==◌, ◌&&◌, min, Bool, List, length, Result, nat_lt, if◌then◌else◌, is_err}
use Rattle.std.specs.List.{list_any}

-- one more, but the number stands still at the end of 64 bits
abbrev pub one_more : ℕ → ℕ
one_more n = min (n + 1) (2 ^ 64 - 1)

-- the count of faults after an answer
abbrev pub faults_after : {T E : Type 0} → Result T E → ℕ → ℕ
faults_after result faults = if is_err result then one_more faults else faults

-- the next call is one that the list names, by its number from 1
abbrev pub is_named : List ℕ → ℕ → Bool
is_named failing calls = list_any (λ call. call == calls + 1) failing

-- a sink with room for a stated number of bytes
pub record Room : Type 0 where
  -- the bytes that were written
  pub written : List ℕ
  -- the most bytes that it takes in all
  pub limit : ℕ
  pub faults : ℕ

-- the room that is left
abbrev pub room_left : List ℕ → ℕ → ℕ
room_left written limit = limit - length written

-- there is a piece to write and no room for any of it
abbrev pub is_full_for : List ℕ → ℕ → List ℕ → Bool
is_full_for written limit piece = room_left written limit == 0 && nat_lt 0 (length piece)

-- the calls of a source or sink that fails at stated ones
pub record Flaws : Type 0 where
  -- the numbers of the calls that fail, from 1, in any order
  pub failing : List ℕ
  -- the most bytes that a call gives or takes
  pub most : ℕ
  -- how many calls there were, which stands still at the end of 64 bits, beyond which no number of the list is
  pub calls : ℕ
  pub faults : ℕ

-- the flaws after a call and its answer
abbrev pub flaws_after : {T E : Type 0} → Result T E → Flaws → Flaws
flaws_after result flaws = record flaws { calls = one_more flaws.calls; faults = faults_after result flaws.faults }

-- a source that fails at stated calls
pub record FlakyInput : Type 0 where
  -- the bytes that are left
  pub left : List ℕ
  pub flaws : Flaws

-- a sink that fails at stated calls
pub record FlakyOutput : Type 0 where
  -- the bytes that were written
  pub written : List ℕ
  -- the most bytes that it takes in all
  pub limit : ℕ
  pub flaws : Flaws

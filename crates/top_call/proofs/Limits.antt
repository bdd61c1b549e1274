-- The two limits on an input, one after the other.
use Rattle.std.proofs.Common.{◌≡◌, ℕ, ◌^◌, ◌<◌, ◌≤◌, List, length, true}
use Rattle.std.proofs.lemmas.Bool.{lt-ltb, le-ltb}
use Rattle.std.specs.List.{list_any}
use Rattle.run_laws.specs.message_lines.InputLines.{is_long, is_too_long, lines_of}

pub longer : (input : List ℕ) → 2 ^ 30 < length input → is_too_long input ≡ true
unfolding is_too_long
longer input h = rw (lt-ltb (2 ^ 30) (length input) h)

pub within : (input : List ℕ) → length input ≤ 2 ^ 30 → is_too_long input ≡ list_any is_long (lines_of input)
unfolding is_too_long
within input h = rw (le-ltb (2 ^ 30) (length input) h)

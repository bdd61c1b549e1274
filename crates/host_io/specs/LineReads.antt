-- What contracts see of a reader of lines, what its calls take from a source, and when a line passes a limit.
use Rattle.std.specs.Prelude.{◌≡◌, ℕ, ◌+◌, ◌^◌, ◌<◌, ◌==◌, ◌||◌, ◌++◌, min, take, Bool, true, false, List, [], ◌∷◌, length, Option, Result, Ok, Err, nat_lt}
use Rattle.std.specs.List.{list_any, position_or_len}
use Rattle.std.specs.Io.KnownBytes.{Consumes, IsAtEnd}
use Rattle.host_io.specs.declared.line_reader.Next.{Next}
use Rattle.host_io.specs.declared.line_reader.Next.TheVariants.{Line, End}
use Rattle.host_io.specs.declared.line_reader.LineFault.{LineFault}
use Rattle.host_io.specs.declared.line_reader.LineFault.TheVariants.{ReadFault, TooLong}

-- a reader between two calls
pub record LinesHeld : Type 0 where
  -- what was taken of the next line, and what was read behind it
  pub begun : List ℕ
  pub rest : List ℕ
  -- how many bytes were given
  pub given : ℕ
  -- the source has answered that it is at its end
  pub ended : Bool

-- the bytes that were taken from the source and not given yet
abbrev pub held_in : LinesHeld → List ℕ
held_in r = r.begun ++ r.rest

-- what was held, and then what was taken of the source, is what is given and what is held now
pub record Feeds (left_before left_now : Option (List ℕ)) (held given now : List ℕ) : Type 0 where
  pub taken : List ℕ
  pub consumed : Consumes left_before left_now taken
  pub kept : held ++ taken ≡ given ++ now

-- ---- lines

abbrev pub is_feed : ℕ → Bool
is_feed b = b == 10

-- no line feed is in it
abbrev pub IsOpen : List ℕ → Type 0
IsOpen bytes = list_any is_feed bytes ≡ false

-- it ends with its only line feed
pub record IsWholeLine (line : List ℕ) : Type 0 where
  pub text : List ℕ
  pub is : line ≡ text ++ (10 ∷ [])
  pub feedless : IsOpen text

-- the bytes that an answer gives
abbrev pub bytes_in : Result Next LineFault → List ℕ
bytes_in (Ok (Line line)) = line.items
bytes_in (Ok End) = []
bytes_in (Err fault) = []

-- a line that is given has a byte
abbrev pub IsSomeLine : Next → Type 0
IsSomeLine (Line line) = 0 < length line.items
IsSomeLine End = Unit {0}

-- ---- limits

-- how many bytes of the next line are in these, its line feed not counted
abbrev pub text_length : List ℕ → ℕ
text_length held = position_or_len is_feed held

-- the same with its line feed
abbrev pub line_length : List ℕ → ℕ
line_length held = min (text_length held + 1) (length held)

-- the bytes before the first line feed
abbrev pub text_in : List ℕ → List ℕ
text_in bytes = take (text_length bytes) bytes

-- the most bytes of an input
abbrev pub max_input : ℕ
max_input = 2 ^ 30

-- of the next line what is held passes the limit, or has a byte past the input's last
abbrev pub is_past : ℕ → ℕ → List ℕ → Bool
is_past limit given held = nat_lt limit (text_length held) || nat_lt max_input (given + line_length held)

-- ---- answers

-- it is whole, or the last one, of which the source has no more
pub record IsLine (line : List ℕ) (now : LinesHeld) (left_now : Option (List ℕ)) : Type 0 where
  pub some : 0 < length line
  pub last : IsOpen line → (held_in now ≡ []) × IsAtEnd left_now
  pub fed : list_any is_feed line ≡ true → IsWholeLine line

-- nothing is held, and nothing is left of the source
pub record IsEnd (now : LinesHeld) (left_now : Option (List ℕ)) : Type 0 where
  pub held : held_in now ≡ []
  pub at_end : IsAtEnd left_now

-- what an answer gives; where a read failed, no whole line is held
abbrev pub Gives : Result Next LineFault → LinesHeld → Option (List ℕ) → Type 0
Gives (Ok (Line line)) now left_now = IsLine line.items now left_now
Gives (Ok End) now left_now = IsEnd now left_now
Gives (Err ReadFault) now left_now = IsOpen (held_in now)
Gives (Err fault) now left_now = Unit {0}

-- the answer is that a limit is passed, exactly where what is held of the next line passes it; a line that is given passes none
abbrev pub KeepsLimit : ℕ → Result Next LineFault → LinesHeld → LinesHeld → Type 0
KeepsLimit limit (Ok (Line line)) old now = is_past limit old.given line.items ≡ false
KeepsLimit limit (Ok End) old now = Unit {0}
KeepsLimit limit (Err TooLong) old now = is_past limit now.given (held_in now) ≡ true
KeepsLimit limit (Err fault) old now = is_past limit now.given (held_in now) ≡ false

-- nothing of the source is needed for an answer: a whole line is held, or too much of one, or the source is at its end
abbrev pub needs_nothing : ℕ → LinesHeld → Bool
needs_nothing limit r = list_any is_feed (held_in r) || is_past limit r.given (held_in r) || r.ended

-- A run: from the bytes of an input to its turns, and to the journal.
use Rattle.std.specs.Prelude.{◌≡◌, ◌≤◌, ◌+◌, ℕ, map, List, [], ◌∷◌, ◌++◌, length, Option}
use Rattle.std.specs.Io.KnownBytes.{Appends}
use Rattle.std.specs.List.{AllByRecursion}
use Rattle.licence_laws.specs.delivery_turns.Hosts.{HostState, Step, step_of, with_line}
use Rattle.message_lines.specs.InputLines.{lines_of}
use Rattle.message_lines.specs.Meanings.{Meaning, meaning_of, run}
use Rattle.licence_laws.specs.rules.Zoe.{TextReader}
use Rattle.licence_laws.specs.turn_writer.ShortRows.{HasShortRows}
use Rattle.message_lines.specs.turn_records.Printed.{printed}
use Rattle.message_lines.specs.turn_rows.Texts.{close_text, journal_text, turns_text}
use Rattle.message_lines.specs.turn_rows.Turns.{Turn}
use Rattle.licence_laws.specs.world_laws.First.{first_world}
use Rattle.licence_laws.specs.world_state.Rights.{most_turns}
use Rattle.message_lines.specs.turn_rows.Editions.{written}
use Rattle.run_laws.specs.Machines.{Machine, MachineRun, Made, by_line, by_lines, drains}

-- the most that a function may cost
abbrev pub most_meter : ℕ
most_meter = 10000000

-- a new host
abbrev pub first_host : ℕ → HostState
first_host meter = record { meter = meter; world = first_world; turns = 0 }

-- the machine that a host is
abbrev pub host_machine : TextReader → Machine HostState Step
host_machine read = record {
  waiting = λ s. s.world.waiting;
  arrive = with_line;
  step = step_of read;
  of = λ t. t.turn.delivery;
  next = λ t. t.next;
}

-- a host, and the step that it made
abbrev pub HostTurn : Type 0
HostTurn = Made HostState Step

-- turns one after another, and the host after them
abbrev pub Run : Type 0
Run = MachineRun HostState Step

-- at most n turns, each of the delivery in front
abbrev pub drained : TextReader → ℕ → HostState → Run
drained read n s = drains (host_machine read) n s

-- a line: its delivery waits, or at most so many turns are run
abbrev pub line_run : TextReader → HostState → Meaning → Run
line_run read s m = by_line (host_machine read) s m

-- lines, one after another
abbrev pub lines_run : TextReader → HostState → List Meaning → Run
lines_run read s ms = by_lines (host_machine read) s ms

-- what the lines of an input mean; its end is a run line of so many turns
abbrev pub meanings_of : ℕ → List ℕ → List Meaning
meanings_of most input = map meaning_of (lines_of input) ++ run most ∷ []

-- the run on an input, where functions run under the meter, and at most so many turns are run at its end
abbrev pub run_of : TextReader → ℕ → ℕ → List ℕ → Run
run_of read meter most input = lines_run read (first_host meter) (meanings_of most input)

-- ---- what is written

-- the turns as they are printed
abbrev pub turns_in : Run → List Turn
turns_in r = map (λ (t : HostTurn). printed t.step.turn) r.turns

abbrev pub turns_of : TextReader → ℕ → ℕ → List ℕ → List Turn
turns_of read meter most input = turns_in (run_of read meter most input)

-- how many deliveries are left
abbrev pub left_in : HostState → ℕ
left_in s = length s.world.waiting

abbrev pub left_of : TextReader → ℕ → ℕ → List ℕ → ℕ
left_of read meter most input = left_in (run_of read meter most input).end

-- the journal of a run
unfoldable pub journal_of : TextReader → ℕ → ℕ → List ℕ → List ℕ
journal_of read meter most input =
    journal_text written (turns_of read meter most input) (left_of read meter most input)

-- the close row of a host: how many deliveries are left, and how many turns it ran
abbrev pub closing_text : HostState → List ℕ
closing_text s = close_text written (left_in s) s.turns

-- Of turns that come after so many others the rows of the first were appended, whole and none too long, and nothing
-- else. Where no turn was written, nothing was; the version row stands with the first turn of all.
pub record AppendsTurns (old new : Option (List ℕ)) (before : ℕ) (turns : List Turn) : Type 0 where
  pub first : List Turn
  pub later : List Turn
  pub whole : turns ≡ first ++ later
  pub short : AllByRecursion (HasShortRows written) first
  pub appended : Appends old new (turns_text written before first)

-- those of the first turns, up to the last that may be run and no further, where another is left
pub record AppendsToLimit (old new : Option (List ℕ)) (before : ℕ) (turns : List Turn) : Type 0 where
  pub first : List Turn
  pub later : List Turn
  pub whole : turns ≡ first ++ later
  pub last : before + length first ≡ most_turns
  pub more : 1 ≤ length later
  pub short : AllByRecursion (HasShortRows written) first
  pub appended : Appends old new (turns_text written before first)

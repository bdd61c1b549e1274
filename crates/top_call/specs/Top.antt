-- What each status of the top call says.
use Rattle.std.specs.Prelude.{◌≡◌, ◌<◌, ◌≤◌, ℕ, List, length, true, false, codes, Option, IfSome}
use Rattle.std.specs.Io.KnownBytes.{Appends, Keeps}
use Rattle.command_words.specs.declared.words.Options.{Options}
use Rattle.command_words.specs.declared.words.WordsFault.{WordsFault}
use Rattle.command_words.specs.declared.words.WordsFault.TheVariants as words
use Rattle.host_turns.specs.contract_texts.Reader.{reader}
use Rattle.run_laws.specs.fair_rows.Turns.{IsFairJournal}
use Rattle.host_io.specs.Causes.{Rose}
use Rattle.host_io.specs.Fronts.{AppendsFront}
use Rattle.run_laws.specs.Runs.{AppendsToLimit, AppendsTurns, journal_of, left_of, turns_of}
use Rattle.run_laws.specs.turn_writer.ShortRows.{HasShortJournal}
use Rattle.run_laws.specs.message_lines.InputLines.{is_too_long}
use Rattle.host_turns.specs.turn_rows.Turns.{Turn}
use Rattle.host_turns.specs.world_state.Rights.{most_turns}
use Rattle.top_call.specs.declared.top.Status.{Status}
use Rattle.top_call.specs.declared.top.Status.TheVariants.{Done, Usage, ReadFault, WriteFault, NoMemory, TurnLimit, TooLong}
use Rattle.host_turns.specs.turn_rows.Editions.{written}

-- the exit status
abbrev pub exit_code : Status → ℕ
exit_code Done = 0
exit_code Usage = 2
exit_code ReadFault = 3
exit_code WriteFault = 4
exit_code NoMemory = 5
exit_code TurnLimit = 6
exit_code TooLong = 7

-- what is shown on standard error
abbrev pub status_name : Status → List ℕ
status_name Done = codes "Done"
status_name Usage = codes "Usage"
status_name ReadFault = codes "ReadFault"
status_name WriteFault = codes "WriteFault"
status_name NoMemory = codes "NoMemory"
status_name TurnLimit = codes "TurnLimit"
status_name TooLong = codes "TooLong"

-- ---- a call, as far as it is seen

-- a count of faults, and the bytes that were written, before the call and after it
pub record Counts : Type 0 where
  pub before : ℕ
  pub now : ℕ

pub record Bytes : Type 0 where
  pub before : Option (List ℕ)
  pub now : Option (List ℕ)

-- what was asked for, what the source held where that is told, what the sink has, and the faults of both
pub record Seen : Type 0 where
  pub options : Options
  pub held : Option (List ℕ)
  pub written : Bytes
  pub source : Counts
  pub sink : Counts

abbrev pub IsQuiet : Counts → Type 0
IsQuiet c = c.now ≡ c.before

abbrev pub HasRisen : Counts → Type 0
HasRisen c = Rose c.before c.now

pub record AreQuiet (c : Seen) : Type 0 where
  pub source : IsQuiet c.source
  pub sink : IsQuiet c.sink

-- the journal of the input, and its turns, under the options
abbrev pub journal_for : Seen → List ℕ → List ℕ
journal_for c input = journal_of reader c.options.meter c.options.turns input

abbrev pub turns_for : Seen → List ℕ → List Turn
turns_for c input = turns_of reader c.options.meter c.options.turns input

-- how many deliveries are left
abbrev pub left_for : Seen → List ℕ → ℕ
left_for c input = left_of reader c.options.meter c.options.turns input

-- nothing was written, whatever the source held
abbrev pub WroteNothing : Seen → Type 0
WroteNothing c = Keeps c.written.before c.written.now

-- ---- the limits

pub record IsWithin (o : Options) (input : List ℕ) : Type 0 where
  pub bytes : is_too_long input ≡ false
  pub turns : length (turns_of reader o.meter o.turns input) ≤ most_turns

pub record IsPast (o : Options) (input : List ℕ) : Type 0 where
  pub bytes : is_too_long input ≡ false
  pub turns : most_turns < length (turns_of reader o.meter o.turns input)

-- ---- what each status says

-- the journal of the input was written, which passes no limit; it is the text of a fair journal, of turns in form, and
-- none of its rows is too long
pub record Completes (c : Seen) (input : List ℕ) : Type 0 where
  pub journal : Appends c.written.before c.written.now (journal_for c input)
  pub fair : IsFairJournal written (journal_for c input) (turns_for c input) (left_for c input)
  pub short : HasShortJournal written (turns_for c input) (left_for c input)
  pub within : IsWithin c.options input

pub record IsDone (c : Seen) : Type 0 where
  pub completes : IfSome c.held (Completes c)
  pub quiet : AreQuiet c

pub record IsUnread (c : Seen) : Type 0 where
  pub nothing : WroteNothing c
  pub quiet : AreQuiet c

-- the source failed
pub record IsReadFault (c : Seen) : Type 0 where
  pub nothing : WroteNothing c
  pub source : HasRisen c.source
  pub sink : IsQuiet c.sink

-- the sink failed, and a front of the journal was written
pub record BreaksOff (c : Seen) (input : List ℕ) : Type 0 where
  pub front : AppendsFront c.written.before c.written.now (journal_for c input)
  pub bytes : is_too_long input ≡ false

pub record IsWriteFault (c : Seen) : Type 0 where
  pub breaks_off : IfSome c.held (BreaksOff c)
  pub source : IsQuiet c.source
  pub sink : HasRisen c.sink

-- memory ran out, or a row would be too long, and the rows of the first turns were written, whole
pub record IsOutOfMemory (c : Seen) : Type 0 where
  pub turns : IfSome c.held
      (λ input. AppendsTurns c.written.before c.written.now 0 (turns_for c input))
  pub quiet : AreQuiet c

-- the last turn was run, and another is left: just the turns up to there were written
pub record Stops (c : Seen) (input : List ℕ) : Type 0 where
  pub turns : AppendsToLimit c.written.before c.written.now 0 (turns_for c input)
  pub past : IsPast c.options input

pub record IsAtTurnLimit (c : Seen) : Type 0 where
  pub stops : IfSome c.held (Stops c)
  pub quiet : AreQuiet c

-- the input has too many bytes, or a line of it has
pub record IsTooLong (c : Seen) : Type 0 where
  pub nothing : WroteNothing c
  pub long : IfSome c.held (λ input. is_too_long input ≡ true)
  pub quiet : AreQuiet c

abbrev pub Says : Status → Seen → Type 0
Says Done c = IsDone c
Says Usage c = IsUnread c
Says ReadFault c = IsReadFault c
Says WriteFault c = IsWriteFault c
Says NoMemory c = IsOutOfMemory c
Says TurnLimit c = IsAtTurnLimit c
Says TooLong c = IsTooLong c

-- ---- before anything is run

-- why the words give no options
abbrev pub words_status : WordsFault → Status
words_status words.Usage = Usage
words_status words.NoMemory = NoMemory

-- no fault was counted
abbrev pub no_faults : Counts
no_faults = record { before = 0; now = 0 }

-- it has too many bytes, or a line of it has
pub record IsLong (held : Option (List ℕ)) (source : Counts) : Type 0 where
  pub long : IfSome held (λ input. is_too_long input ≡ true)
  pub quiet : IsQuiet source

-- why the input isn't run
abbrev pub IsNotRun : Status → Option (List ℕ) → Counts → Type 0
IsNotRun ReadFault held source = HasRisen source
IsNotRun NoMemory held source = IsQuiet source
IsNotRun TooLong held source = IsLong held source
IsNotRun _ held source = ⊥

-- how a run may end
abbrev pub IsOfRun : Status → Type 0
IsOfRun Done = Unit {0}
IsOfRun WriteFault = Unit {0}
IsOfRun NoMemory = Unit {0}
IsOfRun TurnLimit = Unit {0}
IsOfRun _ = ⊥

-- ---- which status comes

-- the words are refused, unless memory ran out
abbrev pub IsRefused : Status → Type 0
IsRefused Usage = Unit {0}
IsRefused NoMemory = Unit {0}
IsRefused _ = ⊥

-- done, unless memory ran out
abbrev pub Ends : Status → Type 0
Ends Done = Unit {0}
Ends NoMemory = Unit {0}
Ends _ = ⊥

-- where nothing stands against it, the run is done
pub record IsFree (c : Seen) (input : List ℕ) : Type 0 where
  pub within : IsWithin c.options input
  pub source : HasRisen c.source → ⊥
  pub sink : HasRisen c.sink → ⊥

-- What each status says, of what was seen of a call.
use Rattle.std.proofs.Common.{◌≡◌, ℕ, ◌≤◌, ◌-◌, ◌^◌, min, List, [], true, Option, Some, None, IfSome, refl, sym, subst, arith, true≢false, ◌∙◌}
use Rattle.std.proofs.KnownBytes.{Appends-nil, Keeps-refl}
use Rattle.std.specs.Io.KnownBytes.{Appends, Keeps}
use Rattle.command_words.specs.declared.words.Options.{Options}
use Rattle.host_turns.specs.contract_texts.Reader.{reader}
use Rattle.run_laws.specs.Runs.{AppendsTurns, turns_of}
use Rattle.run_laws.specs.message_lines.InputLines.{is_too_long}
use Rattle.host_turns.specs.turn_rows.Turns.{Turn}
use Rattle.top_call.specs.declared.top.Status.{Status}
use Rattle.top_call.specs.declared.top.Status.TheVariants.{Done, Usage, ReadFault, WriteFault, NoMemory, TurnLimit, TooLong}
use Rattle.top_call.specs.Top.{BreaksOff, Completes, Counts, Ends, HasRisen, IsFree, IsNotRun, IsOfRun, IsOutOfMemory, IsQuiet, IsReadFault, IsTooLong, IsUnread, Says, Seen, Stops, no_faults, turns_for}

-- what holds of the bytes that were read holds of what the source held
pub known : (P : List ℕ → Type 0) (held : Option (List ℕ)) (items : List ℕ) → IfSome held (λ input. items ≡ input) → P items → IfSome held P
known P None items same p = tt
known P (Some input) items same p = subst P same p

pub weaker : {T : Type 0} (o : Option T) (P Q : T → Type 0) → ((x : T) → P x → Q x) → IfSome o P → IfSome o Q
weaker None P Q f h = tt
weaker (Some x) P Q f h = f x h

each : {T : Type 0} (o : Option T) (P : T → Type 0) → ((x : T) → P x) → IfSome o P
each None P f = tt
each (Some x) P f = f x

pub run_unlike_usage : (s : Status) → IsOfRun s → s ≡ Usage → ⊥
run_unlike_usage Usage is e = is
run_unlike_usage Done is e = cc
run_unlike_usage ReadFault is e = is
run_unlike_usage WriteFault is e = cc
run_unlike_usage NoMemory is e = cc
run_unlike_usage TurnLimit is e = cc
run_unlike_usage TooLong is e = is

pub unrun_unlike_usage : (s : Status) (held : Option (List ℕ)) (source : Counts) → IsNotRun s held source → s ≡ Usage → ⊥
unrun_unlike_usage Usage held source is e = is
unrun_unlike_usage Done held source is e = is
unrun_unlike_usage ReadFault held source is e = cc
unrun_unlike_usage WriteFault held source is e = is
unrun_unlike_usage NoMemory held source is e = cc
unrun_unlike_usage TurnLimit held source is e = is
unrun_unlike_usage TooLong held source is e = cc

pub unrun_unlike_done : (s : Status) (held : Option (List ℕ)) (source : Counts) → IsNotRun s held source → s ≡ Done → ⊥
unrun_unlike_done Done held source is e = is
unrun_unlike_done Usage held source is e = cc
unrun_unlike_done ReadFault held source is e = cc
unrun_unlike_done WriteFault held source is e = cc
unrun_unlike_done NoMemory held source is e = cc
unrun_unlike_done TurnLimit held source is e = cc
unrun_unlike_done TooLong held source is e = cc

module _ (c : Seen) where
  -- nothing was read or written
  pub unread : c.written.now ≡ c.written.before → IsQuiet c.source → IsQuiet c.sink → IsUnread c
  unread same source sink = record { nothing = subst (λ w. Keeps c.written.before w) (sym same) (Keeps-refl c.written.before); quiet = record { source = source; sink = sink } }

  pub read_fault : c.written.now ≡ c.written.before → HasRisen c.source → IsQuiet c.sink → IsReadFault c
  read_fault same source sink = record { nothing = subst (λ w. Keeps c.written.before w) (sym same) (Keeps-refl c.written.before); source = source; sink = sink }

  pub too_long : c.written.now ≡ c.written.before → IfSome c.held (λ input. is_too_long input ≡ true) → IsQuiet c.source → IsQuiet c.sink → IsTooLong c
  too_long same long source sink = record { nothing = subst (λ w. Keeps c.written.before w) (sym same) (Keeps-refl c.written.before); long = long; quiet = record { source = source; sink = sink } }

  -- no turn was written
  no_turns : (ts : List Turn) → c.written.now ≡ c.written.before → AppendsTurns c.written.before c.written.now 0 ts
  no_turns ts same = record { first = []; later = ts; whole = refl; short = tt; appended = subst (λ w. Appends c.written.before w []) (sym same) (Appends-nil c.written.before) }

  pub no_memory : c.written.now ≡ c.written.before → IsQuiet c.source → IsQuiet c.sink → IsOutOfMemory c
  no_memory same source sink = record {
    turns = each c.held (λ input. AppendsTurns c.written.before c.written.now 0 (turns_for c input)) (λ input. no_turns (turns_for c input) same);
    quiet = record { source = source; sink = sink };
  }

  -- what was read was run
  module _ (o : Options) (items : List ℕ) (asked : o ≡ c.options) (same : IfSome c.held (λ input. items ≡ input)) (source : IsQuiet c.source) where
    abbrev ran : Seen
    ran = record { options = o; held = Some items; written = c.written; source = no_faults; sink = c.sink }

    -- what is told of the options that the run had is told of those that were asked for
    told : (P : Options → List ℕ → Type 0) → P o items → IfSome c.held (P c.options)
    told P is = known (P c.options) c.held items same (subst (λ (p : Options). P p items) asked is)

    abbrev completes : Options → List ℕ → Type 0
    completes p input = Completes (record c { options = p }) input

    abbrev breaks : Options → List ℕ → Type 0
    breaks p input = BreaksOff (record c { options = p }) input

    abbrev stops : Options → List ℕ → Type 0
    stops p input = Stops (record c { options = p }) input

    abbrev first_turns : Options → List ℕ → Type 0
    first_turns p input = AppendsTurns c.written.before c.written.now 0 (turns_of reader p.meter p.turns input)

    -- what the run says, the whole call says
    pub says_on : (s : Status) → Says s ran → Says s c
    says_on Done is = record { completes = told completes (record { journal = is.completes.journal; fair = is.completes.fair; short = is.completes.short; within = is.completes.within }); quiet = record { source = source; sink = is.quiet.sink } }
    says_on WriteFault is = record { breaks_off = told breaks (record { front = is.breaks_off.front; bytes = is.breaks_off.bytes }); source = source; sink = is.sink }
    says_on TurnLimit is = record { stops = told stops (record { turns = is.stops.turns; past = is.stops.past }); quiet = record { source = source; sink = is.quiet.sink } }
    says_on NoMemory is = record { turns = told first_turns is.turns; quiet = record { source = source; sink = is.quiet.sink } }
    says_on Usage is = record { nothing = is.nothing; quiet = record { source = source; sink = is.quiet.sink } }
    says_on ReadFault is = let rose : min 1 (2 ^ 64 - 1) ≤ 0 = is.source in absurd (omega (arith, rose))
    says_on TooLong is = record { nothing = is.nothing; long = known (λ input. is_too_long input ≡ true) c.held items same is.long; quiet = record { source = source; sink = is.quiet.sink } }

  -- the input wasn't run
  pub says_unrun : (s : Status) → IsNotRun s c.held c.source → c.written.now ≡ c.written.before → IsQuiet c.sink → Says s c
  says_unrun Done is same sink = absurd is
  says_unrun Usage is same sink = absurd is
  says_unrun ReadFault is same sink = read_fault same is sink
  says_unrun WriteFault is same sink = absurd is
  says_unrun NoMemory is same sink = no_memory same is sink
  says_unrun TurnLimit is same sink = absurd is
  says_unrun TooLong is same sink = too_long same is.long is.quiet sink

  -- ---- a status that comes only where something stands against the run

  -- the input passes a limit
  pub not_free_long : (A B : List ℕ → Type 0) → IfSome c.held (λ input. is_too_long input ≡ true) → IfSome c.held (λ input. A input → IsFree c input → B input)
  not_free_long A B long = weaker c.held (λ input. is_too_long input ≡ true) (λ input. A input → IsFree c input → B input) (λ input is a free. absurd (true≢false (sym is ∙ free.within.bytes))) long

  -- so many turns are too many
  pub not_free_past : (A B : List ℕ → Type 0) → IfSome c.held (Stops c) → IfSome c.held (λ input. A input → IsFree c input → B input)
  not_free_past A B stops = weaker c.held (Stops c) (λ input. A input → IsFree c input → B input) (λ input stop a free. let few = free.within.turns in let past = stop.past.turns in absurd (omega (arith, few, past))) stops

  -- any status that says what stands against the run comes only so
  pub ends_free : (A : List ℕ → Type 0) (s : Status) → (s ≡ Usage → ⊥) → Says s c → IfSome c.held (λ input. A input → IsFree c input → Ends s)
  ends_free A Done bare is = each c.held (λ input. A input → IsFree c input → Ends Done) (λ input a free. tt)
  ends_free A Usage bare is = absurd (bare refl)
  ends_free A ReadFault bare is = each c.held (λ input. A input → IsFree c input → Ends ReadFault) (λ input a free. free.source is.source)
  ends_free A WriteFault bare is = each c.held (λ input. A input → IsFree c input → Ends WriteFault) (λ input a free. free.sink is.sink)
  ends_free A NoMemory bare is = each c.held (λ input. A input → IsFree c input → Ends NoMemory) (λ input a free. tt)
  ends_free A TurnLimit bare is = not_free_past A (λ input. Ends TurnLimit) is.stops
  ends_free A TooLong bare is = not_free_long A (λ input. Ends TooLong) is.long

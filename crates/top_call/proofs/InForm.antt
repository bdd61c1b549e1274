-- The turns that were written so far are in form where they can be printed, and none of their rows is too long: once
-- those that are left are so too, all are.
use Rattle.std.proofs.Common.{◌≡◌, ◌≤◌, ◌<◌, ◌^◌, ℕ, suc, length, arith, List, [], ◌∷◌, ◌++◌, Some, None, map, sym, ap, subst, ◌∙◌, append-nil}
use Rattle.std.specs.List.{AllByRecursion}
use Rattle.host_turns.specs.contract_texts.Reader.{reader}
use Rattle.host_turns.proofs.contract_texts.Modules.{reads_modules}
use Rattle.run_laws.specs.delivery_turns.Hosts.{HostState, Step, step_of}
use Rattle.run_laws.specs.fair_rows.Strict.{AreStrict}
use Rattle.run_laws.specs.fair_rows.Turns.{AreFair, IsFairJournal}
use Rattle.run_laws.specs.FairRuns.{CanBePrinted, TellsLittle}
use Rattle.run_laws.proofs.RunsFair.{run_fair, run_journal, run_little, run_prints, run_strict}
use Rattle.run_laws.specs.message_lines.InputLines.{lines_of}
use Rattle.run_laws.specs.message_lines.Meanings.{Meaning, meaning_of}
use Rattle.run_laws.specs.turn_writer.ShortRows.{HasShortRows}
use Rattle.host_turns.specs.turn_records.Printed.{printed}
use Rattle.host_turns.specs.turn_rows.Form.{IsInForm}
use Rattle.host_turns.specs.world_state.Rights.{most_turns}
use Rattle.run_laws.specs.Runs.{HostTurn, Run, drained, first_host, journal_of, left_of, line_run, lines_run, most_meter, run_of, turns_of}
use Rattle.top_call.specs.Forms.{PrintsInForm}
use Rattle.top_call.proofs.Drains.{drained_more, drained_none, drained_zero}
use Rattle.top_call.proofs.RunTexts.{meant, run_parts}
use Rattle.run_laws.proofs.ShortJournals.{both_each}
use Rattle.host_turns.specs.turn_rows.Editions.{written}

abbrev pub PrintInForm : Run → Type 0
PrintInForm r = AllByRecursion PrintsInForm r.turns

pub form_none : (k : ℕ) (s : HostState) → step_of reader s ≡ None → PrintInForm (drained reader k s)
form_none k s none = subst PrintInForm (sym (drained_none k s none)) tt

pub form_over : (k : ℕ) (s : HostState) → k ≡ 0 → PrintInForm (drained reader k s)
form_over k s over = subst (λ n. PrintInForm (drained reader n s)) (sym over) (subst PrintInForm (sym (drained_zero s)) tt)

pub form_turn : (k m : ℕ) (s : HostState) (t : Step) → k ≡ suc m → step_of reader s ≡ Some t → PrintsInForm (record { before = s; step = t }) → PrintInForm (drained reader m t.next) → PrintInForm (drained reader k s)
form_turn k m s t left made first rest = subst (λ n. PrintInForm (drained reader n s)) (sym left) (subst PrintInForm (sym (drained_more m s t made)) (first, rest))

pub form_line : (s : HostState) (ms : List Meaning) (m : Meaning) (left : List Meaning) → ms ≡ m ∷ left → (v : HostState) → v ≡ (line_run reader s m).end
    → PrintInForm (line_run reader s m) → PrintInForm (lines_run reader v left) → PrintInForm (lines_run reader s ms)
form_line s ms m left e v is one rest =
    subst (λ ls. PrintInForm (lines_run reader s ls)) (sym e)
    (both_each PrintsInForm (line_run reader s m).turns (lines_run reader (line_run reader s m).end left).turns one (subst (λ u. PrintInForm (lines_run reader u left)) is rest))

pub form_run : (meter most : ℕ) (input : List ℕ) (s t : HostState) → s ≡ first_host meter → t ≡ (lines_run reader s (map meaning_of (lines_of input))).end
    → PrintInForm (lines_run reader s (map meaning_of (lines_of input))) → PrintInForm (drained reader most t) → PrintInForm (run_of reader meter most input)
form_run meter most input s t e is lines last =
    let there : t ≡ (lines_run reader (first_host meter) (meant input)).end = is ∙ ap (λ u. (lines_run reader u (meant input)).end) e in
    subst PrintInForm (sym (run_parts meter most input))
    (both_each PrintsInForm (lines_run reader (first_host meter) (meant input)).turns ((drained reader most (lines_run reader (first_host meter) (meant input)).end).turns ++ [])
    (subst (λ u. PrintInForm (lines_run reader u (meant input))) e lines)
    (subst (AllByRecursion PrintsInForm) (sym (append-nil (drained reader most (lines_run reader (first_host meter) (meant input)).end).turns)) (subst (λ u. PrintInForm (drained reader most u)) there last)))

-- ---- turns whose rows are not too long

pub turns_short : (ts : List HostTurn) → AllByRecursion PrintsInForm ts → AllByRecursion (HasShortRows written) (map (λ (t : HostTurn). printed t.step.turn) ts)
turns_short [] prints = tt
turns_short (t ∷ ts) prints = (prints.0.short, turns_short ts prints.1)

-- ---- turns that can be printed

turns_in_form : (ts : List HostTurn) → AllByRecursion PrintsInForm ts → AllByRecursion CanBePrinted ts → AllByRecursion (IsInForm written) (map (λ (t : HostTurn). printed t.step.turn) ts)
turns_in_form [] prints can = tt
turns_in_form (t ∷ ts) prints can = (prints.0.form can.0, turns_in_form ts prints.1 can.1)

-- where the turns of a run were printed, its journal is the text of a fair one
pub fair_journal : (meter most : ℕ) (input : List ℕ) → meter ≤ most_meter → PrintInForm (run_of reader meter most input) → length (turns_of reader meter most input) ≤ most_turns → left_of reader meter most input < 2 ^ 64
    → IsFairJournal written (journal_of reader meter most input) (turns_of reader meter most input) (left_of reader meter most input)
fair_journal meter most input few prints short left =
    let r = run_of reader meter most input in
    let can = run_prints reader reads_modules meter most input few in
    run_journal reader reads_modules meter most input few (record { turns = turns_in_form r.turns prints can; as_many = omega (arith, short); few = left })

-- ---- whatever the input

pub runs_fair : (meter most : ℕ) (input : List ℕ) → meter ≤ most_meter → AreFair written (turns_of reader meter most input)
runs_fair meter most input few = run_fair reader reads_modules meter most input few

pub runs_strict : (meter most : ℕ) (input : List ℕ) → meter ≤ most_meter → AreStrict (turns_of reader meter most input)
runs_strict meter most input few = run_strict reader reads_modules meter most input few

pub runs_little : (meter most : ℕ) (input : List ℕ) → meter ≤ most_meter → AllByRecursion TellsLittle (turns_of reader meter most input)
runs_little meter most input few = run_little reader reads_modules meter most input few

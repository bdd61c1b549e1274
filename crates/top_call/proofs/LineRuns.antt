-- What a line makes of the turns of the lines that are still to be worked.
use Rattle.std.proofs.Common.{◌≡◌, ◌+◌, ℕ, List, ◌∷◌, ◌++◌, Option, length, ap, sym, subst, ◌∙◌}
use Rattle.std.proofs.lemmas.List.{length-map, map-append}
use Rattle.std.specs.Io.KnownBytes.{Appends}
use Rattle.std.specs.List.{AllByRecursion}
use Rattle.host_turns.specs.contract_texts.Reader.{reader}
use Rattle.run_laws.specs.delivery_turns.Hosts.{HostState}
use Rattle.run_laws.specs.message_lines.Meanings.{Meaning}
use Rattle.host_turns.specs.turn_records.Printed.{printed}
use Rattle.run_laws.specs.turn_writer.ShortRows.{HasShortRows}
use Rattle.host_turns.specs.turn_rows.Editions.{written}
use Rattle.host_turns.specs.turn_rows.Texts.{turns_text}
use Rattle.host_turns.specs.turn_rows.Turns.{Turn}
use Rattle.run_laws.proofs.RunOrder.{line_count, lines_count}
use Rattle.run_laws.specs.Machines.{run_then}
use Rattle.run_laws.specs.Runs.{HostTurn, Run, line_run, lines_run, turns_in}
use Rattle.top_call.proofs.TurnTexts.{Written, written_more}

pub turns_both : (a b : Run) → turns_in (run_then a b) ≡ turns_in a ++ turns_in b
turns_both a b = map-append (λ (t : HostTurn). printed t.step.turn) a.turns b.turns

pub turns_length : (r : Run) → length (turns_in r) ≡ length r.turns
turns_length r = length-map r.turns (λ (t : HostTurn). printed t.step.turn)

pub line_turns_count : (m : Meaning) (s : HostState) → (line_run reader s m).end.turns ≡ s.turns + length (turns_in (line_run reader s m))
line_turns_count m s = line_count reader m s ∙ ap (λ n. s.turns + n) (sym (turns_length (line_run reader s m)))

pub lines_turns_count : (ms : List Meaning) (s : HostState) → (lines_run reader s ms).end.turns ≡ s.turns + length (turns_in (lines_run reader s ms))
lines_turns_count ms s = lines_count reader ms s ∙ ap (λ n. s.turns + n) (sym (turns_length (lines_run reader s ms)))

abbrev pub LinesLeft : List Turn → ℕ → List Meaning → HostState → Option (List ℕ) → Option (List ℕ) → Type 0
LinesLeft all n ms s old mid = Written all (turns_in (lines_run reader s ms)) n s.turns old mid

module _ (s : HostState) (ms : List Meaning) (m : Meaning) (left : List Meaning) (e : ms ≡ m ∷ left) where
  abbrev by_line : Run
  by_line = line_run reader s m

  turns_split : turns_in (lines_run reader s ms) ≡ turns_in by_line ++ turns_in (lines_run reader by_line.end left)
  turns_split = ap (λ ls. turns_in (lines_run reader s ls)) e ∙ turns_both by_line (lines_run reader by_line.end left)

  pub line_next : (all : List Turn) (n : ℕ) (old mid : Option (List ℕ)) → LinesLeft all n ms s old mid → Written all (turns_in by_line ++ turns_in (lines_run reader by_line.end left)) n s.turns old mid
  line_next all n old mid h = subst (λ ts. Written all ts n s.turns old mid) turns_split h

  module _ (v : HostState) (is : v ≡ by_line.end) where
    pub line_worked : (all : List Turn) (n : ℕ) (old mid new : Option (List ℕ)) → LinesLeft all n ms s old mid → AllByRecursion (HasShortRows written) (turns_in by_line) → Appends mid new (turns_text written s.turns (turns_in by_line)) → LinesLeft all n left v old new
    line_worked all n old mid new h short more =
        subst (λ (u : HostState). LinesLeft all n left u old new) (sym is)
        (written_more all (turns_in by_line) (turns_in (lines_run reader by_line.end left)) n s.turns by_line.end.turns old mid new (line_next all n old mid h) short more (line_turns_count m s))

    pub line_ends : (lines_run reader s ms).end ≡ (lines_run reader v left).end
    line_ends = ap (λ ls. (lines_run reader s ls).end) e ∙ ap (λ u. (lines_run reader u left).end) (sym is)

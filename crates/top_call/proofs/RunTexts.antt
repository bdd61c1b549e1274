-- The journal of a run is what its lines and its end write, and a close row of the host after them.
use Rattle.std.proofs.Common.{◌≡◌, ℕ, ◌+◌, ◌≤◌, List, [], ◌∷◌, ◌++◌, length, map, Option, refl, sym, ap, subst, ◌∙◌, arith, append_assoc, append-nil}
use Rattle.std.proofs.KnownBytes.{Appends-kept, Appends-nil, Appends-trans}
use Rattle.std.specs.Io.KnownBytes.{Appends, Keeps}
use Rattle.std.specs.List.{AllByRecursion}
use Rattle.host_turns.specs.contract_texts.Reader.{reader}
use Rattle.run_laws.specs.delivery_turns.Hosts.{HostState}
use Rattle.host_io.specs.Fronts.{AppendsFront}
use Rattle.run_laws.specs.message_lines.InputLines.{lines_of}
use Rattle.run_laws.specs.message_lines.Meanings.{Meaning, meaning_of, run}
use Rattle.run_laws.specs.turn_writer.ShortRows.{HasShortJournal, HasShortRows, IsShortRow}
use Rattle.host_turns.specs.turn_rows.Rows.{close_row}
use Rattle.host_turns.specs.turn_rows.Texts.{close_text, turns_text}
use Rattle.host_turns.specs.turn_rows.Turns.{Turn}
use Rattle.host_turns.specs.world_state.Rights.{most_turns}
use Rattle.run_laws.specs.Machines.{no_turn, run_then}
use Rattle.run_laws.specs.Runs.{AppendsTurns, Run, closing_text, drained, first_host, journal_of, left_in, left_of, line_run, lines_run, meanings_of, run_of, turns_in, turns_of}
use Rattle.top_call.proofs.LineRuns.{lines_turns_count, turns_both}
use Rattle.run_laws.proofs.ShortJournals.{journal_short}
use Rattle.run_laws.proofs.turn_rows.ByTurns.{text_by_turns}
use Rattle.top_call.proofs.TurnTexts.{Written, written_all, written_more}
use Rattle.host_turns.specs.turn_rows.Editions.{written}

-- ---- the text

journal_parts : (meter most : ℕ) (input : List ℕ) → journal_of reader meter most input ≡ turns_text written 0 (turns_of reader meter most input) ++ close_text written (left_of reader meter most input) (length (turns_of reader meter most input))
unfolding journal_of
journal_parts meter most input = text_by_turns written (turns_of reader meter most input) (left_of reader meter most input)

-- ---- the lines, and then the end

run_assoc : (a b c : Run) → run_then a (run_then b c) ≡ run_then (run_then a b) c
run_assoc a b c = ap (λ ts. record { turns = ts; end = c.end }) (sym (append_assoc a.turns b.turns c.turns))

lines_then : (s : HostState) (a b : List Meaning) → lines_run reader s (a ++ b) ≡ run_then (lines_run reader s a) (lines_run reader (lines_run reader s a).end b)
lines_then s [] b = refl
lines_then s (m ∷ a) b =
    let one = line_run reader s m in
    let rest = lines_run reader one.end a in
    ap (λ r. run_then one r) (lines_then one.end a b) ∙ run_assoc one rest (lines_run reader rest.end b)

abbrev pub meant : List ℕ → List Meaning
meant input = map meaning_of (lines_of input)

-- the end of the input is a line of its own
abbrev last : ℕ → HostState → Run
last most s = lines_run reader s (run most ∷ [])

last_turns : (most : ℕ) (s : HostState) → turns_in (last most s) ≡ turns_in (drained reader most s) ++ []
last_turns most s = turns_both (drained reader most s) (no_turn (drained reader most s).end)

module _ (meter most : ℕ) (input : List ℕ) where
  abbrev all : List Turn
  all = turns_of reader meter most input

  abbrev end : HostState
  end = (run_of reader meter most input).end

  pub run_parts : run_of reader meter most input ≡ run_then (lines_run reader (first_host meter) (meant input)) (last most (lines_run reader (first_host meter) (meant input)).end)
  run_parts = lines_then (first_host meter) (meant input) (run most ∷ [])

  all_parts : all ≡ turns_in (lines_run reader (first_host meter) (meant input)) ++ (turns_in (drained reader most (lines_run reader (first_host meter) (meant input)).end) ++ [])
  all_parts =
      let lines = lines_run reader (first_host meter) (meant input) in
      ap turns_in run_parts ∙ turns_both lines (last most lines.end) ∙ ap (λ ts. turns_in lines ++ ts) (last_turns most lines.end)

  pub run_start : (s : HostState) (old : Option (List ℕ)) → s ≡ first_host meter
      → Written all (turns_in (lines_run reader s (meant input)) ++ (turns_in (drained reader most (lines_run reader s (meant input)).end) ++ [])) 0 s.turns old old
  run_start s old e = record {
    done = [];
    whole = all_parts ∙ ap (λ t. turns_in (lines_run reader t (meant input)) ++ (turns_in (drained reader most (lines_run reader t (meant input)).end) ++ [])) (sym e);
    count = ap (λ (t : HostState). t.turns) e;
    short = tt;
    appended = Appends-nil old;
  }

  module _ (s t : HostState) (e : s ≡ first_host meter) (is : t ≡ (lines_run reader s (meant input)).end) where
    pub run_lines : (old new : Option (List ℕ)) → AllByRecursion (HasShortRows written) (turns_in (lines_run reader s (meant input))) → Appends old new (turns_text written s.turns (turns_in (lines_run reader s (meant input)))) → Written all (turns_in (drained reader most t) ++ []) 0 t.turns old new
    run_lines old new short h =
        subst (λ (u : HostState). Written all (turns_in (drained reader most u) ++ []) 0 u.turns old new) (sym is)
        (written_more all (turns_in (lines_run reader s (meant input))) (turns_in (drained reader most (lines_run reader s (meant input)).end) ++ []) 0 s.turns (lines_run reader s (meant input)).end.turns old old new (run_start s old e) short h (lines_turns_count (meant input) s))

    -- all turns were written once the deliveries at the end were run
    pub run_written : (old mid new : Option (List ℕ)) → AllByRecursion (HasShortRows written) (turns_in (lines_run reader s (meant input))) → AllByRecursion (HasShortRows written) (turns_in (drained reader most t))
        → Appends old mid (turns_text written s.turns (turns_in (lines_run reader s (meant input)))) → Appends mid new (turns_text written t.turns (turns_in (drained reader most t))) → Appends old new (turns_text written 0 all)
    run_written old mid new short both h more =
        written_all all 0 (t.turns + length (turns_in (drained reader most t))) old new (written_more all (turns_in (drained reader most t)) [] 0 t.turns (t.turns + length (turns_in (drained reader most t))) old mid new (run_lines old mid short h) both more refl)

    -- the host at the end
    pub run_ends : (u : HostState) → u ≡ (drained reader most t).end → u ≡ end
    run_ends u ends = ends ∙ ap (λ v. (drained reader most v).end) (is ∙ ap (λ v. (lines_run reader v (meant input)).end) e) ∙ ap (λ (r : Run). r.end) (sym run_parts)

  turns_run : length all ≡ end.turns
  turns_run = omega (arith, lines_turns_count (meanings_of most input) (first_host meter))

  module _ (u : HostState) (is : u ≡ end) where
    pub run_few : u.turns ≤ most_turns → length all ≤ most_turns
    run_few few = omega (arith, few, ap (λ (t : HostState). t.turns) is, turns_run)

    -- ---- the close row

    -- no row of the journal is too long
    pub run_short : AllByRecursion (HasShortRows written) all → IsShortRow (close_row (left_in u) u.turns) → HasShortJournal written all (left_of reader meter most input)
    run_short short close =
        journal_short written all (left_of reader meter most input) short
        (subst (λ n. IsShortRow (close_row (left_of reader meter most input) n)) (sym turns_run) (subst (λ (t : HostState). IsShortRow (close_row (left_in t) t.turns)) is close))

    journal_closes : journal_of reader meter most input ≡ turns_text written 0 all ++ closing_text u
    journal_closes = journal_parts meter most input ∙ ap (λ n. turns_text written 0 all ++ close_text written (left_of reader meter most input) n) turns_run ∙ ap (λ t. turns_text written 0 all ++ closing_text t) (sym is)

    pub run_closed : (old mid new : Option (List ℕ)) → Appends old mid (turns_text written 0 all) → Appends mid new (closing_text u) → Appends old new (journal_of reader meter most input)
    run_closed old mid new turns close = rw journal_closes (Appends-trans old mid new _ _ turns close)

    pub run_close_failed : (old mid new : Option (List ℕ)) → Appends old mid (turns_text written 0 all) → AppendsFront mid new (closing_text u) → AppendsFront old new (journal_of reader meter most input)
    run_close_failed old mid new turns f = record {
      front = turns_text written 0 all ++ f.front;
      back = f.back;
      whole = journal_closes ∙ ap (λ xs. turns_text written 0 all ++ xs) f.whole ∙ sym (append_assoc (turns_text written 0 all) f.front f.back);
      appended = Appends-trans old mid new _ _ turns f.appended;
    }

  -- nothing came of it
  pub run_close_kept : (old mid new : Option (List ℕ)) → AllByRecursion (HasShortRows written) all → Appends old mid (turns_text written 0 all) → Keeps mid new → AppendsTurns old new 0 all
  run_close_kept old mid new short turns kept = record { first = all; later = []; whole = sym (append-nil all); short = short; appended = Appends-kept old mid new _ turns kept }

  -- a fault before it
  pub run_turns_failed : (old new : Option (List ℕ)) → AppendsFront old new (turns_text written 0 all) → AppendsFront old new (journal_of reader meter most input)
  run_turns_failed old new f = record {
    front = f.front;
    back = f.back ++ closing_text end;
    whole = journal_closes end refl ∙ rw f.whole (append_assoc f.front f.back (closing_text end));
    appended = f.appended;
  }

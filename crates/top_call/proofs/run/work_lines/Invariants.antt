use Rattle.std.proofs.Common.{◌≡◌, ◌≤◌, map}
use Rattle.host_turns.specs.contract_texts.Reader.{reader}
use Rattle.run_laws.specs.Runs.{lines_run, turns_in}
use Rattle.run_laws.specs.message_lines.InputLines.{lines_of}
use Rattle.run_laws.specs.message_lines.Meanings.{meaning_of}
use Rattle.top_call.proofs.LineRuns.{LinesLeft}
use Rattle.top_call.proofs.InForm.{PrintInForm}
use Rattle.top_call.proofs.run.work_lines.Given as goal
use Rattle.host_turns.specs.HostStates.{host_of}
use Rattle.host_turns.specs.world_state.Rights.{most_turns}

abbrev pub invariant-loop-line : goal.invariant-loop-line
invariant-loop-line g l = record {
  can : (goal.iterator-loop-line g).can_next l.line-iterator;
  finite : (goal.iterator-loop-line g).is_finite l.line-iterator;
  worked : LinesLeft (turns_in (lines_run reader (host_of l.fn.host) (map meaning_of (lines_of l.input)))) (host_of l.fn.host).turns (map meaning_of l.line-iterator) (host_of l.host) (g.K.Sink.written l.fn.sink) (g.K.Sink.written l.sink);
  ends : (lines_run reader (host_of l.fn.host) (map meaning_of (lines_of l.input))).end ≡ (lines_run reader (host_of l.host) (map meaning_of l.line-iterator)).end;
  few : (host_of l.host).turns ≤ most_turns;
  form : PrintInForm (lines_run reader (host_of l.host) (map meaning_of l.line-iterator)) → PrintInForm (lines_run reader (host_of l.fn.host) (map meaning_of (lines_of l.input)));
  quiet : g.K.Sink.faults l.sink ≡ g.K.Sink.faults l.fn.sink;
}

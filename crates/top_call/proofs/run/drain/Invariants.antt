use Rattle.std.proofs.Common.{◌≡◌, ◌-◌, ◌≤◌}
use Rattle.host_turns.specs.contract_texts.Reader.{reader}
use Rattle.run_laws.specs.Runs.{drained, turns_in}
use Rattle.top_call.proofs.Drains.{TurnsLeft}
use Rattle.top_call.proofs.InForm.{PrintInForm}
use Rattle.top_call.proofs.run.drain.Given as goal
use Rattle.host_turns.specs.HostStates.{host_of}
use Rattle.host_turns.specs.world_state.Rights.{most_turns}

abbrev pub invariant-loop : goal.invariant-loop
invariant-loop g l = record {
  worked : TurnsLeft (turns_in (drained reader l.most (host_of l.fn.host))) (host_of l.fn.host).turns (l.most - l.counter) (host_of l.host) (g.K.Sink.written l.fn.sink) (g.K.Sink.written l.sink);
  ends : (drained reader l.most (host_of l.fn.host)).end ≡ (drained reader (l.most - l.counter) (host_of l.host)).end;
  few : (host_of l.host).turns ≤ most_turns;
  form : PrintInForm (drained reader (l.most - l.counter) (host_of l.host)) → PrintInForm (drained reader l.most (host_of l.fn.host));
  quiet : g.K.Sink.faults l.sink ≡ g.K.Sink.faults l.fn.sink;
}

use Rattle.host_turns.proofs.Lines.{submitted_so, taken_kept}
use Rattle.host_turns.proofs.host.Host.submit.Goals as goal

pub invariant_of-self : goal.invariant_of-self
invariant_of-self g c = taken_kept c.take_line.result _ _ c.args.line.now _ c.in_ok-line.ensures c.self.invariant c.take_line.ensures.taken c.take_line.ensures.rests

pub returns : goal.returns
returns g c = submitted_so c.take_line.result _ _ c.self.view_is _ c.args.line.now _ c.in_ok-line.ensures c.take_line.ensures.taken

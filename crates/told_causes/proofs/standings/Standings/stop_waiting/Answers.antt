use Rattle.std.proofs.Common.{◌≡◌, Some, sym, ◌∙◌}
use Rattle.std.specs.List.{slice_get}
use Rattle.told_causes.proofs.Pairs.{none_stopped, stopped}
use Rattle.told_causes.proofs.standings.Standings.stop_waiting.Goals as goal

pub returns-in-Some : goal.returns-in-Some
returns-in-Some c =
    let own : slice_get c.args.self.now.instances.items c.args.seat ≡ Some c.in-Some.instance = sym c.instance.ensures ∙ c.in-Some.is in
    stopped c.args.self.now c.unlist.new.self c.in-Some.instance c.args.seat c.unlist.result c.unlist.ensures.off own c.unlist.ensures.was

pub returns-in-None : goal.returns-in-None
returns-in-None c = none_stopped c.args.self.now c.args.seat (sym c.instance.ensures ∙ c.in-None.is)

use Rattle.std.specs.BTreeSet.{btree_set_len}
use Rattle.told_causes.specs.StandingSteps.{IsHalting}
use Rattle.told_causes.proofs.standings.Standings.halt.Given as goal

abbrev pub invariant-loop-seat : goal.invariant-loop-seat
invariant-loop-seat l = IsHalting l.initial.self l.self l.instance l.standing

abbrev pub decreases-loop-seat : goal.decreases-loop-seat
decreases-loop-seat l = btree_set_len l.self.waiting

use Rattle.std.proofs.Common.{◌≡◌, ◌++◌, List}
use Rattle.std.specs.List.{AllByRecursion}
use Rattle.std.specs.BTreeMap.{values}
use Rattle.told_causes.specs.StandingSteps.{IsSettled}
use Rattle.told_causes.specs.declared.standings.Standing.{Standing}
use Rattle.told_causes.proofs.standings.Standings.are_settled.Given as goal

abbrev pub invariant-loop-standing : goal.invariant-loop-standing
invariant-loop-standing l = (done : List Standing) × (values l.self.standings ≡ done ++ l.standing-iterator) × AllByRecursion IsSettled done

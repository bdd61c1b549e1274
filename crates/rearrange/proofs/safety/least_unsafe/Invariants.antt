use Rattle.std.proofs.Common.{MatchOption, take}
use Rattle.rearrange.specs.Safety.{AreSafe, IsLeastUnsafe}
use Rattle.rearrange.specs.Sums.{all_touched}
use Rattle.rearrange.proofs.safety.least_unsafe.Given as goal

abbrev pub invariant-loop-seat : goal.invariant-loop-seat
invariant-loop-seat l = MatchOption l.least (AreSafe l.states (all_touched l.states (take l.seat-index l.list))) (IsLeastUnsafe l.states (all_touched l.states (take l.seat-index l.list)))

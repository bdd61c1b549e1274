use Rattle.std.proofs.Common.{[], take}
use Rattle.rearrange.specs.Parts.{HaveAll}
use Rattle.rearrange.specs.Sums.{all_touched}
use Rattle.rearrange.proofs.sums.parts_of.Given as goal

abbrev pub invariant-loop-seat : goal.invariant-loop-seat
invariant-loop-seat l = HaveAll [] (all_touched l.states (take l.seat-index l.list)) l.parts.items

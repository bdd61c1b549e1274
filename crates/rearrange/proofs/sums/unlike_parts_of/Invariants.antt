use Rattle.std.proofs.Common.{[], take}
use Rattle.rearrange.specs.Parts.{HaveTouched}
use Rattle.rearrange.specs.Sums.{all_touched}
use Rattle.rearrange.proofs.sums.unlike_parts_of.Given as goal

abbrev pub invariant-loop-seat : goal.invariant-loop-seat
invariant-loop-seat l = HaveTouched (all_touched l.states (take l.seat-index l.list)) [] l.parts.items

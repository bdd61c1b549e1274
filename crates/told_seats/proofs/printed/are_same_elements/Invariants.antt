use Rattle.std.proofs.Common.{◌≡◌, take, map}
use Rattle.row_records.specs.Views.{element_view}
use Rattle.told_seats.proofs.printed.are_same_elements.Given as goal

abbrev pub invariant-loop-i : goal.invariant-loop-i
invariant-loop-i l = map element_view (take l.i l.xs) ≡ map element_view (take l.i l.ys)

use Rattle.std.proofs.Common.{◌≡◌, take, map}
use Rattle.row_records.specs.Views.{element_view}
use Rattle.told_seats.proofs.printed.copy_elements.Given as goal

abbrev pub invariant-loop-element : goal.invariant-loop-element
invariant-loop-element l = map element_view l.copies.items ≡ map element_view (take l.element-index l.elements)

use Rattle.std.proofs.Common.{◌≡◌, length, arith, map}
use Rattle.row_records.specs.Views.{element_view}
use Rattle.told_seats.proofs.PrintedValues.{empty_tested, none_tested, number_tested}
use Rattle.told_seats.proofs.printed.is_nothing.Goals as goal

pub returns-in-Number : goal.returns-in-Number
returns-in-Number c = rw c.in-Number.is (number_tested c.in-Number.n)

pub returns-in-Elements : goal.returns-in-Elements
returns-in-Elements c =
    let len : length c.in-Elements.elements.items ≡ c.in-Elements.elements.len = omega arith in
    rw c.in-Elements.is
    (none_tested (map element_view c.in-Elements.elements.items) c.is_empty.result (empty_tested c.in-Elements.elements.items c.in-Elements.elements.len c.is_empty.result len c.is_empty.ensures))

use Rattle.std.proofs.Common.{arith, ap}
use Rattle.row_records.specs.Views.{element_view, value_view}
use Rattle.told_rights.proofs.Noting.{bag_most, none_most, set_most}
use Rattle.told_rights.proofs.supplies.most.Goals as goal

pub returns-then-len-eq0 : goal.returns-then-len-eq0
returns-then-len-eq0 c = λ kind v some. absurd (some (none_most (value_view c.args.value.now) c.in-Elements.elements.items (ap value_view c.in-Elements.is) (omega arith)))

pub returns-in-Key : goal.returns-in-Key
returns-in-Key c = set_most c.args.edition (value_view c.args.value.now) c.in-Elements.elements.items c.index.result.now _ (ap value_view c.in-Elements.is) (omega arith) c.index.ensures (ap element_view c.in-Key.is)

pub returns-in-Counted : goal.returns-in-Counted
returns-in-Counted c = bag_most c.args.edition (value_view c.args.value.now) c.in-Elements.elements.items c.index.result.now _ _ (ap value_view c.in-Elements.is) (omega arith) c.index.ensures (ap element_view c.in-Counted.is)

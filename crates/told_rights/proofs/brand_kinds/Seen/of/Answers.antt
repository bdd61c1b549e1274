use Rattle.std.proofs.Common.{arith, ap}
use Rattle.row_records.specs.Views.{element_view, value_view}
use Rattle.told_rights.proofs.Seeing.{counts_at, keys_at, none_at, number_at}
use Rattle.told_rights.proofs.brand_kinds.Seen.of.Goals as goal

pub returns-in-Number : goal.returns-in-Number
returns-in-Number c = number_at (value_view c.args.value.now) _ (ap value_view c.in-Number.is)

pub returns-then-len-eq0 : goal.returns-then-len-eq0
returns-then-len-eq0 c = none_at (value_view c.args.value.now) c.in-Elements.elements.items (ap value_view c.in-Elements.is) (omega arith)

pub returns-in-Key : goal.returns-in-Key
returns-in-Key c = keys_at (value_view c.args.value.now) c.in-Elements.elements.items c.index.result.now _ (ap value_view c.in-Elements.is) (omega arith) c.index.ensures (ap element_view c.in-Key.is)

pub returns-in-Counted : goal.returns-in-Counted
returns-in-Counted c = counts_at (value_view c.args.value.now) c.in-Elements.elements.items c.index.result.now _ _ (ap value_view c.in-Elements.is) (omega arith) c.index.ensures (ap element_view c.in-Counted.is)

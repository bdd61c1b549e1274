use Rattle.row_reader.proofs.ValueParts.{two_items}
use Rattle.row_reader.proofs.amounts.counted_of.Goals as goal

pub returns-then-pair-ne2 : goal.returns-then-pair-ne2
returns-then-pair-ne2 c = λ x form same. two_items x c.args.pair.now c.if-pair-ne2.true same

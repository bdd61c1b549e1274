use Rattle.std.proofs.Common.{arith}
use Rattle.std.proofs.lemmas.List.{take_all}
use Rattle.std.proofs.lemmas.List.Elements.{All-more, recursion_from_All}
use Rattle.turn_rows.specs.Form.{HasSumForm}
use Rattle.turn_writer.proofs.turn_form.amounts.sums_have_types.Goals as goal

pub loop-sum-preserved : goal.loop-sum-preserved
loop-sum-preserved c = All-more HasSumForm c.args.sums.now c.loop-sum.sum-index _ (omega arith) c.loop-sum.invariant c.sum_has_types.ensures

pub returns : goal.returns
returns c = recursion_from_All HasSumForm c.args.sums.now (rw (take_all c.loop-sum.sum-index c.args.sums.now (omega arith)) at c.loop-sum.invariant)

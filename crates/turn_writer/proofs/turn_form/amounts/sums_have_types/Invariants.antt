use Rattle.std.proofs.Common.{take}
use Rattle.std.specs.List.{All}
use Rattle.turn_rows.specs.Form.{HasSumForm}
use Rattle.turn_writer.proofs.turn_form.amounts.sums_have_types.Given as goal

abbrev pub invariant-loop-sum : goal.invariant-loop-sum
invariant-loop-sum l = All HasSumForm (take l.sum-index l.sums)

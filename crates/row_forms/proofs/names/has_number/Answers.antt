use Rattle.std.proofs.Common.{arith}
use Rattle.std.specs.Bool.{one_answer}
use Rattle.row_forms.proofs.Numbered.{found_decides, number_decides}
use Rattle.row_forms.specs.Names.{has_number}
use Rattle.row_forms.proofs.names.has_number.Goals as goal

pub returns : goal.returns
returns c =
    one_answer c.is_some.result (has_number c.args.end c.args.name.now c.args.word.now)
    (found_decides c.args.end c.args.name.now c.args.word.now c.number_after.result c.is_some.result c.is_some.ensures c.number_after.ensures.some c.number_after.ensures.none)
    (number_decides c.args.end c.args.name.now c.args.word.now (omega (arith, c.ranges.end.fits)))

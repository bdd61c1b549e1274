use Rattle.std.proofs.Common.{◌≡◌, sym, ◌∙◌, arith}
use Rattle.row_reader.proofs.Numbers.{number_same}
use Rattle.row_reader.proofs.amounts.printed_number.Goals as goal

pub returns-else-number-end : goal.returns-else-number-end
returns-else-number-end c = λ x below same.
    let one : c.in_ok-number.number ≡ x = number_same _ x c.in_ok-number.ensures.1 (omega (arith, below)) (c.in_ok-number.ensures.0 ∙ sym same) in
    absurd (omega (arith, one, below, c.if-number-end.false))

use Rattle.std.proofs.Common.{◌<◌, ◌^◌, arith}
use Rattle.row_reader.proofs.Numbers.{small_mark}
use Rattle.row_reader.proofs.amounts.wide_number.Goals as goal

pub returns-in_default-decimal_in : goal.returns-in_default-decimal_in
returns-in_default-decimal_in c = λ x form same.
    let small : c.in-Some-decimal_in.number < 2 ^ 63 = omega (arith, c.if-number-ge-PLAIN_END.false) in
    small_mark _ _ _ x c.in-Some.ensures c.in-Some-decimal_in.ensures.some small form.0 form.1 same

use Rattle.std.proofs.Common.{◌≡◌, refl, arith}
use Rattle.row_records.specs.Views.{move_view}
use Rattle.told_seats.proofs.DueTests.{burn_is}
use Rattle.told_seats.proofs.dues.is_burn.Goals as goal

pub returns : goal.returns
returns c = λ e form.
    let brand : c.args.row.now.brand ≡ 0 = omega arith in
    burn_is (move_view c.args.row.now) c.is_one.result brand (c.if-not-is_payment.ensures.0 refl) (c.if-not-is_outside.ensures.0 refl) (c.is_one.ensures e form)

use Rattle.std.proofs.Common.{◌≡◌, true, subst}
use Rattle.std.specs.Prelude.{◌↔◌}
use Rattle.row_records.specs.Views.{value_view}
use Rattle.row_records.specs.amount_math.Content.{Content}
use Rattle.row_records.specs.fair_rows.Amounts.{IsPrinted}
use Rattle.told_seats.proofs.seats.Seats.is_of_exit.Goals as goal

pub returns-in-Some : goal.returns-in-Some
returns-in-Some c = λ e form seats t. subst (λ (x : Content). c.is.result ≡ true ↔ IsPrinted x (value_view c.args.value.now)) (c.in-Some.ensures seats t) (c.is.ensures.printed e form)

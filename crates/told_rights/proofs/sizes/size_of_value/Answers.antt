use Rattle.std.proofs.Common.{◌≡◌, sym, ap, ◌∙◌}
use Rattle.row_records.specs.Views.{value_view}
use Rattle.row_records.specs.amount_math.Counted.{counted as size, counted-of_nat}
use Rattle.row_records.specs.fair_rows.Values.{content_of}
use Rattle.told_rights.proofs.sizes.size_of_value.Goals as goal

pub returns-in-Number : goal.returns-in-Number
returns-in-Number c = sym (ap (λ v. size (content_of (value_view v))) c.in-Number.is ∙ counted-of_nat c.in-Number.number)

use Rattle.std.proofs.Common.{ap, refl, sym, ◌∙◌}
use Rattle.row_records.specs.Views.{answer_view, kind_view, turn_view}
use Rattle.row_records.specs.fair_rows.ExitCauses.{cause_by_row}
use Rattle.told_causes.proofs.TurnWords.{by_meter}
use Rattle.told_causes.proofs.causes.shown_by_row.Goals as goal

pub returns-in-Spent : goal.returns-in-Spent
returns-in-Spent c = λ os is m n high low. c.of_instance.ensures.all m n ∙ sym (ap (λ a. cause_by_row (kind_view c.args.row.now.kind) (answer_view a) os (turn_view c.args.row.now) m n) c.in-Spent.is ∙ by_meter os (turn_view c.args.row.now) m n c.args.instance c.args.row.now.kind refl is high _ c.in_default.not-Deadline)

use Rattle.std.proofs.Common.{refl, sym, ◌∙◌}
use Rattle.row_records.specs.Views.{turn_view}
use Rattle.told_causes.proofs.TurnWords.{by_start}
use Rattle.told_causes.proofs.causes.shown_by_throw.Goals as goal

pub returns-in-Start : goal.returns-in-Start
returns-in-Start c = λ os d late is m n high low. c.of_instance.ensures.all m n ∙ sym (by_start os (turn_view c.args.row.now) m n c.args.instance c.args.row.now.kind refl is high d c.in-Start.is)

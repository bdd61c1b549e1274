use Rattle.std.proofs.Common.{sym, ◌∙◌}
use Rattle.row_records.specs.Views.{call_view}
use Rattle.told_causes.proofs.CallWords.{kit_decides}
use Rattle.told_causes.proofs.causes.is_kit_call.Goals as goal

pub returns : goal.returns
returns c = kit_decides (call_view c.args.call.now) c.requires.form c.number_called.result c.is_some.result (sym c.is_answered.ensures ∙ c.if-not-is_answered.false) (sym c.is_method.ensures ∙ c.if-not-is_method.false) c.number_called.ensures.some c.number_called.ensures.none c.is_some.ensures

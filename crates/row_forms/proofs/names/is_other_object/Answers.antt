use Rattle.std.proofs.Common.{sym, subst, arith}
use Rattle.std.specs.Bool.{Decides}
use Rattle.turn_rows.specs.Form.{IsNumberedBy, object_words, objects_end}
use Rattle.row_forms.proofs.Numbered.{words_decide}
use Rattle.row_forms.proofs.names.is_other_object.Goals as goal

pub returns : goal.returns
returns c = subst (λ b. Decides b (IsNumberedBy object_words objects_end c.args.name.now)) (sym c.is_numbered_by.ensures) (words_decide objects_end c.args.name.now object_words (omega arith))

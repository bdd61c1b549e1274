use Rattle.std.proofs.Common.{sym, subst, arith}
use Rattle.std.specs.Bool.{Decides}
use Rattle.turn_rows.specs.Form.{IsNumberedBy, brand_words, brands_end}
use Rattle.row_forms.proofs.Numbered.{words_decide}
use Rattle.row_forms.proofs.names.is_brand_object.Goals as goal

pub returns : goal.returns
returns c = subst (λ b. Decides b (IsNumberedBy brand_words brands_end c.args.name.now)) (sym c.is_numbered_by.ensures) (words_decide brands_end c.args.name.now brand_words (omega arith))

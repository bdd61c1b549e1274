use Rattle.turn_rows.specs.Form.{objects_end}
use Rattle.row_forms.proofs.Numbered.{found_decides}
use Rattle.row_forms.proofs.names.is_object.Goals as goal

pub returns : goal.returns
returns c = found_decides objects_end c.args.name.now c.args.word.now c.number_after.result c.is_some.result c.is_some.ensures c.number_after.ensures.some c.number_after.ensures.none

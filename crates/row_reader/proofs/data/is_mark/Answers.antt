use Rattle.serde_json.specs.View.{view}
use Rattle.row_reader.proofs.DataForm.{no, no_mark}
use Rattle.row_reader.proofs.data.is_mark.Goals as goal

pub returns-in_default : goal.returns-in_default
returns-in_default c = λ ms is. no (no_mark (view c.args.value.now) ms (rw c.in_default.is at c.only_member.ensures) is)

use Rattle.std.proofs.Common.{sym, subst, ◌≡◌}
use Rattle.std.specs.Bool.{Decides}
use Rattle.serde_json.specs.Data.{no_items}
use Rattle.serde_json.specs.View.{items_view}
use Rattle.row_reader.proofs.Arguments.{none}
use Rattle.row_reader.proofs.delivered.are_none.Goals as goal

pub returns : goal.returns
returns c = subst (λ b. Decides b (items_view c.args.arguments.now ≡ no_items)) (sym c.is_empty.ensures) (none c.args.arguments.now)

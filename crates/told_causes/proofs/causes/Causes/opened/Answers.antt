use Rattle.std.proofs.Common.{refl}
use Rattle.std.proofs.lemmas.Result.{on_ok_weaker}
use Rattle.row_records.specs.Views.{open_view}
use Rattle.row_records.specs.turn_rows.Turns.{opened}
use Rattle.told_causes.proofs.CauseRows.{other_kept}
use Rattle.told_causes.proofs.causes.Causes.opened.Goals as goal

pub returns : goal.returns
returns c = on_ok_weaker c.opened.result (λ step i told next. other_kept c.args.self.now _ i (opened (open_view c.args.row.now)) refl told (step i (open_view c.args.row.now) refl refl next told.standings) refl refl refl refl refl) c.opened.ensures

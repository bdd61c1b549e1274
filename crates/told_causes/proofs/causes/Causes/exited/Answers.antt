use Rattle.std.proofs.Common.{refl}
use Rattle.std.proofs.lemmas.Result.{on_ok_weaker}
use Rattle.row_records.specs.Views.{exit_view}
use Rattle.row_records.specs.turn_rows.Turns.{exited}
use Rattle.told_causes.proofs.CauseRows.{other_kept}
use Rattle.told_causes.proofs.causes.Causes.exited.Goals as goal

pub returns : goal.returns
returns c = on_ok_weaker c.exited.result (λ step i told is_open first. other_kept c.args.self.now _ i (exited (exit_view c.args.row.now)) refl told (step i (exit_view c.args.row.now) refl refl is_open first told.standings) refl refl refl refl refl) c.exited.ensures

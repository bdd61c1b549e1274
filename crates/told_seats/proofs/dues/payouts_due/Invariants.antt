use Rattle.std.proofs.Common.{◌≡◌, take}
use Rattle.row_records.specs.Views.{exit_view}
use Rattle.row_records.specs.fair_rows.Rows.{InTurn, payouts_due}
use Rattle.told_rights.specs.Rights.{TellsRights}
use Rattle.told_seats.specs.DueViews.{dues_view}
use Rattle.told_seats.specs.SlotViews.{slots_view}
use Rattle.told_seats.proofs.dues.payouts_due.Given as goal

abbrev pub invariant-loop-slot : goal.invariant-loop-slot
invariant-loop-slot l = (i : InTurn) → TellsRights l.rights i → dues_view l.dues.items ≡ payouts_due i.now.table (exit_view l.row) (slots_view (take l.slot-index l.slots))

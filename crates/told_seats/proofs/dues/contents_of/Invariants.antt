use Rattle.std.proofs.Common.{◌≡◌, take}
use Rattle.row_records.specs.fair_rows.Rows.{InTurn}
use Rattle.told_rights.specs.Rights.{TellsRights}
use Rattle.told_seats.specs.DueViews.{slot_contents}
use Rattle.told_seats.specs.SlotViews.{slots_view}
use Rattle.told_seats.proofs.dues.contents_of.Given as goal

abbrev pub invariant-loop-slot : goal.invariant-loop-slot
invariant-loop-slot l = (i : InTurn) → TellsRights l.rights i → l.all.items ≡ slot_contents i.now.table l.seat (slots_view (take l.slot-index l.slots))

use Rattle.std.proofs.Common.{take, map}
use Rattle.row_records.specs.Views.{payout_view}
use Rattle.row_records.specs.fair_rows.Rows.{InTurn}
use Rattle.told_rights.specs.Rights.{TellsRights}
use Rattle.told_seats.specs.SeatSteps.{AreNew}
use Rattle.told_seats.proofs.seats.are_new.Given as goal

abbrev pub invariant-loop-payout : goal.invariant-loop-payout
invariant-loop-payout l = (i : InTurn) → TellsRights l.rights i → AreNew i.now.moves (map payout_view (take l.payout-index l.payouts))

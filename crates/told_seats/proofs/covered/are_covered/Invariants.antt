use Rattle.std.proofs.Common.{take, map}
use Rattle.std.specs.List.{AllByRecursion}
use Rattle.row_records.specs.Views.{amount_view}
use Rattle.row_records.specs.fair_rows.Rows.{InTurn}
use Rattle.row_records.specs.fair_rows.Seats.{IsCovered}
use Rattle.row_records.specs.turn_rows.Form.{HasAmountForm}
use Rattle.row_records.specs.turn_rows.declared.editions.Edition.{Edition}
use Rattle.told_rights.specs.Rights.{TellsRights}
use Rattle.told_seats.proofs.covered.are_covered.Given as goal

abbrev pub invariant-loop-amount : goal.invariant-loop-amount
invariant-loop-amount l = (e : Edition) → AllByRecursion (HasAmountForm e) (map amount_view l.amounts) → (i : InTurn) → TellsRights l.rights i → AllByRecursion (IsCovered i.now.table l.seat) (map amount_view (take l.amount-index l.amounts))

use Rattle.std.proofs.Common.{◌≡◌, ℕ, true, false}
use Rattle.std.specs.BTreeMap.{is_at}
use Rattle.std.specs.BTreeSet.{contains}
use Rattle.std.specs.List.{list_any}
use Rattle.std.specs.Ordering.{nat_cmp}
use Rattle.row_records.specs.fair_rows.Rows.{InTurn}
use Rattle.told_rights.specs.Rights.{TellsRights}
use Rattle.told_seats.specs.SeatSteps.{IsSafeAt}
use Rattle.told_seats.specs.ToldSeats.{TellsEach}
use Rattle.told_seats.proofs.seats.Seats.are_safe.Given as goal

-- a touched seat that isn't left to be tested is covered
abbrev pub invariant-loop-number : goal.invariant-loop-number
invariant-loop-number l = (i : InTurn) → TellsEach l.self.seats.items i.now.seats → TellsRights l.rights i
    → (n : ℕ) → contains nat_cmp l.self.touched n ≡ true → list_any (is_at (nat_cmp n)) l.number-iterator ≡ false → IsSafeAt i.now.seats i.now.table n

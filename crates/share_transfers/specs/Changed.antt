-- The seats that were changed on a working copy, as a list of what each has.
use Rattle.std.specs.Prelude.{ℕ, List, map}
use Rattle.std.specs.Global.{Vec}
use Rattle.call_arguments.specs.proposals.declared.allocations.Share.{Share}
use Rattle.call_arguments.specs.proposals.declared.plans.SeatState.{SeatState}
use Rattle.rearrange.specs.Working.{shares_now}
use Rattle.rearrange.specs.declared.sums.SeatShares.{SeatShares}
use Rattle.share_transfers.specs.declared.working_copy.WorkingCopy.{WorkingCopy}

abbrev pub changed_seat : ℕ × Vec Share → SeatShares
changed_seat e = record { seat = e.0; shares = e.1 }

-- in the order of the first changes
abbrev pub changed_seats : WorkingCopy → List SeatShares
changed_seats copy = map changed_seat copy.changed.entries

-- what a seat has on a working copy
abbrev pub shares_on : List SeatState → WorkingCopy → ℕ → List Share
shares_on states copy = shares_now states (changed_seats copy)

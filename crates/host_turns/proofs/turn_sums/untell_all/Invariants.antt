use Rattle.std.proofs.Common.{◌≤◌, length, take}
use Rattle.front_turns.specs.escrow.Told.{EscrowState}
use Rattle.front_turns.specs.turn_records.Views.{event_views}
use Rattle.host_turns.specs.Totals.{WereTold}
use Rattle.host_turns.proofs.turn_sums.untell_all.Given as goal

abbrev pub invariant-loop-left : goal.invariant-loop-left
invariant-loop-left l = (l.left ≤ length l.events) × ((before : EscrowState) → WereTold before l.initial.sums (event_views l.events) → WereTold before l.sums (take l.left (event_views l.events)))

abbrev pub decreases-loop-left : goal.decreases-loop-left
decreases-loop-left l = l.left

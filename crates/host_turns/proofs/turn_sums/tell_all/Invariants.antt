use Rattle.std.proofs.Common.{drop, take}
use Rattle.front_turns.specs.turn_records.Views.{event_views}
use Rattle.host_turns.specs.Totals.{AreSteps, CanTellAll}
use Rattle.host_turns.proofs.turn_sums.tell_all.Given as goal

abbrev pub invariant-loop-told : goal.invariant-loop-told
invariant-loop-told l = AreSteps l.initial.sums l.sums (take l.told (event_views l.events)) × CanTellAll l.sums (drop l.told (event_views l.events))

use Rattle.std.proofs.Common.{take}
use Rattle.ertp_mint.specs.declared.place.Change.TheVariants.{Issue}
use Rattle.ertp_mint.specs.Places.{AreChanged}
use Rattle.ertp_mint.proofs.places.issue_all.Given as goal

abbrev pub invariant-loop-i : goal.invariant-loop-i
invariant-loop-i l = AreChanged Issue (take l.i l.entries) l.initial.places.entries l.places.entries

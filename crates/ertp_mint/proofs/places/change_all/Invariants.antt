use Rattle.std.proofs.Common.{take}
use Rattle.ertp_mint.specs.Places.{AreChanged}
use Rattle.ertp_mint.proofs.places.change_all.Given as goal

abbrev pub invariant-loop-entry : goal.invariant-loop-entry
invariant-loop-entry l = AreChanged l.change (take l.entry-index l.entries) l.initial.places.entries l.places.entries

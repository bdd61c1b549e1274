use Rattle.std.proofs.Common.{◌≡◌, take}
use Rattle.jessie_index.specs.Places.{names_of}
use Rattle.jessie_index.proofs.locals.index_rest.Given as goal

abbrev pub invariant-loop-i : goal.invariant-loop-i
invariant-loop-i g l = l.index ≡ take l.i (names_of l.bindings)

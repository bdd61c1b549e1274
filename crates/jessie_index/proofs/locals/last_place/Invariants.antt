use Rattle.std.proofs.Common.{◌≡◌, length}
use Rattle.jessie_index.specs.Places.{names_of, place}
use Rattle.jessie_index.proofs.locals.last_place.Given as goal

abbrev pub invariant-inmost : goal.invariant-inmost
invariant-inmost g l = place l.name (names_of l.bindings) ≡ place l.name (names_of l.left)

abbrev pub decreases-inmost : goal.decreases-inmost
decreases-inmost g l = length l.left

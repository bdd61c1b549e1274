use Rattle.jessie_values.specs.Named.{NotBefore}
use Rattle.jessie_values.proofs.parts.place_of.Given as goal

abbrev pub invariant-loop-place : goal.invariant-loop-place
invariant-loop-place l = NotBefore l.name l.fields l.place

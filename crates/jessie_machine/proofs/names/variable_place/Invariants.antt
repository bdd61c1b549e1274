use Rattle.std.proofs.Common.{◌≡◌, ◌≤◌, length, map}
use Rattle.jessie_machine.specs.Machine.{place}
use Rattle.jessie_machine.proofs.names.variable_place.Given as goal

abbrev pub invariant-last : goal.invariant-last
invariant-last l = (place l.name (map (λ v. v.name) l.variables) ≡ place l.name (map (λ v. v.name) l.left)) × (length l.left ≤ length l.variables)

abbrev pub decreases-last : goal.decreases-last
decreases-last l = length l.left

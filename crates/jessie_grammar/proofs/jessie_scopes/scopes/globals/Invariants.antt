use Rattle.std.proofs.Common.{◌≡◌, ◌++◌, length}
use Rattle.jessie_grammar.specs.Scopes as spec
use Rattle.jessie_grammar.proofs.jessie_scopes.scopes.globals.Given as goal

abbrev pub invariant-name_uses : goal.invariant-name_uses
invariant-name_uses l = spec.globals l.fn.name_uses ≡ l.found ++ spec.globals l.rest

abbrev pub decreases-name_uses : goal.decreases-name_uses
decreases-name_uses l = length l.rest

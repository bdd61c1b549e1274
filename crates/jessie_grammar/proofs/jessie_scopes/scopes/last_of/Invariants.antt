use Rattle.std.proofs.Common.{◌≡◌, length}
use Rattle.jessie_grammar.specs.Scopes as spec
use Rattle.jessie_grammar.proofs.jessie_scopes.scopes.last_of.Given as goal

abbrev pub invariant-entries : goal.invariant-entries
invariant-entries l = spec.last_of l.name l.fn.first l.fn.entries ≡ spec.last_of l.name l.found l.rest

abbrev pub decreases-entries : goal.decreases-entries
decreases-entries l = length l.rest

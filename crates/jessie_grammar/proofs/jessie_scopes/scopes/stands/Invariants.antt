use Rattle.std.proofs.Common.{◌≡◌, length, false}
use Rattle.jessie_grammar.specs.Scopes as spec
use Rattle.jessie_grammar.proofs.jessie_scopes.scopes.stands.Given as goal

abbrev pub invariant-entries : goal.invariant-entries
invariant-entries l = spec.stands_in l.name false l.fn.entries ≡ spec.stands_in l.name l.found l.rest

abbrev pub decreases-entries : goal.decreases-entries
decreases-entries l = length l.rest

use Rattle.std.proofs.Common.{◌≡◌, length}
use Rattle.jessie_grammar.specs.Scopes as spec
use Rattle.jessie_grammar.proofs.jessie_scopes.scopes.is_function.Given as goal

abbrev pub invariant-globals : goal.invariant-globals
invariant-globals l = spec.is_function l.name l.fn.globals ≡ spec.is_function l.name l.rest

abbrev pub decreases-globals : goal.decreases-globals
decreases-globals l = length l.rest

use Rattle.std.proofs.Common.{◌≡◌, reverse, length}
use Rattle.jessie_grammar.specs.Scopes.{behind_opening}
use Rattle.jessie_grammar.proofs.jessie_scopes.scopes.close.Given as goal

abbrev pub invariant-entries : goal.invariant-entries
invariant-entries l = behind_opening (reverse l.fn.entries) ≡ behind_opening (reverse l.entries)

abbrev pub decreases-entries : goal.decreases-entries
decreases-entries l = length l.entries

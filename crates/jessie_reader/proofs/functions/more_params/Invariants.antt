use Rattle.std.proofs.Common.{◌≡◌, [], ◌∷◌, length}
use Rattle.jessie_grammar.specs.declared.jessie_lexer.token.Kind.TheVariants as k
use Rattle.jessie_grammar.specs.Parse.{loop}
use Rattle.jessie_grammar.specs.Words.{always}
use Rattle.jessie_grammar.specs.Rules as p
use Rattle.jessie_reader.proofs.functions.more_params.Given as goal

abbrev pub invariant-params : goal.invariant-params
invariant-params l = loop always (k.Comma ∷ []) p.next_param (l.fn.found, l.fn.name_uses) l.fn.tokens ≡ loop always (k.Comma ∷ []) p.next_param (l.found, l.name_uses) l.rest

abbrev pub decreases-params : goal.decreases-params
decreases-params l = length l.rest

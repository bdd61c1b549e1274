use Rattle.std.proofs.Common.{◌≡◌, ◌≤◌, length}
use Rattle.jessie_grammar.specs.Lex as lex
use Rattle.jessie_grammar.proofs.jessie_lexer.lexer.number.Given as goal

abbrev pub invariant-digits : goal.invariant-digits
invariant-digits l = (lex.decimal l.fn.digits ≡ lex.decimal_from l.n l.rest) × (l.n ≤ lex.limit)

abbrev pub decreases-digits : goal.decreases-digits
decreases-digits l = length l.rest

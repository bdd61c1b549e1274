use Rattle.std.proofs.Common.{◌≡◌, length, false}
use Rattle.jessie_grammar.specs.Lex as lex
use Rattle.jessie_grammar.proofs.jessie_lexer.lexer.skip.Given as goal

abbrev pub invariant-blanks : goal.invariant-blanks
invariant-blanks l = lex.skip false l.fn.bytes ≡ lex.skip l.comment l.rest

abbrev pub decreases-blanks : goal.decreases-blanks
decreases-blanks l = length l.rest

use Rattle.std.proofs.Common.{◌≡◌, ◌-◌, ◌++◌, length}
use Rattle.jessie_grammar.specs.Lex as lex
use Rattle.jessie_grammar.proofs.jessie_lexer.lexer.tokens.Given as goal

abbrev pub invariant-turns : goal.invariant-turns
invariant-turns l = lex.cut l.fn.bytes ≡ l.found.items ++ lex.cut_from (l._turn-end - l._turn) (length l.fn.bytes) l.rest

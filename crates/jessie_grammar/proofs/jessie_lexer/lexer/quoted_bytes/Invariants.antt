use Rattle.std.proofs.Common.{◌≡◌, length, false, []}
use Rattle.jessie_grammar.specs.Lex as lex
use Rattle.jessie_grammar.proofs.jessie_lexer.lexer.quoted_bytes.Given as goal

abbrev pub invariant-bytes : goal.invariant-bytes
invariant-bytes l = lex.quoted l.quote false [] l.fn.bytes ≡ lex.quoted l.quote l.escaped l.found.items l.rest

abbrev pub decreases-bytes : goal.decreases-bytes
decreases-bytes l = length l.rest

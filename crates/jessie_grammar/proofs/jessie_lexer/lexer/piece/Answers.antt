use Rattle.std.proofs.Common.{sym, ◌∙◌}
use Rattle.jessie_grammar.proofs.Cutting.{piece_mark}
use Rattle.jessie_grammar.proofs.jessie_lexer.lexer.piece.Goals as goal

pub returns : goal.returns
returns c =
    rw (piece_mark c.args.at c.args.bytes.now c.head.result c.second_byte.result c.mark-found.result c.in-len1-up.len_at_least (sym c.is_word_start.ensures ∙ c.if-is_word_start.false) (sym c.is_digit.ensures ∙ c.if-is_digit.false)
    c.if-b-eq39.false c.if-b-eq34.false c.head.ensures c.second_byte.ensures c.mark-found.ensures) c.mark_at.ensures

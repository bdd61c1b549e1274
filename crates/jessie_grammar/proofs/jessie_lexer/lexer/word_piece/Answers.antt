use Rattle.jessie_grammar.proofs.Words.{word_utf8}
use Rattle.jessie_grammar.proofs.jessie_lexer.lexer.word_piece.Goals as goal

pub word_at-requires : goal.word_at-requires
word_at-requires c = word_utf8 c.word_len.result c.args.bytes.now c.split_at.result.0.now c.word_len.ensures.value c.split_at.ensures.front

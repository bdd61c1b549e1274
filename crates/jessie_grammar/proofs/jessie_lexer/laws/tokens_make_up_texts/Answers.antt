use Rattle.jessie_grammar.proofs.Pieces.{tokens_make_up_texts}
use Rattle.jessie_grammar.proofs.jessie_lexer.laws.tokens_make_up_texts.Goals as goal

pub returns : goal.returns
returns c = tokens_make_up_texts

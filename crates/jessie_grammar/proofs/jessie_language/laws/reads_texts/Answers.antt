use Rattle.jessie_grammar.proofs.Texts.{reads_texts}
use Rattle.jessie_grammar.proofs.jessie_language.laws.reads_texts.Goals as goal

pub returns : goal.returns
returns c = reads_texts

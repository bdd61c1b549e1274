use Rattle.jessie_grammar.proofs.Texts.{reads_each}
use Rattle.jessie_grammar.proofs.jessie_language.laws.reads_each.Goals as goal

pub returns : goal.returns
returns c = reads_each

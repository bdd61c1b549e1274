use Rattle.jessie_grammar.proofs.Texts.{refuses_first}
use Rattle.jessie_grammar.proofs.jessie_language.laws.refuses_first.Goals as goal

pub returns : goal.returns
returns c = refuses_first

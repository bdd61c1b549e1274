use Rattle.jessie_grammar.proofs.Answered.{each_comes}
use Rattle.jessie_grammar.proofs.jessie_texts.laws.comes.Goals as goal

pub returns : goal.returns
returns c = each_comes

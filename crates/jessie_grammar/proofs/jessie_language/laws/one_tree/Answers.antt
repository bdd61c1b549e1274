use Rattle.jessie_grammar.proofs.Texts.{one_tree}
use Rattle.jessie_grammar.proofs.jessie_language.laws.one_tree.Goals as goal

pub returns : goal.returns
returns c = one_tree

use Rattle.jessie_grammar.proofs.Texts.{refused_each}
use Rattle.jessie_grammar.proofs.jessie_language.laws.refuses_each.Goals as goal

pub returns : goal.returns
returns c = refused_each

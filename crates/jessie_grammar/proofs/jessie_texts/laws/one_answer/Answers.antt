use Rattle.jessie_grammar.proofs.Answered.{one_answer}
use Rattle.jessie_grammar.proofs.jessie_texts.laws.one_answer.Goals as goal

pub returns : goal.returns
returns c = one_answer

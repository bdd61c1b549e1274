use Rattle.jessie_grammar.proofs.Texts.{one_first_refusal}
use Rattle.jessie_grammar.proofs.jessie_language.laws.one_first_refusal.Goals as goal

pub returns : goal.returns
returns c = one_first_refusal

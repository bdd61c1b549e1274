use Rattle.jessie_grammar.proofs.Blocks.{first_is_told}
use Rattle.jessie_grammar.proofs.jessie_scopes.laws.first_is_told.Goals as goal

pub returns : goal.returns
returns c = first_is_told

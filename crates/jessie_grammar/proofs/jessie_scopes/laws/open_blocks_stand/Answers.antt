use Rattle.jessie_grammar.proofs.Blocks.{open_blocks_stand}
use Rattle.jessie_grammar.proofs.jessie_scopes.laws.open_blocks_stand.Goals as goal

pub returns : goal.returns
returns c = open_blocks_stand

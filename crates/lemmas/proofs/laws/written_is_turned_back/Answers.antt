use Rattle.lemmas.proofs.ListEdits.{written_back}
use Rattle.lemmas.proofs.laws.written_is_turned_back.Goals as goal

pub returns : goal.returns
returns c = λ xs n d x turned lt is. written_back xs n d x lt turned is

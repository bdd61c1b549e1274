use Rattle.fair_samples.proofs.Together.{fair_is_each}
use Rattle.fair_samples.proofs.laws.the_sentences_are_fairness.Goals as goal

pub returns : goal.returns
returns c = fair_is_each

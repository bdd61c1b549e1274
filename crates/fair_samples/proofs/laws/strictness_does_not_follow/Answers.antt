use Rattle.fair_samples.proofs.LaxLists.{lax_are_fair}
use Rattle.fair_samples.proofs.laws.strictness_does_not_follow.Goals as goal

pub returns : goal.returns
returns c = lax_are_fair

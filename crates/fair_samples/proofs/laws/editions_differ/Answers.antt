use Rattle.fair_samples.proofs.FurtherLists.{large_alone, large_fair}
use Rattle.fair_samples.proofs.laws.editions_differ.Goals as goal

pub returns-clause-second : goal.returns-clause-second
returns-clause-second c = large_fair

pub returns-clause-first : goal.returns-clause-first
returns-clause-first c = large_alone

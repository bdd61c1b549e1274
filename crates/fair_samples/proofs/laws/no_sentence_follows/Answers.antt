use Rattle.fair_samples.proofs.FurtherLists.{further_alone}
use Rattle.fair_samples.proofs.Needed.{each_alone}
use Rattle.fair_samples.proofs.laws.no_sentence_follows.Goals as goal

pub returns-clause-each : goal.returns-clause-each
returns-clause-each c = each_alone

pub returns-clause-further : goal.returns-clause-further
returns-clause-further c = further_alone

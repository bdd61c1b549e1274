use Rattle.fair_laws.proofs.CauseCalls.{owes_called}
use Rattle.fair_laws.proofs.Others.{owes_at_start, owes_nothing_more}
use Rattle.fair_laws.proofs.fair_causes.calls_show_departures.Goals as goal

pub returns-clause-start : goal.returns-clause-start
returns-clause-start c = owes_at_start

pub returns-clause-others : goal.returns-clause-others
returns-clause-others c = owes_nothing_more

pub returns-clause-shown : goal.returns-clause-shown
returns-clause-shown c = owes_called

use Rattle.fair_laws.proofs.Owing.{causes, owes_none}
use Rattle.fair_laws.proofs.fair_causes.departures_have_causes.Goals as goal

pub returns-clause-causes : goal.returns-clause-causes
returns-clause-causes c = causes

pub returns-clause-done : goal.returns-clause-done
returns-clause-done c = owes_none

use Rattle.actors.proofs.Bindings.{bound_elsewhere, bound_here}
use Rattle.actors.proofs.labels_are_apart.Goals as goal

pub returns-clause-here : goal.returns-clause-here
returns-clause-here c = bound_here

pub returns-clause-elsewhere : goal.returns-clause-elsewhere
returns-clause-elsewhere c = bound_elsewhere

use Rattle.world_laws.proofs.Views.{seat_closed, slots_closed}
use Rattle.world_laws.proofs.rights_views.what_is_closed_is_left.Goals as goal

pub returns-clause-rights : goal.returns-clause-rights
returns-clause-rights c = slots_closed

pub returns-clause-seats : goal.returns-clause-seats
returns-clause-seats c = seat_closed

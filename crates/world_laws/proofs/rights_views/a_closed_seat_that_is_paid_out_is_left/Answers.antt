use Rattle.world_laws.proofs.LeftViews.{left_paid}
use Rattle.world_laws.proofs.rights_views.a_closed_seat_that_is_paid_out_is_left.Goals as goal

pub returns : goal.returns
returns c = record { rights = left_paid }

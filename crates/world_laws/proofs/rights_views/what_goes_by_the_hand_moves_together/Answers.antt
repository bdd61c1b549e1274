use Rattle.world_laws.proofs.Together.{all_together, one_together}
use Rattle.world_laws.proofs.rights_views.what_goes_by_the_hand_moves_together.Goals as goal

pub returns : goal.returns
returns c = record { one = one_together; all = all_together }

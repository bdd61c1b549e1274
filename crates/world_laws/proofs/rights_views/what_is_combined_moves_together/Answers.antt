use Rattle.world_laws.proofs.Combined.{combined_together}
use Rattle.world_laws.proofs.rights_views.what_is_combined_moves_together.Goals as goal

pub returns : goal.returns
returns c = record { payment = combined_together }

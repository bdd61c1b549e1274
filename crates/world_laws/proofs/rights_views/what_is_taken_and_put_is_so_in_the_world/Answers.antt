use Rattle.world_laws.proofs.Together.{given_views, taken_views}
use Rattle.world_laws.proofs.rights_views.what_is_taken_and_put_is_so_in_the_world.Goals as goal

pub returns : goal.returns
returns c = record { take = taken_views; put = given_views }

use Rattle.world_reads.specs.host_world.Worlds.{world_of}
use Rattle.rearrange_calls.proofs.Once.{have_once}
use Rattle.rearrange_calls.proofs.reallocation_states.all_once.Goals as goal

pub returns-clause-all : goal.returns-clause-all
returns-clause-all c = have_once (world_of c.args.world.now) c.args.seats.now c.in_ok-all.all.items c.each_once.result.items c.each_once.ensures.same c.in_ok-all.ensures

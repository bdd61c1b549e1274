use Rattle.world_laws.proofs.FrontDeliveries.{following_passes, resolving_passes, settling_passes}
use Rattle.world_laws.proofs.front_laws.settling_leaves_the_front.Goals as goal

pub returns-clause-settling : goal.returns-clause-settling
returns-clause-settling c = settling_passes

pub returns-clause-following : goal.returns-clause-following
returns-clause-following c = following_passes

pub returns-clause-resolving : goal.returns-clause-resolving
returns-clause-resolving c = resolving_passes

use Rattle.world_laws.proofs.FrontDeliveries.{effect_passes, effects_pass}
use Rattle.world_laws.proofs.front_laws.effects_leave_the_front.Goals as goal

pub returns-clause-one : goal.returns-clause-one
returns-clause-one c = effect_passes

pub returns-clause-all : goal.returns-clause-all
returns-clause-all c = effects_pass

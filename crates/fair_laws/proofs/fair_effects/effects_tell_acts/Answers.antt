use Rattle.fair_laws.proofs.Effects.{effect_tells, effects_tell}
use Rattle.fair_laws.proofs.fair_effects.effects_tell_acts.Goals as goal

pub returns-clause-one : goal.returns-clause-one
returns-clause-one c = effect_tells

pub returns-clause-all : goal.returns-clause-all
returns-clause-all c = effects_tell

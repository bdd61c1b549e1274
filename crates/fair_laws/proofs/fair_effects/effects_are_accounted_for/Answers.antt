use Rattle.fair_laws.proofs.Accounted.{effects_accounted}
use Rattle.fair_laws.proofs.fair_effects.effects_are_accounted_for.Goals as goal

pub returns : goal.returns
returns c = record { all = effects_accounted }

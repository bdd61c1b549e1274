use Rattle.delivery_laws.proofs.Logs.{all_good_untold, effects_untold}
use Rattle.delivery_laws.proofs.laws.what_was_told_changes_nothing.Goals as goal

pub returns-clause-good : goal.returns-clause-good
returns-clause-good c = all_good_untold

pub returns-clause-after : goal.returns-clause-after
returns-clause-after c = effects_untold

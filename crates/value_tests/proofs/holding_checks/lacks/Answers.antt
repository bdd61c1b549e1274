use Rattle.refusals.specs.amount_math.KindLaws.{has_few}
use Rattle.value_tests.proofs.holding_checks.lacks.Goals as goal

pub copy-requires : goal.copy-requires
copy-requires c = has_few _ _ c.requires

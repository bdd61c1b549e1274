use Rattle.amount_math.specs.KindLaws.{has_few}
use Rattle.amount_math.proofs.shortfall.show_shortfall.Goals as goal

pub copy-requires : goal.copy-requires
copy-requires c = has_few _ _ c.requires.value

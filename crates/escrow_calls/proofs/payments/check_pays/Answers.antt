use Rattle.refusals.specs.amount_math.KindLaws.{has_few}
use Rattle.escrow_calls.proofs.payments.check_pays.Goals as goal

pub copy-requires : goal.copy-requires
copy-requires c = has_few _ _ c.in-Some.ensures.value

use Rattle.refusals.specs.amount_math.KindLaws.{has_few}
use Rattle.ertp_calls.proofs.live_payments.live_at.Goals as goal

pub copy-requires : goal.copy-requires
copy-requires c = has_few _ _ c.in-Some.ensures.value

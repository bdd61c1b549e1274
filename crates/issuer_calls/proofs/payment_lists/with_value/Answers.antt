use Rattle.refusals.specs.amount_math.KindLaws.{has_few}
use Rattle.issuer_calls.proofs.payment_lists.with_value.Goals as goal

pub copy-requires : goal.copy-requires
copy-requires c = has_few _ _ c.in-Some.ensures.value

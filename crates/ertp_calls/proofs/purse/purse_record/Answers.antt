use Rattle.refusals.specs.amount_math.KindLaws.{has_few}
use Rattle.ertp_calls.proofs.purse.purse_record.Goals as goal

pub copy-requires : goal.copy-requires
copy-requires c = has_few _ _ c.purse_amount.ensures.value

use Rattle.amount_math.specs.KindLaws.{has_few}
use Rattle.ertp_mint.proofs.balance.Balance.into_parcel.Goals as goal

pub into_value-requires : goal.into_value-requires
into_value-requires c = has_few _ _ c.self.invariant

use Rattle.amount_math.specs.KindLaws.{nothing_is_value}
use Rattle.ertp_mint.proofs.balance.Balance.empty.Goals as goal

pub invariant_of-result : goal.invariant_of-result
invariant_of-result c = rw c.empty-held.ensures (nothing_is_value c.args.kind)

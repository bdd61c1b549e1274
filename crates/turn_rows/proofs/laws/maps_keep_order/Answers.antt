use Rattle.turn_rows.proofs.Order.{puts_payout, puts_amount}
use Rattle.turn_rows.proofs.laws.maps_keep_order.Goals as goal

pub returns-clause-amounts : goal.returns-clause-amounts
returns-clause-amounts c = puts_amount

pub returns-clause-payouts : goal.returns-clause-payouts
returns-clause-payouts c = puts_payout

use Rattle.told_seats.proofs.dues.is_due_move.Goals as goal

pub returns-in-Burn : goal.returns-in-Burn
returns-in-Burn c = λ e form i t. rw c.in-Burn.is (c.is_burn.ensures e form)

pub returns-in-Payout : goal.returns-in-Payout
returns-in-Payout c = λ e form i t. rw c.in-Payout.is (c.is_payout.ensures e form i t)

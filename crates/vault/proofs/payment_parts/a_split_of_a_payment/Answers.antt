use Rattle.vault.proofs.SplitUp.{hand_stays, split_now, written_table}
use Rattle.vault.proofs.payment_parts.a_split_of_a_payment.Goals as goal

pub returns-clause-table : goal.returns-clause-table
returns-clause-table g c = λ made valid. written_table g.before c.args.payment c.args.values.now made valid

pub returns-clause-lists : goal.returns-clause-lists
returns-clause-lists g c = split_now g.before c.args.payment c.args.values.now

pub returns-clause-hand : goal.returns-clause-hand
returns-clause-hand g c = λ holds. hand_stays g.before c.args.payment c.args.values.now holds

use Rattle.vault.proofs.Combined.{combined_now, hand_stays, written_table}
use Rattle.vault.proofs.payment_parts.a_combination_of_payments.Goals as goal

pub returns-clause-table : goal.returns-clause-table
returns-clause-table g c = λ live valid. written_table g.before c.args.payments.now live valid

pub returns-clause-lists : goal.returns-clause-lists
returns-clause-lists g c = combined_now g.before c.args.payments.now

pub returns-clause-hand : goal.returns-clause-hand
returns-clause-hand g c = λ holds. hand_stays g.before c.args.payments.now holds

use Rattle.std.proofs.Common.{◌≡◌, ◌==◌, ℕ, true, take, rules, sym, ◌∙◌, ap, arith}
use Rattle.std.proofs.lemmas.List.{take_all}
use Rattle.std.specs.List.{list_any}
use Rattle.row_records.specs.amount_math.Content.{nothing}
use Rattle.row_records.specs.rights_model.Table.{holds}
use Rattle.row_records.specs.rights_model.declared.Holder.TheVariants.{Payment}
use Rattle.told_rights.proofs.Counts.{one_more}
use Rattle.told_rights.proofs.payments.are_empty.Goals as goal

pub loop-payment-preserved : goal.loop-payment-preserved
loop-payment-preserved c = one_more (λ p. (b : ℕ) → holds c.args.places.now (Payment p) b ≡ nothing) c.args.payments.now c.loop-payment.payment-index (omega arith) c.loop-payment.invariant (c.is_payment_empty.ensures.0 (search rules))

pub returns : goal.returns
returns c = (λ x p b any. c.loop-payment.invariant p (ap (λ xs. list_any (λ n. n == p) xs) (take_all c.loop-payment.payment-index c.args.payments.now (omega arith)) ∙ any) b, λ h. search rules)

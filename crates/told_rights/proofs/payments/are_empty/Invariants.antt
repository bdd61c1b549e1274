use Rattle.std.proofs.Common.{◌≡◌, ◌==◌, ℕ, true, take}
use Rattle.std.specs.List.{list_any}
use Rattle.row_records.specs.amount_math.Content.{nothing}
use Rattle.row_records.specs.rights_model.Table.{holds}
use Rattle.row_records.specs.rights_model.declared.Holder.TheVariants.{Payment}
use Rattle.told_rights.proofs.payments.are_empty.Given as goal

abbrev pub invariant-loop-payment : goal.invariant-loop-payment
invariant-loop-payment l = (p : ℕ) → list_any (λ n. n == p) (take l.payment-index l.payments) ≡ true → (b : ℕ) → holds l.places (Payment p) b ≡ nothing

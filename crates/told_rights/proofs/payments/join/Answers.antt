use Rattle.std.proofs.Common.{◌≡◌, ◌==◌, ◌||◌, ℕ, take, sym, ◌∙◌, ap, arith}
use Rattle.std.proofs.lemmas.List.{take_all}
use Rattle.std.specs.List.{list_any}
use Rattle.told_rights.specs.Runs.{has_number}
use Rattle.told_rights.proofs.Counts.{one_joined}
use Rattle.told_rights.proofs.payments.join.Goals as goal

pub loop-number-preserved : goal.loop-number-preserved
loop-number-preserved c = λ p. one_joined c.args.more.now c.loop-number.number-index p _ _ (omega arith) _ (c.loop-number.invariant p) (c.in_ok-insert.ensures.ok p)

pub returns : goal.returns
returns c = λ p. c.loop-number.invariant p ∙ ap (λ xs. list_any (λ n. n == p) xs || has_number c.args.numbers.now p) (take_all c.loop-number.number-index c.args.more.now (omega arith))

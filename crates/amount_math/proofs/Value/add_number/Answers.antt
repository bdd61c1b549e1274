use Rattle.std.proofs.Common.{ap, arith}
use Rattle.amount_math.specs.declared.TooMuch.{TooMuch}
use Rattle.amount_math.proofs.Numbers.{added, sum_is_nat, passes}
use Rattle.amount_math.proofs.Value.add_number.Goals as goal

pub returns-in-Err-clause-too_much : goal.returns-in-Err-clause-too_much
returns-in-Err-clause-too_much c =
    let h = c.in-Err.ensures.too_much in
    passes c.args.self.now _ _ (rw c.in-Nat.is at c.self.view_is) c.in-Err.over (ap (λ (o : TooMuch). o.sum) h.0) (ap (λ (o : TooMuch). o.bound) h.0) h.1

pub returns-clause-ok : goal.returns-clause-ok
returns-clause-ok c = rw c.in-Ok.ensures.ok.0 (added c.args.self.now _ _ (rw c.in-Nat.is at c.self.view_is))

pub returns-clause-value : goal.returns-clause-value
returns-clause-value c = sum_is_nat c.args.self.now _ _ (rw c.in-Nat.is at c.self.view_is) (omega (arith, c.in-Ok.ensures.ok.0, c.in-Ok.ensures.ok.1))

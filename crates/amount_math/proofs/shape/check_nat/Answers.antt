use Rattle.std.proofs.Common.{ap, refl, arith}
use Rattle.amount_math.specs.declared.TooMuch.{TooMuch}
use Rattle.amount_math.specs.declared.shape.Shape.TheVariants.{Nat}
use Rattle.amount_math.specs.Shapes.{value_view}
use Rattle.amount_math.proofs.Numbers.{passes}
use Rattle.amount_math.proofs.Shapes.{nat_is_no_set, sum_bounded, sum_fits}
use Rattle.amount_math.proofs.shape.check_nat.Goals as goal

pub returns-in-Ok-clause-ok : goal.returns-in-Ok-clause-ok
returns-in-Ok-clause-ok c = λ _. sum_fits c.args.held c.args.more (omega (arith, c.in-Ok.ensures.ok.0, c.in-Ok.ensures.ok.1))

pub returns-in-Err-clause-refused : goal.returns-in-Err-clause-refused
returns-in-Err-clause-refused c =
    let h = c.in-Err.ensures.too_much in
    (nat_is_no_set, passes (value_view (Nat c.args.held)) c.args.held c.args.more refl c.in-Err.over (ap (λ (o : TooMuch). o.sum) h.0) (ap (λ (o : TooMuch). o.bound) h.0) h.1)

pub returns-in-Err-clause-sure : goal.returns-in-Err-clause-sure
returns-in-Err-clause-sure c = λ fits. absurd (omega (arith, sum_bounded c.args.held c.args.more fits, c.in-Err.ensures.too_much.1))

use Rattle.std.proofs.Common.{◌∙◌, arith, refl}
use Rattle.std.proofs.Math.Facts.{to_z-of_z}
use Rattle.amount_math.specs.NatLaws.{IsNat-of_nat}
use Rattle.amount_math.proofs.Numbers.{number_is_within}
use Rattle.amount_math.proofs.kinds.NatKindAmountKind.make.Goals as goal

pub returns-in-None-clause-bad_value : goal.returns-in-None-clause-bad_value
returns-in-None-clause-bad_value c = λ _ d value stands. omega (arith, number_is_within c.args.from d value stands, c.in-None.ensures.none refl stands.number (to_z-of_z c.ranges.from ∙ stands.whole))

pub returns-in-Some-clause-value : goal.returns-in-Some-clause-value
returns-in-Some-clause-value c = rw c.nat.ensures (IsNat-of_nat _ c.in-Some.ensures.some.1)

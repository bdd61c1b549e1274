use Rattle.std.proofs.Common.{◌-◌, FitsSigned, refl, arith}
use Rattle.std.specs.Int.{w128}
use Rattle.std.proofs.Math.Facts.{to_z-of_z}
use Rattle.jessie_machine.proofs.AtHand.{truth_operated}
use Rattle.jessie_machine.proofs.numbers.comparison.Goals as goal

pub returns-clause-does : goal.returns-clause-does
returns-clause-does c = λ m.
    let first : FitsSigned w128 c.number_at.new.number = c.if-not-number_at.ensures.fits refl in
    let second : FitsSigned w128 c.number_at-2.new.number = c.if-not-number_at-2.ensures.fits refl in
    truth_operated c.number_test.result c.args.operator _ _ c.number_at.new.number c.number_at-2.new.number _ _ _ _ c.number_at.new.meter (c.number_at.new.meter - 1) _ (to_z-of_z first) (to_z-of_z second) (omega (arith, c.if-meter-eq0.false)) (c.if-not-number_at.ensures.does m refl) (c.if-not-number_at-2.ensures.does m refl) c.number_test.ensures

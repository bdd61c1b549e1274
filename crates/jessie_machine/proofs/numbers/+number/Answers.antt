use Rattle.std.proofs.Common.{◌-◌, FitsSigned, refl, ap, arith, rules}
use Rattle.std.specs.Int.{w128}
use Rattle.std.proofs.Math.Facts.{to_z-of_z}
use Rattle.jessie_index.specs.jessie_grammar.Syntax.{term_view}
use Rattle.jessie_semantics.specs.Rules.{expr}
use Rattle.jessie_semantics.proofs.Runs.{computes_as}
use Rattle.jessie_machine.proofs.AtHand.{made_as, number_operated, chain_at, chain_begins, chain_goes_on, chain_ends}
use Rattle.jessie_machine.proofs.numbers.+number.Goals as goal

pub number_at-returns-else-depth-eq0-clause-does : goal.number_at-returns-else-depth-eq0-clause-does
number_at-returns-else-depth-eq0-clause-does t c = λ m put gs. computes_as (ap (expr m) (chain_at _ _ _ _ _ c.in-Chain.is c.get.ensures c.as_slice.ensures)) (c.chain_number.ensures.does m put gs)

pub number_behind-returns-clause-does : goal.number_behind-returns-clause-does
number_behind-returns-clause-does t c = λ m put.
    let left : FitsSigned w128 c.args.number.now = search rules in
    let right : FitsSigned w128 c.operand_number.new.number = c.if-not-operand_number.ensures.fits refl in
    made_as (c.put_number.ensures.made put) refl
    (number_operated c.number_of_two.result c.args.operator _ c.args.number.now c.operand_number.new.number _ _ _ c.args.meter.now (c.args.meter.now - 1) _ (to_z-of_z left) (to_z-of_z right) (omega (arith, c.if-meter-eq0.false)) (c.if-not-operand_number.ensures.does m refl) c.number_of_two.ensures)

pub chain_number-loop-operator-init : goal.chain_number-loop-operator-init
chain_number-loop-operator-init t c = record {
  reached = λ m. chain_begins m (term_view c.args.first.now) c.args.rest.now _ _ c.number_at.new.number _ (c.if-not-number_at.ensures.does m refl);
  kept = c.if-not-number_at.ensures.kept;
  fits = c.if-not-number_at.ensures.fits refl;
}

pub chain_number-loop-operator-preserved : goal.chain_number-loop-operator-preserved
chain_number-loop-operator-preserved t c = record {
  reached = λ m. chain_goes_on m _ c.args.rest.now c.loop-operator.operator-index c.loop-operator-item.result _ _ _ _ c.loop-operator.number c.number_behind.new.number c.loop-operator-test.true c.loop-operator-item.is (c.loop-operator.invariant.reached m) (c.if-not-number_behind.ensures.does m refl);
  kept = omega (arith, c.loop-operator.invariant.kept, c.if-not-number_behind.ensures.kept);
  fits = c.if-not-number_behind.ensures.fits refl;
}

pub chain_number-returns-clause-does : goal.chain_number-returns-clause-does
chain_number-returns-clause-does t c = λ m done. chain_ends m _ c.args.rest.now c.loop-operator.operator-index _ _ _ _ c.loop-operator-test.false (c.loop-operator.invariant.reached m)

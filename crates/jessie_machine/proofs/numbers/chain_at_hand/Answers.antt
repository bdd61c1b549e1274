use Rattle.std.proofs.Common.{FitsSigned, refl, ap, arith}
use Rattle.std.specs.Int.{w128}
use Rattle.std.proofs.Math.Facts.{to_z-of_z}
use Rattle.jessie_index.specs.jessie_grammar.Syntax.{chain, term_view}
use Rattle.jessie_semantics.specs.Rules.{expr}
use Rattle.jessie_semantics.proofs.Runs.{computes_as}
use Rattle.jessie_machine.proofs.AtHand.{makes_to, one_operand, chain_decides}
use Rattle.jessie_machine.proofs.numbers.chain_at_hand.Goals as goal

pub returns-then-compares-clause-does : goal.returns-then-compares-clause-does
returns-then-compares-clause-does c = λ m names values.
    let rest = one_operand c.args.rest.now c.index-rest-0.result c.index-rest-0-then-rest-lt2.result (omega (arith, c.in-len1.len_at_least)) (omega (arith, c.in-len1.len_below)) in
    computes_as (ap (λ r. expr m (chain (term_view c.args.first.now) r)) rest) (chain_decides m _ _ _ _ _ _ _ _ (c.in_ok-holds.ensures.does m))

pub returns-clause-does : goal.returns-clause-does
returns-clause-does c = λ m names values.
    let fits : FitsSigned w128 c.chain_number.new.number = c.if-not-chain_number.ensures.fits refl in
    makes_to (to_z-of_z fits) (c.if-not-chain_number.ensures.does m refl) _

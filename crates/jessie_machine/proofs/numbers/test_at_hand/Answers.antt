use Rattle.std.proofs.Common.{ap, ◌∙◌, arith}
use Rattle.jessie_index.specs.jessie_grammar.Syntax.{chain, term_view}
use Rattle.jessie_semantics.specs.Rules.{test}
use Rattle.jessie_semantics.proofs.Runs.{computes_as}
use Rattle.jessie_machine.proofs.AtHand.{chain_at, one_operand, condition_decides}
use Rattle.jessie_machine.proofs.numbers.test_at_hand.Goals as goal

pub returns-in_ok-holds-in-len1-clause-does : goal.returns-in_ok-holds-in-len1-clause-does
returns-in_ok-holds-in-len1-clause-does c = λ m names values.
    let rest = one_operand c.as_slice.result.now c.index-operator-0.result c.index-second-0.result (omega (arith, c.in-len1.len_at_least)) (omega (arith, c.in-len1.len_below)) in
    computes_as (ap (test m) (chain_at _ _ _ _ _ c.in-Chain.is c.get.ensures c.as_slice.ensures ∙ ap (chain (term_view c.get.result.now)) rest))
    (condition_decides m _ _ _ _ _ _ _ _ (c.in_ok-holds-in-len1.ensures.does m))

use Rattle.std.specs.Int.{w128}
use Rattle.std.proofs.Common.{FitsSigned, ◌≤◌, ◌+◌, ◌*◌, drop}
use Rattle.jessie_semantics.specs.host_data.View.{named_trees}
use Rattle.jessie_index.specs.jessie_grammar.Syntax.{chain, operands_view, term_view}
use Rattle.jessie_semantics.specs.Rules.{Program, expr}
use Rattle.jessie_machine.proofs.AtHand.{Reached}
use Rattle.jessie_machine.proofs.numbers.+number.Given as goal

abbrev pub decreases-number_at : goal.decreases-number_at
decreases-number_at l = l.depth * 4

abbrev pub decreases-chain_number : goal.decreases-chain_number
decreases-chain_number l = l.depth * 4 + 3

abbrev pub decreases-operand_number : goal.decreases-operand_number
decreases-operand_number l = l.depth * 4 + 1

abbrev pub decreases-number_behind : goal.decreases-number_behind
decreases-number_behind l = l.depth * 4 + 2

abbrev pub invariant-chain_number-loop-operator : goal.invariant-chain_number-loop-operator
invariant-chain_number-loop-operator l = record {
  reached : (m : Program) → Reached m (expr m (chain (term_view l.first) (operands_view l.rest))) (drop l.operator-index l.rest) (named_trees l.locals) l.fn.meter l.number l.meter;
  kept : l.meter ≤ l.fn.meter;
  fits : FitsSigned w128 l.number;
}

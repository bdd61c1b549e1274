use Rattle.std.proofs.Common.{◌≡◌, ◌+◌, ◌*◌, ◌-◌, [], drop, length}
use Rattle.std.specs.Vec.Iter.{into_iter_items, into_iter_len}
use Rattle.jessie_machine.specs.host_data.View.{tree, trees, named_trees}
use Rattle.jessie_machine.specs.jessie_grammar.Syntax.{routines, term_view, terms_view, named_terms_view, operands_view, link_view, links_view, return_view, statement_view, branches_view, block_view}
use Rattle.jessie_machine.specs.jessie_semantics.Actions.{scoped}
use Rattle.jessie_machine.specs.jessie_semantics.Rules.{expr, exprs, named_exprs, links, operands, repeat_rule, for_rule, with_name, test, branches, block, rounds, walk}
use Rattle.jessie_machine.specs.jessie_semantics.Runs.{Reaches}
use Rattle.jessie_interpreter.specs.Parts.{running, here, behind}
use Rattle.jessie_interpreter.proofs.Weights.{weight, terms_weight, named_weight, operands_weight, link_weight, links_weight, statement_weight, branches_weight, block_weight, routines_weight}
use Rattle.jessie_interpreter.proofs.run.+run.Given as goal

abbrev pub decreases-run_expr : goal.decreases-run_expr
decreases-run_expr g l = l.room * routines_weight (routines l.module.now) + (weight (term_view l.expression.now))

abbrev pub decreases-run_exprs : goal.decreases-run_exprs
decreases-run_exprs g l = l.room * routines_weight (routines l.module.now) + (terms_weight (terms_view l.parts.now))

abbrev pub decreases-run_named : goal.decreases-run_named
decreases-run_named g l = l.room * routines_weight (routines l.module.now) + (named_weight (named_terms_view l.parts.now))

abbrev pub decreases-run_call : goal.decreases-run_call
decreases-run_call g l = l.room * routines_weight (routines l.module.now) + (terms_weight (terms_view l.args.now) + 1)

abbrev pub decreases-run_built_in : goal.decreases-run_built_in
decreases-run_built_in g l = l.room * routines_weight (routines l.module.now) + (terms_weight (terms_view l.args.now) + 1)

abbrev pub decreases-run_amounts : goal.decreases-run_amounts
decreases-run_amounts g l = l.room * routines_weight (routines l.module.now) + (terms_weight (terms_view l.args.now) + 1)

abbrev pub decreases-run_send : goal.decreases-run_send
decreases-run_send g l = l.room * routines_weight (routines l.module.now) + (weight (term_view l.target.now) + terms_weight (terms_view l.args.now) + 1)

abbrev pub decreases-run_array : goal.decreases-run_array
decreases-run_array g l = l.room * routines_weight (routines l.module.now) + (terms_weight (terms_view l.parts.now) + 1)

abbrev pub decreases-run_record : goal.decreases-run_record
decreases-run_record g l = l.room * routines_weight (routines l.module.now) + (named_weight (named_terms_view l.parts.now) + 1)

abbrev pub decreases-run_accesses : goal.decreases-run_accesses
decreases-run_accesses g l = l.room * routines_weight (routines l.module.now) + (weight (term_view l.first.now) + links_weight (links_view l.rest.now) + 1)

abbrev pub decreases-run_access : goal.decreases-run_access
decreases-run_access g l = l.room * routines_weight (routines l.module.now) + (link_weight (link_view l.part.now))

abbrev pub decreases-run_method : goal.decreases-run_method
decreases-run_method g l = l.room * routines_weight (routines l.module.now) + (terms_weight (terms_view l.args.now) + 1)

abbrev pub decreases-run_index : goal.decreases-run_index
decreases-run_index g l = l.room * routines_weight (routines l.module.now) + (weight (term_view l.index.now) + 1)

abbrev pub decreases-run_unary : goal.decreases-run_unary
decreases-run_unary g l = l.room * routines_weight (routines l.module.now) + (weight (term_view l.part.now) + 1)

abbrev pub decreases-run_chain : goal.decreases-run_chain
decreases-run_chain g l = l.room * routines_weight (routines l.module.now) + (weight (term_view l.first.now) + operands_weight (operands_view l.rest.now) + 1)

abbrev pub decreases-run_operator : goal.decreases-run_operator
decreases-run_operator g l = l.room * routines_weight (routines l.module.now) + (weight (term_view l.right.now) + 2)

abbrev pub decreases-run_right : goal.decreases-run_right
decreases-run_right g l = l.room * routines_weight (routines l.module.now) + (weight (term_view l.right.now) + 1)

abbrev pub decreases-run_choice : goal.decreases-run_choice
decreases-run_choice g l = l.room * routines_weight (routines l.module.now) + (weight (term_view l.condition.now) + weight (term_view l.first.now) + weight (term_view l.second.now) + 1)

abbrev pub decreases-run_test : goal.decreases-run_test
decreases-run_test g l = l.room * routines_weight (routines l.module.now) + (weight (term_view l.condition.now) + 1)

abbrev pub decreases-run_stmt : goal.decreases-run_stmt
decreases-run_stmt g l = l.room * routines_weight (routines l.module.now) + (statement_weight (statement_view l.statement.now) + 2)

abbrev pub decreases-run_form : goal.decreases-run_form
decreases-run_form g l = l.room * routines_weight (routines l.module.now) + (statement_weight (statement_view l.statement.now) + 1)

abbrev pub decreases-run_declare : goal.decreases-run_declare
decreases-run_declare g l = l.room * routines_weight (routines l.module.now) + (weight (term_view l.value.now) + 1)

abbrev pub decreases-run_assign : goal.decreases-run_assign
decreases-run_assign g l = l.room * routines_weight (routines l.module.now) + (weight (term_view l.value.now) + 1)

abbrev pub decreases-run_if : goal.decreases-run_if
decreases-run_if g l = l.room * routines_weight (routines l.module.now) + (branches_weight (branches_view l.ways.now) + block_weight (block_view l.other.now) + 3)

abbrev pub decreases-run_while : goal.decreases-run_while
decreases-run_while g l = l.room * routines_weight (routines l.module.now) + (weight (term_view l.condition.now) + block_weight (block_view l.body.now) + 3)

abbrev pub decreases-run_for : goal.decreases-run_for
decreases-run_for g l = l.room * routines_weight (routines l.module.now) + (weight (term_view l.source.now) + block_weight (block_view l.body.now) + 3)

abbrev pub decreases-run_return : goal.decreases-run_return
decreases-run_return g l = l.room * routines_weight (routines l.module.now) + (statement_weight (return_view l.value.now))

abbrev pub decreases-run_throw : goal.decreases-run_throw
decreases-run_throw g l = l.room * routines_weight (routines l.module.now) + (weight (term_view l.value.now) + 1)

abbrev pub decreases-run_try : goal.decreases-run_try
decreases-run_try g l = l.room * routines_weight (routines l.module.now) + (block_weight (block_view l.body.now) + block_weight (block_view l.handler.now) + 3)

abbrev pub decreases-run_value : goal.decreases-run_value
decreases-run_value g l = l.room * routines_weight (routines l.module.now) + (weight (term_view l.value.now) + 1)

abbrev pub decreases-run_scope : goal.decreases-run_scope
decreases-run_scope g l = l.room * routines_weight (routines l.module.now) + (block_weight (block_view l.body.now) + 1)

abbrev pub decreases-run_with : goal.decreases-run_with
decreases-run_with g l = l.room * routines_weight (routines l.module.now) + (block_weight (block_view l.body.now) + 1)

abbrev pub decreases-run_block : goal.decreases-run_block
decreases-run_block g l = l.room * routines_weight (routines l.module.now) + (block_weight (block_view l.body.now))

abbrev pub decreases-invoke : goal.decreases-invoke
decreases-invoke g l = l.room * routines_weight (routines l.module.now) + (0)

abbrev pub invariant-run_exprs-loop-part : goal.invariant-run_exprs-loop-part
invariant-run_exprs-loop-part g l =
    Reaches g.P.Powers.answers l.fn.powers l.powers (exprs (running l.module l.room) (terms_view l.parts) []) (here l.module l.values l.fn.machine)
    (exprs (running l.module l.room) (terms_view (drop l.part-index l.parts)) (trees l.found.items)) (here l.module l.values l.machine)

abbrev pub invariant-run_named-loop-name : goal.invariant-run_named-loop-name
invariant-run_named-loop-name g l =
    Reaches g.P.Powers.answers l.fn.powers l.powers (named_exprs (running l.module l.room) (named_terms_view l.parts) []) (here l.module l.values l.fn.machine)
    (named_exprs (running l.module l.room) (named_terms_view (drop l.name-index l.parts)) (named_trees l.found.items)) (here l.module l.values l.machine)

abbrev pub invariant-run_accesses-loop-part : goal.invariant-run_accesses-loop-part
invariant-run_accesses-loop-part g l =
    Reaches g.P.Powers.answers l.fn.powers l.powers (behind (expr (running l.module l.room) (term_view l.first)) (links (running l.module l.room) (links_view l.rest))) (here l.module l.values l.fn.machine)
    (links (running l.module l.room) (links_view (drop l.part-index l.rest)) (tree l.«data»)) (here l.module l.values l.machine)

abbrev pub invariant-run_chain-loop-operator : goal.invariant-run_chain-loop-operator
invariant-run_chain-loop-operator g l =
    Reaches g.P.Powers.answers l.fn.powers l.powers (behind (expr (running l.module l.room) (term_view l.first)) (operands (running l.module l.room) (operands_view l.rest))) (here l.module l.values l.fn.machine)
    (operands (running l.module l.room) (operands_view (drop l.operator-index l.rest)) (tree l.«data»)) (here l.module l.values l.machine)

abbrev pub invariant-run_if-loop-way : goal.invariant-run_if-loop-way
invariant-run_if-loop-way g l =
    Reaches g.P.Powers.answers l.fn.powers l.powers (branches (running l.module l.room) (branches_view l.ways) (scoped (block (running l.module l.room) (block_view l.other)))) (here l.module l.values l.fn.machine)
    (branches (running l.module l.room) (branches_view (drop l.way-index l.ways)) (scoped (block (running l.module l.room) (block_view l.other)))) (here l.module l.values l.machine)

abbrev pub invariant-run_while-loop-round : goal.invariant-run_while-loop-round
invariant-run_while-loop-round g l =
    Reaches g.P.Powers.answers l.fn.powers l.powers (repeat_rule (test (running l.module l.room) (term_view l.condition)) (block (running l.module l.room) (block_view l.body))) (here l.module l.values l.fn.machine)
    (rounds (l.fn.machine.meter - l.round) (test (running l.module l.room) (term_view l.condition)) (scoped (block (running l.module l.room) (block_view l.body)))) (here l.module l.values l.machine)

abbrev pub invariant-run_for-items : goal.invariant-run_for-items
invariant-run_for-items g l = record {
  reaches : Reaches g.P.Powers.answers l.fn.powers l.powers (for_rule l.name (expr (running l.module l.room) (term_view l.source)) (block (running l.module l.room) (block_view l.body))) (here l.module l.values l.fn.machine)
      (walk (trees (into_iter_items l.items)) (with_name l.name (block (running l.module l.room) (block_view l.body)))) (here l.module l.values l.machine);
  count : length (into_iter_items l.items) ≡ into_iter_len l.items;
}

abbrev pub invariant-run_block-loop-statement : goal.invariant-run_block-loop-statement
invariant-run_block-loop-statement g l =
    Reaches g.P.Powers.answers l.fn.powers l.powers (block (running l.module l.room) (block_view l.body)) (here l.module l.values l.fn.machine)
    (block (running l.module l.room) (block_view (drop l.statement-index l.body))) (here l.module l.values l.machine)

abbrev pub decreases-run_for-items : goal.decreases-run_for-items
decreases-run_for-items g l = length (into_iter_items l.items)

use Rattle.std.proofs.Common.{◌-◌, ◌+◌, ◌++◌, drop, length, sym, ap, ◌∙◌, arith, rules}
use Rattle.std.specs.Option.{option_to_list}
use Rattle.std.specs.Vec.Iter.{into_iter_items}
use Rattle.jessie_machine.specs.host_data.View.{tree, trees, named_trees}
use Rattle.jessie_machine.proofs.host_data.Views.{tree-Null}
use Rattle.jessie_machine.specs.jessie_grammar.Syntax.{routines, term_view, terms_view, named_terms_view, link_view, return_view, statement_view, block_view}
use Rattle.jessie_machine.proofs.jessie_grammar.Views.{term-Literal, term-Name, link-Field, link-Index, statement-Const, statement-Let, statement-Assign, statement-Return, statement-Throw, statement-Run}
use Rattle.jessie_machine.specs.jessie_values.declared.reasons.Reason.TheVariants.{WrongKind, TooDeep}
use Rattle.jessie_machine.specs.jessie_semantics.AmountMath.{amount_call}
use Rattle.jessie_machine.specs.jessie_semantics.Actions.{scoped}
use Rattle.jessie_machine.specs.jessie_semantics.Rules.{worked, counted, leaves, expr, exprs, named_exprs, one_link, form, test, block, rounds, walk, with_name, pairs, find_routine, enter}
use Rattle.jessie_machine.specs.jessie_semantics.Runs.{throws, came, halted}
use Rattle.jessie_machine.proofs.jessie_semantics.Runs.{computed, computes_as, pure_computes, spend_computes, then_runs, stop_runs, caught_came, caught_spends, caught_throws, runs_as, runs_to, reaches_itself, reaches_as, reaches_more, reaches_runs, reaches_metered, bind_as, scoped_as, within_as}
use Rattle.jessie_machine.specs.Stops.{halt}
use Rattle.jessie_machine.specs.Machine.{end_of, all_seen, fields_seen}
use Rattle.jessie_machine.proofs.Places.{names_left, one_more, one_name_more}
use Rattle.jessie_machine.proofs.Exits.{stops, thrown_computes, bad_computes, pure_as}
use Rattle.jessie_interpreter.specs.Parts.{running, here}
use Rattle.jessie_interpreter.proofs.Parts.{call_at, built_in_at, amounts_at, send_at, array_at, record_at, steps_at, unary_at, chain_at, choice_at, method_at, if_at, while_at, for_at, try_at, exprs_open, exprs_end, named_open, named_end, links_open, links_end, operands_open, operands_end, branches_open, branches_end, block_open, block_end, rounds_open, rounds_end, no_items_left, right_true, right_false, either_true, either_false, round_true, round_false, calls_more, calls_none}
use Rattle.jessie_interpreter.proofs.Starts.{runs_since}
use Rattle.jessie_interpreter.proofs.Weights.{block_weight, routines_weight, part_falls, named_falls, link_falls, operand_falls, way_falls, statement_falls, routine_falls, calls_fall}
use Rattle.jessie_interpreter.proofs.run.+run.Goals as goal

pub run_expr-returns-in-Literal : goal.run_expr-returns-in-Literal
run_expr-returns-in-Literal g t c =
    let m = running c.args.module.now c.args.room in
    runs_as (ap (λ e. expr m (term_view e)) c.in-Literal.is ∙ ap (expr m) (term-Literal _)) (computed (c.read_literal.ensures.does _ _))

pub run_expr-returns-in-Name : goal.run_expr-returns-in-Name
run_expr-returns-in-Name g t c =
    let m = running c.args.module.now c.args.room in
    runs_as (ap (λ e. expr m (term_view e)) c.in-Name.is ∙ ap (expr m) (term-Name _)) (computed (c.read_name.ensures.does c.args.room))

pub run_expr-returns-in-Call : goal.run_expr-returns-in-Call
run_expr-returns-in-Call g t c =
    let m = running c.args.module.now c.args.room in
    runs_as (ap (expr m) (call_at _ _ _ _ c.in-Call.is c.as_slice.ensures)) c.run_call.ensures

pub run_expr-returns-in-BuiltIn : goal.run_expr-returns-in-BuiltIn
run_expr-returns-in-BuiltIn g t c =
    let m = running c.args.module.now c.args.room in
    runs_as (ap (expr m) (built_in_at _ _ _ _ c.in-BuiltIn.is c.as_slice-in-BuiltIn.ensures)) c.run_built_in.ensures

pub run_expr-returns-in-AmountMath : goal.run_expr-returns-in-AmountMath
run_expr-returns-in-AmountMath g t c =
    let m = running c.args.module.now c.args.room in
    runs_as (ap (expr m) (amounts_at _ _ _ _ c.in-AmountMath.is c.as_slice-in-AmountMath.ensures)) c.run_amounts.ensures

pub run_expr-returns-in-Send : goal.run_expr-returns-in-Send
run_expr-returns-in-Send g t c =
    let m = running c.args.module.now c.args.room in
    runs_as (ap (expr m) (send_at _ _ _ _ _ _ c.in-Send.is c.get.ensures c.as_slice-in-Send.ensures)) c.run_send.ensures

pub run_expr-returns-in-Array : goal.run_expr-returns-in-Array
run_expr-returns-in-Array g t c =
    let m = running c.args.module.now c.args.room in
    runs_as (ap (expr m) (array_at _ _ _ c.in-Array.is c.as_slice-in-Array.ensures)) c.run_array.ensures

pub run_expr-returns-in-Record : goal.run_expr-returns-in-Record
run_expr-returns-in-Record g t c =
    let m = running c.args.module.now c.args.room in
    runs_as (ap (expr m) (record_at _ _ _ c.in-Record.is c.as_slice-in-Record.ensures)) c.run_record.ensures

pub run_expr-returns-in-Accesses : goal.run_expr-returns-in-Accesses
run_expr-returns-in-Accesses g t c =
    let m = running c.args.module.now c.args.room in
    runs_as (ap (expr m) (steps_at _ _ _ _ _ c.in-Accesses.is c.get-in-Accesses.ensures c.as_slice-in-Accesses.ensures)) c.run_accesses.ensures

pub run_expr-returns-in-Unary : goal.run_expr-returns-in-Unary
run_expr-returns-in-Unary g t c =
    let m = running c.args.module.now c.args.room in
    runs_as (ap (expr m) (unary_at _ _ _ _ c.in-Unary.is c.get-in-Unary.ensures)) c.run_unary.ensures

pub run_expr-returns-in-Chain : goal.run_expr-returns-in-Chain
run_expr-returns-in-Chain g t c =
    let m = running c.args.module.now c.args.room in
    runs_as (ap (expr m) (chain_at _ _ _ _ _ c.in-Chain.is c.get-in-Chain.ensures c.as_slice-in-Chain.ensures)) c.run_chain.ensures

pub run_expr-returns-in-Choice : goal.run_expr-returns-in-Choice
run_expr-returns-in-Choice g t c =
    let m = running c.args.module.now c.args.room in
    runs_as (ap (expr m) (choice_at _ _ _ _ _ _ _ c.in-Choice.is c.get-in-Choice.ensures c.get-in-Choice-2.ensures c.get-in-Choice-3.ensures)) c.run_choice.ensures

pub run_exprs-returns-in_err-data : goal.run_exprs-returns-in_err-data
run_exprs-returns-in_err-data g t c =
    let m = running c.args.module.now c.args.room in
    reaches_runs (reaches_as (exprs_open m (trees c.loop-part.found.items) c.args.parts.now c.loop-part.part-index c.part-item.result c.loop-part-test.true c.part-item.is) c.loop-part.invariant) (stops all_seen _ _ _ c.from_residual.ensures.1 c.in_err-data.ensures)

pub run_exprs-loop-part-preserved : goal.run_exprs-loop-part-preserved
run_exprs-loop-part-preserved g t c =
    let m = running c.args.module.now c.args.room in
    reaches_as (ap (exprs m (terms_view (drop (c.loop-part.part-index + 1) c.args.parts.now))) (sym (one_more _ _ _ c.in_ok-push.ensures.items))) (reaches_more _ (reaches_as (exprs_open m (trees c.loop-part.found.items) c.args.parts.now c.loop-part.part-index c.part-item.result c.loop-part-test.true c.part-item.is) c.loop-part.invariant) c.in_ok-data.ensures)

pub run_exprs-returns : goal.run_exprs-returns
run_exprs-returns g t c =
    let m = running c.args.module.now c.args.room in
    reaches_runs (reaches_as (exprs_end m (trees c.loop-part.found.items) c.args.parts.now c.loop-part.part-index c.loop-part-test.false) c.loop-part.invariant) (computed (pure_computes _ _))

pub run_exprs-run_expr-requires : goal.run_exprs-run_expr-requires
run_exprs-run_expr-requires g t c =
    let falls = part_falls c.args.parts.now c.loop-part.part-index c.part-item.result c.loop-part-test.true c.part-item.is in
    λ κs h. (omega (arith, falls, c.decreases), search rules)

pub run_named-returns-in_err-data : goal.run_named-returns-in_err-data
run_named-returns-in_err-data g t c =
    let m = running c.args.module.now c.args.room in
    reaches_runs (reaches_as (named_open m (named_trees c.loop-name.found.items) c.args.parts.now c.loop-name.name-index c.loop-name-item.result c.loop-name-test.true c.loop-name-item.is) c.loop-name.invariant) (stops fields_seen _ _ _ c.from_residual.ensures.1 c.in_err-data.ensures)

pub run_named-loop-name-preserved : goal.run_named-loop-name-preserved
run_named-loop-name-preserved g t c =
    let m = running c.args.module.now c.args.room in
    reaches_as (ap (named_exprs m (named_terms_view (drop (c.loop-name.name-index + 1) c.args.parts.now))) (sym (one_name_more _ _ _ _ c.in_ok-bind_name.ensures))) (reaches_more _ (reaches_as (named_open m (named_trees c.loop-name.found.items) c.args.parts.now c.loop-name.name-index c.loop-name-item.result c.loop-name-test.true c.loop-name-item.is) c.loop-name.invariant) c.in_ok-data.ensures)

pub run_named-returns : goal.run_named-returns
run_named-returns g t c =
    let m = running c.args.module.now c.args.room in
    reaches_runs (reaches_as (named_end m (named_trees c.loop-name.found.items) c.args.parts.now c.loop-name.name-index c.loop-name-test.false) c.loop-name.invariant) (computed (pure_computes _ _))

pub run_named-run_expr-requires : goal.run_named-run_expr-requires
run_named-run_expr-requires g t c =
    let falls = named_falls c.args.parts.now c.loop-name.name-index c.loop-name-item.result c.loop-name-test.true c.loop-name-item.is in
    λ κs h. (omega (arith, falls, c.decreases), search rules)

pub run_call-returns-in_err-take : goal.run_call-returns-in_err-take
run_call-returns-in_err-take g t c =
    stops tree _ _ _ c.from_residual.ensures.1 (computed (c.in_err-take.ensures.does _ _))

pub run_call-returns-in_err-args : goal.run_call-returns-in_err-args
run_call-returns-in_err-args g t c =
    then_runs _ (computed (c.in_ok-take.ensures.does _ _))
    (stops tree _ _ _ c.from_residual-in_err-args.ensures.1 c.in_err-args.ensures)

pub run_call-returns : goal.run_call-returns
run_call-returns g t c =
    then_runs _ (computed (c.in_ok-take.ensures.does _ _))
    (then_runs _ c.in_ok-args.ensures
    (c.invoke.ensures))

pub run_built_in-returns-in_err-take : goal.run_built_in-returns-in_err-take
run_built_in-returns-in_err-take g t c =
    stops tree _ _ _ c.from_residual.ensures.1 (computed (c.in_err-take.ensures.does _ _))

pub run_built_in-returns-in_err-args : goal.run_built_in-returns-in_err-args
run_built_in-returns-in_err-args g t c =
    then_runs _ (computed (c.in_ok-take.ensures.does _ _))
    (stops tree _ _ _ c.from_residual-in_err-args.ensures.1 c.in_err-args.ensures)

pub run_built_in-returns : goal.run_built_in-returns
run_built_in-returns g t c =
    then_runs _ (computed (c.in_ok-take.ensures.does _ _))
    (then_runs _ c.in_ok-args.ensures
    (c.call_built_in.ensures _ _))

pub run_amounts-returns-in_err-take : goal.run_amounts-returns-in_err-take
run_amounts-returns-in_err-take g t c =
    stops tree _ _ _ c.from_residual.ensures.1 (computed (c.in_err-take.ensures.does _ _))

pub run_amounts-returns-in_err-args : goal.run_amounts-returns-in_err-args
run_amounts-returns-in_err-args g t c =
    then_runs _ (computed (c.in_ok-take.ensures.does _ _))
    (stops tree _ _ _ c.from_residual-in_err-args.ensures.1 c.in_err-args.ensures)

pub run_amounts-returns : goal.run_amounts-returns
run_amounts-returns g t c =
    then_runs _ (computed (c.in_ok-take.ensures.does _ _))
    (then_runs _ c.in_ok-args.ensures
    (computed (computes_as (ap (λ l. counted (amount_call c.args.name.now (trees l))) (sym c.as_slice.ensures.value)) (c.call_amounts.ensures _))))

pub run_send-returns-in_err-take : goal.run_send-returns-in_err-take
run_send-returns-in_err-take g t c =
    stops tree _ _ _ c.from_residual.ensures.1 (computed (c.in_err-take.ensures.does _ _))

pub run_send-returns-in_err-target : goal.run_send-returns-in_err-target
run_send-returns-in_err-target g t c =
    then_runs _ (computed (c.in_ok-take.ensures.does _ _))
    (stops tree _ _ _ c.from_residual-in_err-target.ensures.1 c.in_err-target.ensures)

pub run_send-returns-in_err-args : goal.run_send-returns-in_err-args
run_send-returns-in_err-args g t c =
    then_runs _ (computed (c.in_ok-take.ensures.does _ _))
    (then_runs _ c.in_ok-target.ensures
    (stops tree _ _ _ c.from_residual-in_err-args.ensures.1 c.in_err-args.ensures))

pub run_send-returns : goal.run_send-returns
run_send-returns g t c =
    then_runs _ (computed (c.in_ok-take.ensures.does _ _))
    (then_runs _ c.in_ok-target.ensures
    (then_runs _ c.in_ok-args.ensures
    (c.send_method.ensures _ _)))

pub run_array-returns-in_err-take : goal.run_array-returns-in_err-take
run_array-returns-in_err-take g t c =
    stops tree _ _ _ c.from_residual.ensures.1 (computed (c.in_err-take.ensures.does _ _))

pub run_array-returns-in_err-items : goal.run_array-returns-in_err-items
run_array-returns-in_err-items g t c =
    then_runs _ (computed (c.in_ok-take.ensures.does _ _))
    (stops tree _ _ _ c.from_residual-in_err-items.ensures.1 c.in_err-items.ensures)

pub run_array-returns : goal.run_array-returns
run_array-returns g t c =
    then_runs _ (computed (c.in_ok-take.ensures.does _ _))
    (then_runs _ c.in_ok-items.ensures
    (computed (c.make_array.ensures _)))

pub run_record-returns-in_err-take : goal.run_record-returns-in_err-take
run_record-returns-in_err-take g t c =
    stops tree _ _ _ c.from_residual.ensures.1 (computed (c.in_err-take.ensures.does _ _))

pub run_record-returns-in_err-items : goal.run_record-returns-in_err-items
run_record-returns-in_err-items g t c =
    then_runs _ (computed (c.in_ok-take.ensures.does _ _))
    (stops tree _ _ _ c.from_residual-in_err-items.ensures.1 c.in_err-items.ensures)

pub run_record-returns : goal.run_record-returns
run_record-returns g t c =
    then_runs _ (computed (c.in_ok-take.ensures.does _ _))
    (then_runs _ c.in_ok-items.ensures
    (computed (c.make_record.ensures _)))

pub run_accesses-returns-in_err-data : goal.run_accesses-returns-in_err-data
run_accesses-returns-in_err-data g t c =
    stops tree _ _ _ c.from_residual.ensures.1 c.in_err-data.ensures

pub run_accesses-loop-part-init : goal.run_accesses-loop-part-init
run_accesses-loop-part-init g t c =
    reaches_more _ reaches_itself c.in_ok-data.ensures

pub run_accesses-returns-in_err-data-2 : goal.run_accesses-returns-in_err-data-2
run_accesses-returns-in_err-data-2 g t c =
    let m = running c.args.module.now c.args.room in
    reaches_runs (reaches_as (links_open m (tree c.loop-part.«data») c.args.rest.now c.loop-part.part-index c.part-item.result c.loop-part-test.true c.part-item.is) c.loop-part.invariant) (stops tree _ _ _ c.from_residual-in_err-data-2.ensures.1 c.in_err-data-2.ensures)

pub run_accesses-loop-part-preserved : goal.run_accesses-loop-part-preserved
run_accesses-loop-part-preserved g t c =
    let m = running c.args.module.now c.args.room in
    reaches_more _ (reaches_as (links_open m (tree c.loop-part.«data») c.args.rest.now c.loop-part.part-index c.part-item.result c.loop-part-test.true c.part-item.is) c.loop-part.invariant) c.in_ok-data-2.ensures

pub run_accesses-returns : goal.run_accesses-returns
run_accesses-returns g t c =
    let m = running c.args.module.now c.args.room in
    reaches_runs (reaches_as (links_end m (tree c.loop-part.«data») c.args.rest.now c.loop-part.part-index c.loop-part-test.false) c.loop-part.invariant) (computed (pure_computes _ _))

pub run_accesses-run_access-requires : goal.run_accesses-run_access-requires
run_accesses-run_access-requires g t c =
    let falls = link_falls c.args.rest.now c.loop-part.part-index c.part-item.result c.loop-part-test.true c.part-item.is in
    λ κs h. (omega (arith, falls, c.decreases), search rules)

pub run_access-returns-in-Field : goal.run_access-returns-in-Field
run_access-returns-in-Field g t c =
    let m = running c.args.module.now c.args.room in
    runs_as (ap (λ k. one_link m (link_view k) (tree c.args.«data»)) c.in-Field.is ∙ ap (λ k. one_link m k (tree c.args.«data»)) (link-Field _)) (computed (c.run_field.ensures.does _ _))

pub run_access-returns-in-Method : goal.run_access-returns-in-Method
run_access-returns-in-Method g t c =
    let m = running c.args.module.now c.args.room in
    runs_as (ap (λ k. one_link m k (tree c.args.«data»)) (method_at _ _ _ _ c.in-Method.is c.as_slice.ensures)) c.run_method.ensures

pub run_access-returns-in-Index : goal.run_access-returns-in-Index
run_access-returns-in-Index g t c =
    let m = running c.args.module.now c.args.room in
    runs_as (ap (λ k. one_link m (link_view k) (tree c.args.«data»)) c.in-Index.is ∙ ap (λ k. one_link m k (tree c.args.«data»)) (link-Index _)) c.run_index.ensures

pub run_method-returns-in_err-take : goal.run_method-returns-in_err-take
run_method-returns-in_err-take g t c =
    stops tree _ _ _ c.from_residual.ensures.1 (computed (c.in_err-take.ensures.does _ _))

pub run_method-returns-in_err-args : goal.run_method-returns-in_err-args
run_method-returns-in_err-args g t c =
    then_runs _ (computed (c.in_ok-take.ensures.does _ _))
    (stops tree _ _ _ c.from_residual-in_err-args.ensures.1 c.in_err-args.ensures)

pub run_method-returns : goal.run_method-returns
run_method-returns g t c =
    then_runs _ (computed (c.in_ok-take.ensures.does _ _))
    (then_runs _ c.in_ok-args.ensures
    (c.call_method.ensures _ _))

pub run_index-returns-in_err-take : goal.run_index-returns-in_err-take
run_index-returns-in_err-take g t c =
    stops tree _ _ _ c.from_residual.ensures.1 (computed (c.in_err-take.ensures.does _ _))

pub run_index-returns-in_err-index : goal.run_index-returns-in_err-index
run_index-returns-in_err-index g t c =
    then_runs _ (computed (c.in_ok-take.ensures.does _ _))
    (stops tree _ _ _ c.from_residual-in_err-index.ensures.1 c.in_err-index.ensures)

pub run_index-returns : goal.run_index-returns
run_index-returns g t c =
    then_runs _ (computed (c.in_ok-take.ensures.does _ _))
    (then_runs _ c.in_ok-index.ensures
    (computed (c.read_index.ensures _)))

pub run_unary-returns-in_err-take : goal.run_unary-returns-in_err-take
run_unary-returns-in_err-take g t c =
    stops tree _ _ _ c.from_residual.ensures.1 (computed (c.in_err-take.ensures.does _ _))

pub run_unary-returns-in_err-data : goal.run_unary-returns-in_err-data
run_unary-returns-in_err-data g t c =
    then_runs _ (computed (c.in_ok-take.ensures.does _ _))
    (stops tree _ _ _ c.from_residual-in_err-data.ensures.1 c.in_err-data.ensures)

pub run_unary-returns : goal.run_unary-returns
run_unary-returns g t c =
    then_runs _ (computed (c.in_ok-take.ensures.does _ _))
    (then_runs _ c.in_ok-data.ensures
    (computed (c.apply_unary.ensures _)))

pub run_chain-returns-in-Some : goal.run_chain-returns-in-Some
run_chain-returns-in-Some g t c =
    let m = running c.args.module.now c.args.room in
    runs_to (ap (λ v. came v) (sym c.«data».ensures)) (computed (c.in-Some.ensures.does m _ _))

pub run_chain-returns-in_err-data : goal.run_chain-returns-in_err-data
run_chain-returns-in_err-data g t c =
    stops tree _ _ _ c.from_residual.ensures.1 c.in_err-data.ensures

pub run_chain-loop-operator-init : goal.run_chain-loop-operator-init
run_chain-loop-operator-init g t c =
    reaches_more _ reaches_itself c.in_ok-data.ensures

pub run_chain-returns-in_err-data-2 : goal.run_chain-returns-in_err-data-2
run_chain-returns-in_err-data-2 g t c =
    let m = running c.args.module.now c.args.room in
    reaches_runs (reaches_as (operands_open m (tree c.loop-operator.«data») c.args.rest.now c.loop-operator.operator-index c.loop-operator-item.result c.loop-operator-test.true c.loop-operator-item.is) c.loop-operator.invariant) (stops tree _ _ _ c.from_residual-in_err-data-2.ensures.1 c.in_err-data-2.ensures)

pub run_chain-loop-operator-preserved : goal.run_chain-loop-operator-preserved
run_chain-loop-operator-preserved g t c =
    let m = running c.args.module.now c.args.room in
    reaches_more _ (reaches_as (operands_open m (tree c.loop-operator.«data») c.args.rest.now c.loop-operator.operator-index c.loop-operator-item.result c.loop-operator-test.true c.loop-operator-item.is) c.loop-operator.invariant) c.in_ok-data-2.ensures

pub run_chain-returns : goal.run_chain-returns
run_chain-returns g t c =
    let m = running c.args.module.now c.args.room in
    reaches_runs (reaches_as (operands_end m (tree c.loop-operator.«data») c.args.rest.now c.loop-operator.operator-index c.loop-operator-test.false) c.loop-operator.invariant) (computed (pure_computes _ _))

pub run_chain-run_operator-requires : goal.run_chain-run_operator-requires
run_chain-run_operator-requires g t c =
    let falls = operand_falls c.args.rest.now c.loop-operator.operator-index c.loop-operator-item.result c.loop-operator-test.true c.loop-operator-item.is in
    λ κs h. (omega (arith, falls, c.decreases), search rules)

pub run_operator-returns-in_err-take : goal.run_operator-returns-in_err-take
run_operator-returns-in_err-take g t c =
    stops tree _ _ _ c.from_residual.ensures.1 (computed (c.in_err-take.ensures.does _ _))

pub run_operator-returns-in_err-skipped : goal.run_operator-returns-in_err-skipped
run_operator-returns-in_err-skipped g t c =
    then_runs _ (computed (c.in_ok-take.ensures.does _ _))
    (stops tree _ _ _ c.from_residual-in_err-skipped.ensures.1 (computed (c.in_err-skipped.ensures _)))

pub run_operator-returns-then-skipped : goal.run_operator-returns-then-skipped
run_operator-returns-then-skipped g t c =
    then_runs _ (computed (c.in_ok-take.ensures.does _ _))
    (then_runs _ (computed (c.in_ok-skipped.ensures _))
    (runs_as (right_true _ _ _ _ c.if-skipped.true) (computed (pure_computes _ _))))

pub run_operator-returns : goal.run_operator-returns
run_operator-returns g t c =
    then_runs _ (computed (c.in_ok-take.ensures.does _ _))
    (then_runs _ (computed (c.in_ok-skipped.ensures _))
    (runs_as (right_false _ _ _ _ c.if-skipped.false) c.run_right.ensures))

pub run_right-returns-in_err-right : goal.run_right-returns-in_err-right
run_right-returns-in_err-right g t c =
    stops tree _ _ _ c.from_residual.ensures.1 c.in_err-right.ensures

pub run_right-returns : goal.run_right-returns
run_right-returns g t c =
    then_runs _ c.in_ok-right.ensures (computed (c.apply.ensures _))

pub run_choice-returns-in_err-data : goal.run_choice-returns-in_err-data
run_choice-returns-in_err-data g t c =
    stops tree _ _ _ c.from_residual.ensures.1 c.in_err-data.ensures

pub run_choice-returns-in_err-take : goal.run_choice-returns-in_err-take
run_choice-returns-in_err-take g t c =
    then_runs _ c.in_ok-data.ensures
    (stops tree _ _ _ c.from_residual-in_err-take.ensures.1 (computed (c.in_err-take.ensures.does _ _)))

pub run_choice-returns-in_err-holds : goal.run_choice-returns-in_err-holds
run_choice-returns-in_err-holds g t c =
    let given = ap worked (sym c.truth-given.ensures) in
    then_runs _ c.in_ok-data.ensures
    (then_runs _ (computed (c.in_ok-take.ensures.does _ _))
    (stops tree _ _ _ c.from_residual-in_err-holds.ensures.1 (computed (computes_as given (c.in_err-holds.ensures _)))))

pub run_choice-returns-then-holds : goal.run_choice-returns-then-holds
run_choice-returns-then-holds g t c =
    let given = ap worked (sym c.truth-given.ensures) in
    then_runs _ c.in_ok-data.ensures
    (then_runs _ (computed (c.in_ok-take.ensures.does _ _))
    (then_runs _ (computed (computes_as given (c.in_ok-holds.ensures _)))
    (runs_as (either_true _ _ _ c.if-holds.true) c.run_expr-then-holds.ensures)))

pub run_choice-returns : goal.run_choice-returns
run_choice-returns g t c =
    let given = ap worked (sym c.truth-given.ensures) in
    then_runs _ c.in_ok-data.ensures
    (then_runs _ (computed (c.in_ok-take.ensures.does _ _))
    (then_runs _ (computed (computes_as given (c.in_ok-holds.ensures _)))
    (runs_as (either_false _ _ _ c.if-holds.false) c.run_expr-2.ensures)))

pub run_test-returns-in-Some : goal.run_test-returns-in-Some
run_test-returns-in-Some g t c =
    let m = running c.args.module.now c.args.room in
    computed (c.in-Some.ensures.does m _ _)

pub run_test-returns-in_err-data : goal.run_test-returns-in_err-data
run_test-returns-in_err-data g t c =
    stops (λ b. b) _ _ _ c.from_residual.ensures.1 c.in_err-data.ensures

pub run_test-returns : goal.run_test-returns
run_test-returns g t c =
    then_runs _ c.in_ok-data.ensures
    (computed (c.check.ensures _))

pub run_stmt-returns-in_err-begin_statement : goal.run_stmt-returns-in_err-begin_statement
run_stmt-returns-in_err-begin_statement g t c =
    stops end_of _ _ _ c.from_residual.ensures.1 (computed (c.in_err-begin_statement.ensures.does _ _))

pub run_stmt-returns : goal.run_stmt-returns
run_stmt-returns g t c =
    then_runs _ (computed (c.in_ok-begin_statement.ensures.does _ _))
    (c.run_form.ensures)

pub run_form-returns-in-Const : goal.run_form-returns-in-Const
run_form-returns-in-Const g t c =
    let m = running c.args.module.now c.args.room in
    runs_as (ap (λ a. form m (statement_view a)) c.in-Const.is ∙ ap (form m) (statement-Const _ _)) c.run_declare.ensures

pub run_form-returns-in-Let : goal.run_form-returns-in-Let
run_form-returns-in-Let g t c =
    let m = running c.args.module.now c.args.room in
    runs_as (ap (λ a. form m (statement_view a)) c.in-Let.is ∙ ap (form m) (statement-Let _ _)) c.run_declare-in-Let.ensures

pub run_form-returns-in-Assign : goal.run_form-returns-in-Assign
run_form-returns-in-Assign g t c =
    let m = running c.args.module.now c.args.room in
    runs_as (ap (λ a. form m (statement_view a)) c.in-Assign.is ∙ ap (form m) (statement-Assign _ _)) c.run_assign.ensures

pub run_form-returns-in-If : goal.run_form-returns-in-If
run_form-returns-in-If g t c =
    let m = running c.args.module.now c.args.room in
    runs_as (ap (form m) (if_at _ _ _ _ _ c.in-If.is c.as_slice.ensures c.as_slice-in-If.ensures)) c.run_if.ensures

pub run_form-returns-in-While : goal.run_form-returns-in-While
run_form-returns-in-While g t c =
    let m = running c.args.module.now c.args.room in
    runs_as (ap (form m) (while_at _ _ _ _ c.in-While.is c.as_slice-in-While.ensures)) c.run_while.ensures

pub run_form-returns-in-ForOf : goal.run_form-returns-in-ForOf
run_form-returns-in-ForOf g t c =
    let m = running c.args.module.now c.args.room in
    runs_as (ap (form m) (for_at _ _ _ _ _ c.in-ForOf.is c.as_slice-in-ForOf.ensures)) c.run_for.ensures

pub run_form-returns-in-Return : goal.run_form-returns-in-Return
run_form-returns-in-Return g t c =
    let m = running c.args.module.now c.args.room in
    runs_as (ap (λ a. form m (statement_view a)) c.in-Return.is ∙ ap (form m) (statement-Return _)) c.run_return.ensures

pub run_form-returns-in-Throw : goal.run_form-returns-in-Throw
run_form-returns-in-Throw g t c =
    let m = running c.args.module.now c.args.room in
    runs_as (ap (λ a. form m (statement_view a)) c.in-Throw.is ∙ ap (form m) (statement-Throw _)) c.run_throw.ensures

pub run_form-returns-in-Try : goal.run_form-returns-in-Try
run_form-returns-in-Try g t c =
    let m = running c.args.module.now c.args.room in
    runs_as (ap (form m) (try_at _ _ _ _ _ _ c.in-Try.is c.as_slice-in-Try.ensures c.as_slice-in-Try-2.ensures)) c.run_try.ensures

pub run_form-returns-in-Run : goal.run_form-returns-in-Run
run_form-returns-in-Run g t c =
    let m = running c.args.module.now c.args.room in
    runs_as (ap (λ a. form m (statement_view a)) c.in-Run.is ∙ ap (form m) (statement-Run _)) c.run_value.ensures

pub run_declare-returns-in_err-data : goal.run_declare-returns-in_err-data
run_declare-returns-in_err-data g t c =
    stops end_of _ _ _ c.from_residual.ensures.1 c.in_err-data.ensures

pub run_declare-returns : goal.run_declare-returns
run_declare-returns g t c =
    then_runs _ c.in_ok-data.ensures
    (then_runs _ (computed (bind_as _ _ _ (one_name_more _ _ _ _ c.in_ok-bind.ensures)))
    (computed (pure_computes _ _)))

pub run_assign-returns-then-assign_at_hand : goal.run_assign-returns-then-assign_at_hand
run_assign-returns-then-assign_at_hand g t c =
    computed (c.assign_at_hand.ensures.does _ _ _ c.if-assign_at_hand.true)

pub run_assign-returns-in_err-data : goal.run_assign-returns-in_err-data
run_assign-returns-in_err-data g t c =
    runs_since (ap (here c.args.module.now c.args.values.now) (c.assign_at_hand.ensures.same c.if-assign_at_hand.false))
    (stops end_of _ _ _ c.from_residual.ensures.1 c.in_err-data.ensures)

pub run_assign-returns-in_err-assign_name : goal.run_assign-returns-in_err-assign_name
run_assign-returns-in_err-assign_name g t c =
    runs_since (ap (here c.args.module.now c.args.values.now) (c.assign_at_hand.ensures.same c.if-assign_at_hand.false))
    (then_runs _ c.in_ok-data.ensures
    (stops end_of _ _ _ c.from_residual-in_err-assign_name.ensures.1 (computed (c.in_err-assign_name.ensures.does _))))

pub run_assign-returns : goal.run_assign-returns
run_assign-returns g t c =
    runs_since (ap (here c.args.module.now c.args.values.now) (c.assign_at_hand.ensures.same c.if-assign_at_hand.false))
    (then_runs _ c.in_ok-data.ensures
    (then_runs _ (computed (c.in_ok-assign_name.ensures.does _))
    (computed (pure_computes _ _))))

pub run_if-returns-in_err-holds : goal.run_if-returns-in_err-holds
run_if-returns-in_err-holds g t c =
    let m = running c.args.module.now c.args.room in
    let o = (scoped (block m (block_view c.args.other.now))) in
    reaches_runs (reaches_as (branches_open m o c.args.ways.now c.loop-way.way-index c.way-item.result c.loop-way-test.true c.way-item.is) c.loop-way.invariant) (stops end_of _ _ _ c.from_residual.ensures.1 c.in_err-holds.ensures)

pub run_if-returns-then-holds : goal.run_if-returns-then-holds
run_if-returns-then-holds g t c =
    let m = running c.args.module.now c.args.room in
    let o = (scoped (block m (block_view c.args.other.now))) in
    reaches_runs (reaches_as (branches_open m o c.args.ways.now c.loop-way.way-index c.way-item.result c.loop-way-test.true c.way-item.is) c.loop-way.invariant) (then_runs _ c.in_ok-holds.ensures
    (runs_as (either_true _ _ _ c.if-holds.true ∙ ap (λ l. scoped (block m (block_view l))) (sym c.as_slice.ensures)) c.run_scope.ensures))

pub run_if-loop-way-preserved : goal.run_if-loop-way-preserved
run_if-loop-way-preserved g t c =
    let m = running c.args.module.now c.args.room in
    let o = (scoped (block m (block_view c.args.other.now))) in
    reaches_as (either_false _ _ _ c.if-holds.false) (reaches_more _ (reaches_as (branches_open m o c.args.ways.now c.loop-way.way-index c.way-item.result c.loop-way-test.true c.way-item.is) c.loop-way.invariant) c.in_ok-holds.ensures)

pub run_if-returns : goal.run_if-returns
run_if-returns g t c =
    let m = running c.args.module.now c.args.room in
    let o = (scoped (block m (block_view c.args.other.now))) in
    reaches_runs (reaches_as (branches_end m o c.args.ways.now c.loop-way.way-index c.loop-way-test.false) c.loop-way.invariant) c.run_scope-2.ensures

pub run_if-run_test-requires : goal.run_if-run_test-requires
run_if-run_test-requires g t c =
    let falls = way_falls c.args.ways.now c.loop-way.way-index c.way-item.result c.loop-way-test.true c.way-item.is in
    λ κs h. (omega (arith, falls, c.decreases), search rules)

pub run_if-run_scope-requires : goal.run_if-run_scope-requires
run_if-run_scope-requires g t c =
    let falls = way_falls c.args.ways.now c.loop-way.way-index c.way-item.result c.loop-way-test.true c.way-item.is in
    let body = ap (λ l. block_weight (block_view l)) c.as_slice.ensures in
    λ κs h. (omega (arith, falls, body, c.decreases), search rules)

pub run_while-loop-round-init : goal.run_while-loop-round-init
run_while-loop-round-init g t c =
    let m = running c.args.module.now c.args.room in
    reaches_metered (λ n. rounds n (test m (term_view c.args.condition.now)) (scoped (block m (block_view c.args.body.now)))) (c.args.machine.now.meter - 0) _ (omega arith)

pub run_while-returns-in_err-holds : goal.run_while-returns-in_err-holds
run_while-returns-in_err-holds g t c =
    let m = running c.args.module.now c.args.room in
    let l = c.loop-round in
    let q = test m (term_view c.args.condition.now) in
    let b = scoped (block m (block_view c.args.body.now)) in
    reaches_runs (reaches_as (rounds_open c.args.machine.now.meter l.round q b c.loop-round-test.true) l.invariant)
    (stops end_of _ _ _ c.from_residual.ensures.1 c.in_err-holds.ensures)

pub run_while-returns-else-holds : goal.run_while-returns-else-holds
run_while-returns-else-holds g t c =
    let m = running c.args.module.now c.args.room in
    let l = c.loop-round in
    let q = test m (term_view c.args.condition.now) in
    let b = scoped (block m (block_view c.args.body.now)) in
    reaches_runs (reaches_as (rounds_open c.args.machine.now.meter l.round q b c.loop-round-test.true) l.invariant)
    (then_runs _ c.in_ok-holds.ensures
    (runs_as (round_false _ _ _ c.if-holds.false) (computed (pure_computes _ _))))

pub run_while-returns-in_err-run_scope : goal.run_while-returns-in_err-run_scope
run_while-returns-in_err-run_scope g t c =
    let m = running c.args.module.now c.args.room in
    let l = c.loop-round in
    let q = test m (term_view c.args.condition.now) in
    let b = scoped (block m (block_view c.args.body.now)) in
    reaches_runs (reaches_as (rounds_open c.args.machine.now.meter l.round q b c.loop-round-test.true) l.invariant)
    (then_runs _ c.in_ok-holds.ensures
    (runs_as (round_true _ _ _ c.if-holds.true) (stops end_of _ _ _ c.from_residual-in_err-run_scope.ensures.1 c.in_err-run_scope.ensures)))

pub run_while-returns-in-Leaves : goal.run_while-returns-in-Leaves
run_while-returns-in-Leaves g t c =
    let m = running c.args.module.now c.args.room in
    let l = c.loop-round in
    let q = test m (term_view c.args.condition.now) in
    let b = scoped (block m (block_view c.args.body.now)) in
    reaches_runs (reaches_as (rounds_open c.args.machine.now.meter l.round q b c.loop-round-test.true) l.invariant)
    (then_runs _ c.in_ok-holds.ensures
    (runs_as (round_true _ _ _ c.if-holds.true) (then_runs _ (runs_to (ap (λ e. came (end_of e)) c.in-Leaves.is) c.in_ok-run_scope.ensures)
    (computed (pure_computes _ _)))))

pub run_while-loop-round-preserved : goal.run_while-loop-round-preserved
run_while-loop-round-preserved g t c =
    let m = running c.args.module.now c.args.room in
    let l = c.loop-round in
    let q = test m (term_view c.args.condition.now) in
    let b = scoped (block m (block_view c.args.body.now)) in
    reaches_more _ (reaches_as (round_true _ _ _ c.if-holds.true) (reaches_more _ (reaches_as (rounds_open c.args.machine.now.meter l.round q b c.loop-round-test.true) l.invariant) c.in_ok-holds.ensures)) (runs_to (ap (λ e. came (end_of e)) c.in-Next.is) c.in_ok-run_scope.ensures)

pub run_while-returns : goal.run_while-returns
run_while-returns g t c =
    let m = running c.args.module.now c.args.room in
    let l = c.loop-round in
    let q = test m (term_view c.args.condition.now) in
    let b = scoped (block m (block_view c.args.body.now)) in
    reaches_runs (reaches_as (rounds_end c.args.machine.now.meter l.round q b c.loop-round-test.false) l.invariant) (computed (spend_computes _ _))

pub run_for-returns-in_err-data : goal.run_for-returns-in_err-data
run_for-returns-in_err-data g t c =
    stops end_of _ _ _ c.from_residual.ensures.1 c.in_err-data.ensures

pub run_for-returns-in_err-items : goal.run_for-returns-in_err-items
run_for-returns-in_err-items g t c =
    then_runs _ c.in_ok-data.ensures
    (stops end_of _ _ _ c.from_residual-in_err-items.ensures.1 (computed (c.in_err-items.ensures _)))

pub run_for-items-init : goal.run_for-items-init
run_for-items-init g t c =
    let m = running c.args.module.now c.args.room in
    let f = with_name c.args.name.now (block m (block_view c.args.body.now)) in
    record {
      reaches = reaches_as (ap (λ l. walk (trees l) f) (sym c.into_iter-items.ensures.rest)) (reaches_more _ (reaches_more _ reaches_itself c.in_ok-data.ensures) (computed (c.in_ok-items.ensures _)));
      count = ap length c.into_iter-items.ensures.rest ∙ omega (arith, c.into_iter-items.ensures.len, c.in_ok-items.items.ok.0);
    }

pub run_for-returns-in_err-run_with : goal.run_for-returns-in_err-run_with
run_for-returns-in_err-run_with g t c =
    let m = running c.args.module.now c.args.room in
    let f = with_name c.args.name.now (block m (block_view c.args.body.now)) in
    reaches_runs (reaches_as (ap (λ l. walk (trees l) f) (c.next.ensures.items ∙ ap (λ o. option_to_list o ++ into_iter_items c.next.new.self) c.in-Some.is)) c.items.invariant.reaches)
    (stops end_of _ _ _ c.from_residual-in_err-run_with.ensures.1 c.in_err-run_with.ensures)

pub run_for-returns-in-Leaves : goal.run_for-returns-in-Leaves
run_for-returns-in-Leaves g t c =
    let m = running c.args.module.now c.args.room in
    let f = with_name c.args.name.now (block m (block_view c.args.body.now)) in
    reaches_runs (reaches_as (ap (λ l. walk (trees l) f) (c.next.ensures.items ∙ ap (λ o. option_to_list o ++ into_iter_items c.next.new.self) c.in-Some.is)) c.items.invariant.reaches)
    (then_runs _ (runs_to (ap (λ e. came (end_of e)) c.in-Leaves.is) c.in_ok-run_with.ensures)
    (computed (pure_computes _ _)))

pub run_for-items-preserved : goal.run_for-items-preserved
run_for-items-preserved g t c =
    let m = running c.args.module.now c.args.room in
    let f = with_name c.args.name.now (block m (block_view c.args.body.now)) in
    record {
      reaches = reaches_more _ (reaches_as (ap (λ l. walk (trees l) f) (c.next.ensures.items ∙ ap (λ o. option_to_list o ++ into_iter_items c.next.new.self) c.in-Some.is)) c.items.invariant.reaches) (runs_to (ap (λ e. came (end_of e)) c.in-Next.is) c.in_ok-run_with.ensures);
      count = let step = c.in-Some.ensures.cases in omega (arith, ap length step.0, step.1, c.items.invariant.count);
    }

pub run_for-returns : goal.run_for-returns
run_for-returns g t c =
    let m = running c.args.module.now c.args.room in
    let f = with_name c.args.name.now (block m (block_view c.args.body.now)) in
    let none = c.in_default.ensures.cases in
    reaches_runs (reaches_as (ap (λ l. walk (trees l) f) (no_items_left _ (c.items.invariant.count ∙ none.0))) c.items.invariant.reaches) (computed (pure_computes _ _))

pub run_return-returns-in_err-data-in-Some : goal.run_return-returns-in_err-data-in-Some
run_return-returns-in_err-data-in-Some g t c =
    let m = running c.args.module.now c.args.room in
    runs_as (ap (λ v. form m (return_view v)) c.in-Some.is) (stops end_of _ _ _ c.from_residual.ensures.1 c.in_err-data-in-Some.ensures)

pub run_return-returns-in_ok-data-in-Some : goal.run_return-returns-in_ok-data-in-Some
run_return-returns-in_ok-data-in-Some g t c =
    let m = running c.args.module.now c.args.room in
    runs_as (ap (λ v. form m (return_view v)) c.in-Some.is) (then_runs _ c.in_ok-data-in-Some.ensures (computed (pure_computes _ _)))

pub run_return-returns-in-None : goal.run_return-returns-in-None
run_return-returns-in-None g t c =
    let m = running c.args.module.now c.args.room in
    runs_as (ap (λ v. form m (return_view v)) c.in-None.is) (computed (pure_as _ _ (ap leaves (sym tree-Null))))

pub run_throw-returns-in_err-data : goal.run_throw-returns-in_err-data
run_throw-returns-in_err-data g t c =
    stops end_of _ _ _ c.from_residual.ensures.1 c.in_err-data.ensures

pub run_throw-returns : goal.run_throw-returns
run_throw-returns g t c =
    then_runs _ c.in_ok-data.ensures
    (computed (thrown_computes _ _ c.throw_data.ensures))

pub run_try-returns-in-Ok : goal.run_try-returns-in-Ok
run_try-returns-in-Ok g t c =
    caught_came _ c.in-Ok.ensures

pub run_try-returns-in_ok-data-in-Throws : goal.run_try-returns-in_ok-data-in-Throws
run_try-returns-in_ok-data-in-Throws g t c =
    caught_throws _ (runs_to (ap (λ e. halted (halt e)) c.in-Throws.is ∙ ap (λ t. halted (throws t)) (sym c.in_ok-data-in-Throws.ensures)) c.in-Err.ensures) c.run_with.ensures

pub run_try-returns-in-Spent : goal.run_try-returns-in-Spent
run_try-returns-in-Spent g t c =
    caught_spends _ (runs_to (ap (λ e. halted (halt e)) c.in-Spent.is) c.in-Err.ensures)

pub run_value-returns-in_err-run_expr : goal.run_value-returns-in_err-run_expr
run_value-returns-in_err-run_expr g t c =
    stops end_of _ _ _ c.from_residual.ensures.1 c.in_err-run_expr.ensures

pub run_value-returns : goal.run_value-returns
run_value-returns g t c =
    then_runs _ c.in_ok-run_expr.ensures
    (computed (pure_computes _ _))

pub run_scope-returns : goal.run_scope-returns
run_scope-returns g t c =
    scoped_as (names_left _ _ _ c.len-names.result c.len-names.ensures c.truncate.ensures) c.run_block-end.ensures

pub run_with-returns : goal.run_with-returns
run_with-returns g t c =
    scoped_as (names_left _ _ _ c.len-names.result c.len-names.ensures c.truncate.ensures) (then_runs _ (computed (bind_as _ _ _ (one_name_more _ _ _ _ c.in_ok-bind.ensures))) c.run_block-end.ensures)

pub run_block-returns-in_err-run_stmt : goal.run_block-returns-in_err-run_stmt
run_block-returns-in_err-run_stmt g t c =
    let m = running c.args.module.now c.args.room in
    reaches_runs (reaches_as (block_open m c.args.body.now c.loop-statement.statement-index c.statement-item.result c.loop-statement-test.true c.statement-item.is) c.loop-statement.invariant)
    (stops end_of _ _ _ c.from_residual.ensures.1 c.in_err-run_stmt.ensures)

pub run_block-returns-in-Leaves : goal.run_block-returns-in-Leaves
run_block-returns-in-Leaves g t c =
    let m = running c.args.module.now c.args.room in
    reaches_runs (reaches_as (block_open m c.args.body.now c.loop-statement.statement-index c.statement-item.result c.loop-statement-test.true c.statement-item.is) c.loop-statement.invariant)
    (then_runs _ (runs_to (ap (λ e. came (end_of e)) c.in-Leaves.is) c.in_ok-run_stmt.ensures)
    (computed (pure_computes _ _)))

pub run_block-loop-statement-preserved : goal.run_block-loop-statement-preserved
run_block-loop-statement-preserved g t c =
    let m = running c.args.module.now c.args.room in
    reaches_more _ (reaches_as (block_open m c.args.body.now c.loop-statement.statement-index c.statement-item.result c.loop-statement-test.true c.statement-item.is) c.loop-statement.invariant) (runs_to (ap (λ e. came (end_of e)) c.in-Next.is) c.in_ok-run_stmt.ensures)

pub run_block-returns : goal.run_block-returns
run_block-returns g t c =
    let m = running c.args.module.now c.args.room in
    reaches_runs (reaches_as (block_end m c.args.body.now c.loop-statement.statement-index c.loop-statement-test.false) c.loop-statement.invariant) (computed (pure_computes _ _))

pub run_block-run_stmt-requires : goal.run_block-run_stmt-requires
run_block-run_stmt-requires g t c =
    let falls = statement_falls c.args.body.now c.loop-statement.statement-index c.statement-item.result c.loop-statement-test.true c.statement-item.is in
    λ κs h. (omega (arith, falls, c.decreases), search rules)

pub invoke-returns-then-room-eq0 : goal.invoke-returns-then-room-eq0
invoke-returns-then-room-eq0 g t c =
    let rs = routines c.args.module.now in
    let vs = trees c.args.args.items in
    runs_as (calls_none rs c.args.room c.args.f.now vs (omega arith)) (computed (bad_computes _ TooDeep c.bad.ensures))

pub invoke-returns-in-None : goal.invoke-returns-in-None
invoke-returns-in-None g t c =
    let rs = routines c.args.module.now in
    let vs = trees c.args.args.items in
    let m = running c.args.module.now (c.args.room - 1) in
    let found = ap (λ y. find_routine y rs) (sym c.as_str.ensures) ∙ sym c.in-None.ensures in
    runs_as (calls_more rs c.args.room (c.args.room - 1) c.args.f.now vs (omega arith) ∙ ap (λ o. enter m o vs) found) (computed (bad_computes _ WrongKind c.bad-in-None.ensures))

pub invoke-returns-in-Ok : goal.invoke-returns-in-Ok
invoke-returns-in-Ok g t c =
    let rs = routines c.args.module.now in
    let vs = trees c.args.args.items in
    let m = running c.args.module.now (c.args.room - 1) in
    let found = ap (λ y. find_routine y rs) (sym c.as_str.ensures) ∙ sym c.in-Some.ensures in
    let own = sym (ap (λ v. named_trees v) c.replace-outer.ensures.after ∙ (c.in_ok-own-in-Some.ensures ∙ ap (λ l. pairs l vs) c.as_slice.ensures)) in
    let back = ap (λ v. named_trees v) c.replace-outer.ensures.value in
    let body = ap (λ l. block m (block_view l)) (sym c.as_slice-body.ensures) in
    runs_as (calls_more rs c.args.room (c.args.room - 1) c.args.f.now vs (omega arith) ∙ ap (λ o. enter m o vs) found)
    (within_as own back (then_runs _ (runs_as body c.in-Ok.ensures) (computed (pure_as _ _ (sym c.into_data.ensures)))))

pub invoke-returns-in-Err : goal.invoke-returns-in-Err
invoke-returns-in-Err g t c =
    let rs = routines c.args.module.now in
    let vs = trees c.args.args.items in
    let m = running c.args.module.now (c.args.room - 1) in
    let found = ap (λ y. find_routine y rs) (sym c.as_str.ensures) ∙ sym c.in-Some.ensures in
    let own = sym (ap (λ v. named_trees v) c.replace-outer.ensures.after ∙ (c.in_ok-own-in-Some.ensures ∙ ap (λ l. pairs l vs) c.as_slice.ensures)) in
    let back = ap (λ v. named_trees v) c.replace-outer.ensures.value in
    let body = ap (λ l. block m (block_view l)) (sym c.as_slice-body.ensures) in
    runs_as (calls_more rs c.args.room (c.args.room - 1) c.args.f.now vs (omega arith) ∙ ap (λ o. enter m o vs) found)
    (within_as own back (stop_runs _ (runs_as body c.in-Err.ensures)))

pub invoke-run_block-end-requires : goal.invoke-run_block-end-requires
invoke-run_block-end-requires g t c =
    let rs = routines c.args.module.now in
    let vs = trees c.args.args.items in
    let found = ap (λ y. find_routine y rs) (sym c.as_str.ensures) ∙ sym c.in-Some.ensures in
    let body = ap (λ l. block_weight (block_view l)) c.as_slice-body.ensures in
    let falls = calls_fall (c.args.room - 1) c.args.room (routines_weight rs) (block_weight (block_view c.as_slice-body.result.now)) (omega arith) (omega (arith, body, routine_falls rs c.args.f.now _ found)) in
    λ κs h. (omega (arith, falls, c.decreases), search rules)

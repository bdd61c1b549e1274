use Rattle.std.proofs.Common.{◌≡◌, ap, sym, ◌∙◌, Some, None, map}
use Rattle.jessie_semantics.specs.host_data.View.{tree, trees, named_trees}
use Rattle.jessie_index.specs.jessie_grammar.Syntax.{routines, variable_names}
use Rattle.jessie_index.specs.jessie_values.Reasons.{bad_step}
use Rattle.jessie_index.specs.jessie_values.declared.reasons.Reason.TheVariants.{WrongKind}
use Rattle.jessie_semantics.specs.Actions.{first_of, look, paid}
use Rattle.jessie_semantics.specs.Rules.{find_routine, function_named}
use Rattle.jessie_semantics.proofs.Runs.{then_computes, named_computes, computes_as}
use Rattle.jessie_index.specs.Places as locals
use Rattle.jessie_machine.specs.Machine.{place, current, changes, local_at, value_at}
use Rattle.jessie_machine.proofs.Exits.{stops_here}
use Rattle.jessie_machine.proofs.Places.{same_place, local_look, variable_look}
use Rattle.jessie_machine.proofs.names.read_name.Goals as goal

pub returns-in_err-take-clause-does : goal.returns-in_err-take-clause-does
returns-in_err-take-clause-does c = λ room. stops_here tree _ _ _ c.from_residual.ensures.1 (c.in_err-take.ensures.does _ _)

pub returns-in-Some-clause-does : goal.returns-in-Some-clause-does
returns-in-Some-clause-does c = λ room.
    let x = c.args.name.now in
    let t = bad_step WrongKind in
    let m = c.take.new.machine in
    let other = function_named (find_routine x (routines c.args.module.now)) in
    let globals = current (variable_names c.args.module.now) (trees c.args.values.now) (changes m.changed.items) in
    let here : Some c.in-Some.i ≡ place x (map (λ b. b.0) m.locals) =
    c.in-Some.ensures.place ∙ (ap (λ y. locals.place y (map (λ b. b.0) m.locals)) c.as_str.ensures ∙ same_place x (map (λ b. b.0) m.locals)) in
    let found = local_look x m.locals (Some c.in-Some.i) here in
    let value = ap (λ bs. local_at (named_trees bs) c.in-Some.i) (sym c.as_slice.ensures) in
    then_computes _ (c.in_ok-take.ensures.does _ _) (then_computes _ (named_computes x other _)
    (computes_as (ap (λ o. paid t (first_of o (first_of (look x globals) other))) found ∙ ap (λ v. paid t (Some v)) value) (c.pay_local.ensures.does t _ _)))

pub returns-in-Some-variable_place-clause-does : goal.returns-in-Some-variable_place-clause-does
returns-in-Some-variable_place-clause-does c = λ room.
    let x = c.args.name.now in
    let t = bad_step WrongKind in
    let m = c.take.new.machine in
    let xs = variable_names c.args.module.now in
    let vs = trees c.args.values.now in
    let other = function_named (find_routine x (routines c.args.module.now)) in
    let globals = current xs vs (changes m.changed.items) in
    let none : None ≡ place x (map (λ b. b.0) m.locals) =
    c.in_default.ensures.place ∙ (ap (λ y. locals.place y (map (λ b. b.0) m.locals)) c.as_str.ensures ∙ same_place x (map (λ b. b.0) m.locals)) in
    let here : Some c.in-Some-variable_place.i ≡ place x xs =
    c.in-Some-variable_place.ensures ∙ (ap (λ y. place y (map (λ v. v.name) c.variables.result.now)) c.as_str-2.ensures ∙ ap (λ vs. place x (map (λ v. v.name) vs)) c.variables.ensures) in
    let passed = local_look x m.locals None none in
    let found = variable_look x xs vs (changes m.changed.items) (Some c.in-Some-variable_place.i) here in
    let value = ap (λ cs. value_at vs (changes cs) c.in-Some-variable_place.i) (sym c.as_slice-changed.ensures.value) in
    then_computes _ (c.in_ok-take.ensures.does _ _) (then_computes _ (named_computes x other _)
    (computes_as (ap (λ o. paid t (first_of o (first_of (look x globals) other))) passed ∙ (ap (λ o. paid t (first_of o other)) found ∙ ap (λ v. paid t (Some v)) value)) (c.pay_variable.ensures.does t _ _)))

pub returns-clause-does : goal.returns-clause-does
returns-clause-does c = λ room.
    let x = c.args.name.now in
    let t = bad_step WrongKind in
    let m = c.take.new.machine in
    let xs = variable_names c.args.module.now in
    let vs = trees c.args.values.now in
    let rs = routines c.args.module.now in
    let other = function_named (find_routine x rs) in
    let globals = current xs vs (changes m.changed.items) in
    let none : None ≡ place x (map (λ b. b.0) m.locals) =
    c.in_default.ensures.place ∙ (ap (λ y. locals.place y (map (λ b. b.0) m.locals)) c.as_str.ensures ∙ same_place x (map (λ b. b.0) m.locals)) in
    let nowhere : None ≡ place x xs =
    c.in_default-variable_place.ensures ∙ (ap (λ y. place y (map (λ v. v.name) c.variables.result.now)) c.as_str-2.ensures ∙ ap (λ vs. place x (map (λ v. v.name) vs)) c.variables.ensures) in
    let passed = local_look x m.locals None none in
    let found = variable_look x xs vs (changes m.changed.items) None nowhere in
    let function = ap (λ y. find_routine y rs) (sym c.as_str-3.ensures) ∙ sym c.function.ensures in
    then_computes _ (c.in_ok-take.ensures.does _ _) (then_computes _ (named_computes x other _)
    (computes_as (ap (λ o. paid t (first_of o (first_of (look x globals) other))) passed ∙ (ap (λ o. paid t (first_of o other)) found ∙ ap (λ r. paid t (function_named r)) function)) (c.pay_function.ensures.does _ _)))

use Rattle.std.proofs.Common.{◌≡◌, ap, ◌∙◌, Some, None, map}
use Rattle.jessie_semantics.specs.host_data.View.{tree}
use Rattle.jessie_index.specs.jessie_grammar.Syntax.{variable_names}
use Rattle.jessie_index.specs.jessie_values.Reasons.{bad_step}
use Rattle.jessie_index.specs.jessie_values.declared.reasons.Reason.TheVariants.{WrongKind}
use Rattle.jessie_semantics.specs.Actions.{rebind}
use Rattle.jessie_index.specs.Places as locals
use Rattle.jessie_machine.specs.Machine.{place}
use Rattle.jessie_machine.proofs.Places.{same_place, local_bound, local_rebind, variable_bound, put_local, put_variable, put_nowhere}
use Rattle.jessie_machine.proofs.names.assign_name.Goals as goal

pub returns-in-Some-clause-does : goal.returns-in-Some-clause-does
returns-in-Some-clause-does c = λ values.
    let x = c.args.name.now in
    let bs = c.args.machine.now.locals in
    let here : Some c.in-Some.i ≡ place x (map (λ b. b.0) bs) =
    c.in-Some.ensures.place ∙ (ap (λ y. locals.place y (map (λ b. b.0) bs)) c.as_str.ensures ∙ same_place x (map (λ b. b.0) bs)) in
    put_local (bad_step WrongKind) x (tree c.args.«data») _ (local_bound x bs (Some c.in-Some.i) here) (c.set_local.ensures ∙ local_rebind x (tree c.args.«data») bs c.in-Some.i here)

pub returns-in-Some-variable_place-clause-does : goal.returns-in-Some-variable_place-clause-does
returns-in-Some-variable_place-clause-does c = λ values.
    let x = c.args.name.now in
    let bs = c.args.machine.now.locals in
    let xs = variable_names c.args.module.now in
    let none : None ≡ place x (map (λ b. b.0) bs) =
    c.in_default.ensures.place ∙ (ap (λ y. locals.place y (map (λ b. b.0) bs)) c.as_str.ensures ∙ same_place x (map (λ b. b.0) bs)) in
    let here : Some c.in-Some-variable_place.i ≡ place x xs =
    c.in-Some-variable_place.ensures ∙ (ap (λ y. place y (map (λ v. v.name) c.variables.result.now)) c.as_str-2.ensures ∙ ap (λ vs. place x (map (λ v. v.name) vs)) c.variables.ensures) in
    put_variable (bad_step WrongKind) x (tree c.args.«data») _ (local_bound x bs None none) (variable_bound x xs values _ (Some c.in-Some-variable_place.i) here)
    (c.set_variable.ensures x xs values here ∙ ap (rebind x (tree c.args.«data»)) (c.in_ok-make_place.ensures.same xs values))

pub returns-clause-does : goal.returns-clause-does
returns-clause-does c = λ values.
    let x = c.args.name.now in
    let bs = c.args.machine.now.locals in
    let xs = variable_names c.args.module.now in
    let none : None ≡ place x (map (λ b. b.0) bs) =
    c.in_default.ensures.place ∙ (ap (λ y. locals.place y (map (λ b. b.0) bs)) c.as_str.ensures ∙ same_place x (map (λ b. b.0) bs)) in
    let nowhere : None ≡ place x xs =
    c.in_default-variable_place.ensures ∙ (ap (λ y. place y (map (λ v. v.name) c.variables.result.now)) c.as_str-2.ensures ∙ ap (λ vs. place x (map (λ v. v.name) vs)) c.variables.ensures) in
    put_nowhere _ WrongKind x (tree c.args.«data») _ (local_bound x bs None none) (variable_bound x xs values _ None nowhere) c.bad.ensures

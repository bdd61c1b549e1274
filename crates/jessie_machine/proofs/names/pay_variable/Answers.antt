use Rattle.std.proofs.Common.{ap, sym, ◌∙◌, Some}
use Rattle.std.specs.Prelude.{slice_get}
use Rattle.jessie_semantics.specs.host_data.Tree.{null}
use Rattle.jessie_semantics.specs.host_data.View.{trees}
use Rattle.jessie_semantics.proofs.host_data.Views.{tree-Null}
use Rattle.jessie_semantics.specs.Actions.{paid}
use Rattle.jessie_semantics.proofs.Runs.{computes_as}
use Rattle.jessie_machine.specs.Machine.{changes, or_else}
use Rattle.jessie_machine.proofs.Places.{value_split}
use Rattle.jessie_machine.proofs.names.pay_variable.Goals as goal

pub returns-in-Some-clause-does : goal.returns-in-Some-clause-does
returns-in-Some-clause-does c = λ t locals globals.
    let vs = trees c.args.values.now in
    let given = ap (λ o. or_else o (or_else (slice_get vs c.args.i) null)) (sym c.in-Some.ensures) in
    computes_as (ap (λ v. paid t (Some v)) (value_split vs (changes c.args.changed.now) c.args.i ∙ given)) (c.pay_copy.ensures.does t locals globals)

pub returns-in-Some-old_value-clause-does : goal.returns-in-Some-old_value-clause-does
returns-in-Some-old_value-clause-does c = λ t locals globals.
    let vs = trees c.args.values.now in
    let given = ap (λ o. or_else o (or_else (slice_get vs c.args.i) null)) (sym c.in_default.ensures) in
    let old = ap (λ o. or_else o null) (sym c.in-Some-old_value.ensures) in
    computes_as (ap (λ v. paid t (Some v)) (value_split vs (changes c.args.changed.now) c.args.i ∙ (given ∙ old))) (c.pay_copy-in-Some-old_value.ensures.does t locals globals)

pub returns-in-None-clause-does : goal.returns-in-None-clause-does
returns-in-None-clause-does c = λ t locals globals.
    let vs = trees c.args.values.now in
    let given = ap (λ o. or_else o (or_else (slice_get vs c.args.i) null)) (sym c.in_default.ensures) in
    let old = ap (λ o. or_else o null) (sym c.in-None.ensures) in
    computes_as (ap (λ v. paid t (Some v)) (value_split vs (changes c.args.changed.now) c.args.i ∙ (given ∙ (old ∙ sym tree-Null)))) (c.pay_copy-in-None.ensures.does t locals globals)

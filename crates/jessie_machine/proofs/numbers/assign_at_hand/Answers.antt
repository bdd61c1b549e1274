use Rattle.std.proofs.Common.{◌≡◌, FitsSigned, refl, ap, ◌∙◌, Some, map}
use Rattle.std.specs.Int.{w128}
use Rattle.std.proofs.Math.Facts.{to_z-of_z}
use Rattle.jessie_semantics.specs.host_data.Tree.{number}
use Rattle.jessie_semantics.specs.host_data.View.{named_trees}
use Rattle.jessie_semantics.proofs.host_data.Views.{tree-Number}
use Rattle.jessie_index.specs.jessie_values.Reasons.{bad_step}
use Rattle.jessie_index.specs.jessie_values.declared.reasons.Reason.TheVariants.{WrongKind}
use Rattle.jessie_semantics.specs.Rules.{expr}
use Rattle.jessie_semantics.proofs.Runs.{then_computes, pure_computes, computes_as}
use Rattle.jessie_index.specs.Places as locals
use Rattle.jessie_machine.specs.Machine.{place, set_value}
use Rattle.jessie_machine.proofs.Places.{same_place, local_bound, local_rebind, put_local}
use Rattle.jessie_machine.proofs.AtHand.{chain_at}
use Rattle.jessie_machine.proofs.numbers.assign_at_hand.Goals as goal

pub returns-clause-does : goal.returns-clause-does
returns-clause-does c = λ m names values t.
    let x = c.args.name.now in
    let bs = c.args.machine.now.locals in
    let i = c.in-Some.i in
    let n = c.chain_number.new.number in
    let fits : FitsSigned w128 n = c.if-not-chain_number.ensures.fits refl in
    let here : Some i ≡ place x (map (λ b. b.0) bs) =
    c.in-Some.ensures.place ∙ (ap (λ y. locals.place y (map (λ b. b.0) bs)) c.as_str.ensures ∙ same_place x (map (λ b. b.0) bs)) in
    then_computes _ (computes_as (ap (expr m) (chain_at _ _ _ _ _ c.in-Chain.is c.get.ensures c.as_slice.ensures)) (c.if-not-chain_number.ensures.does m refl _))
    (then_computes _ (put_local (bad_step WrongKind) x (number n) _ (local_bound x bs (Some i) here) (c.set_local.ensures ∙ (ap (set_value (named_trees bs) i) (tree-Number _ ∙ ap number (to_z-of_z fits)) ∙ local_rebind x (number n) bs i here))) (pure_computes _ _))

use Rattle.std.proofs.Common.{◌≡◌, ap, ◌∙◌, Some, map}
use Rattle.jessie_semantics.specs.host_data.View.{tree, named_trees}
use Rattle.jessie_semantics.proofs.host_data.Views.{tree-Number}
use Rattle.jessie_index.specs.Places as locals
use Rattle.jessie_machine.specs.Machine.{place}
use Rattle.jessie_machine.proofs.Places.{same_place}
use Rattle.jessie_machine.proofs.AtHand.{local_number, name_paid}
use Rattle.jessie_machine.proofs.numbers.local_number.Goals as goal

pub returns-in-Number-clause-does : goal.returns-in-Number-clause-does
returns-in-Number-clause-does c = λ m.
    let x = c.args.name.now in
    let all = c.args.locals.now in
    let found : Some c.in_ok-i.i ≡ place x (map (λ b. b.0) all) =
    c.in_ok-i.ensures.place ∙ (ap (λ y. locals.place y (map (λ b. b.0) all)) c.as_str.ensures ∙ same_place x (map (λ b. b.0) all)) in
    let number = local_number x c.as_slice.result.now all c.in_ok-i.i c.index-as_slice-i.result c.in-Number.number c.as_slice.ensures found c.in_ok-i.ensures.within c.index-as_slice-i.is (ap tree c.in-Number.is ∙ tree-Number c.in-Number.number) in
    name_paid c.paid_number.result m x c.in-Number.number (named_trees all) _ _ number c.paid_number.ensures.value c.paid_number.ensures.paid

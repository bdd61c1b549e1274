use Rattle.std.proofs.Common.{ℕ, List, ◌++◌, ap, ◌∙◌, sym, None, Some}
use Rattle.std.proofs.lemmas.Slice.Eq.{strip_prefix_is}
use Rattle.std.proofs.lemmas.Bool.Decides.{Decides-eqb}
use Rattle.turn_stores.proofs.Texts.{element_found, element_all, element_none}
use Rattle.turn_stores.proofs.invitations.element.number_of_element.Goals as goal

pub returns-in-Some-clause-found : goal.returns-in-Some-clause-found
returns-in-Some-clause-found c =
    let whole = strip_prefix_is Decides-eqb c.args.bytes.now c.as_slice.result.now (Some c.in-Some.digits) c.in-Some.ensures.cases in
    element_found c.args.bytes.now c.in-Some.digits.now c.number_of_digits.result (whole ∙ ap (λ (p : List ℕ). p ++ c.in-Some.digits.now) c.as_slice.ensures) c.number_of_digits.ensures

pub returns-in-Some-clause-all : goal.returns-in-Some-clause-all
returns-in-Some-clause-all c =
    let whole = strip_prefix_is Decides-eqb c.args.bytes.now c.as_slice.result.now (Some c.in-Some.digits) c.in-Some.ensures.cases in
    element_all c.args.bytes.now c.in-Some.digits.now c.number_of_digits.result (whole ∙ ap (λ (p : List ℕ). p ++ c.in-Some.digits.now) c.as_slice.ensures) c.number_of_digits.ensures

pub returns-in-None-clause-all : goal.returns-in-None-clause-all
returns-in-None-clause-all c = λ n small is.
    let other = strip_prefix_is Decides-eqb c.args.bytes.now c.as_slice.result.now None c.in-None.ensures.cases in
    absurd (element_none c.args.bytes.now (λ rest e. other rest (e ∙ ap (λ (p : List ℕ). p ++ rest) (sym c.as_slice.ensures))) n is)

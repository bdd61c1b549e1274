use Rattle.std.proofs.Common.{◌≡◌, ap, sym, ◌∙◌}
use Rattle.std.proofs.lemmas.Slice.Eq.{bytes_eq-Decides}
use Rattle.std.specs.Fmt.{decimal}
use Rattle.row_forms.proofs.Decimals.{parsed_none, parsed_some}
use Rattle.row_forms.proofs.numbers.decimal_in.Goals as goal

pub returns-in_err-number-clause-none : goal.returns-in_err-number-clause-none
returns-in_err-number-clause-none c = λ none n small same. parsed_none c.args.text.now c.parse.result c.parse.ensures.value.0 (sym c.ok.ensures.value ∙ c.in_err-number.was) n small same

pub returns-else-eq-clause-none : goal.returns-else-eq-clause-none
returns-else-eq-clause-none c = λ none n small same.
    let is : c.in_ok-number.number ≡ n = parsed_some c.args.text.now c.parse.result c.in_ok-number.number c.parse.ensures.value.0 (sym c.ok.ensures.value ∙ c.in_ok-number.was) n small same in
    let text : c.format.result.now ≡ c.args.text.now = c.format.ensures.text ∙ ap decimal is ∙ sym same in
    let equal = (bytes_eq-Decides c.format.result.now c.args.text.now).1 text in
    absurd (cc (equal, c.if-eq.ensures))

use Rattle.std.proofs.Common.{◌≡◌, refl, ap, sym, ◌∙◌, arith}
use Rattle.std.specs.Fmt.{decimal}
use Rattle.row_forms.proofs.Decimals.{one_number}
use Rattle.row_forms.proofs.Words.{behind_word}
use Rattle.row_forms.proofs.names.number_after.Goals as goal

pub returns-in_err-number-clause-none : goal.returns-in_err-number-clause-none
returns-in_err-number-clause-none c = λ none named.
    c.in_err-number.ensures.none refl named.number (omega (arith, named.below, c.ranges.end.fits))
    (behind_word c.args.word.now c.in_ok-behind.field-0.now (decimal named.number) (sym c.in_ok-behind.ensures.some ∙ named.is))

pub returns-else-number-end-clause-none : goal.returns-else-number-end-clause-none
returns-else-number-end-clause-none c = λ none named.
    let rest : c.in_ok-behind.field-0.now ≡ decimal named.number = behind_word c.args.word.now c.in_ok-behind.field-0.now (decimal named.number) (sym c.in_ok-behind.ensures.some ∙ named.is) in
    let digits : decimal c.in_ok-number.number ≡ decimal named.number = sym c.in_ok-number.ensures.some ∙ rest in
    let same : c.in_ok-number.number ≡ named.number = one_number c.in_ok-number.number named.number c.in_ok-number.ensures.fits (omega (arith, named.below, c.ranges.end.fits)) digits in
    absurd (omega (arith, same, named.below, c.if-number-end.false))

use Rattle.std.proofs.Common.{refl, ap, subst, sym, ◌∙◌}
use Rattle.std.proofs.Math.Facts.{to_z-of_z}
use Rattle.std.specs.Fmt.{signed_decimal}
use Rattle.host_text.specs.Numbers.{number_in}
use Rattle.turn_rows.specs.Form.{IsWideNumber}
use Rattle.row_forms.proofs.Decimals.{narrow_text, no_text, read_fits, wide_text}
use Rattle.row_forms.proofs.numbers.is_wide_text.Goals as goal

pub returns-in_default : goal.returns-in_default
returns-in_default c = no_text c.args.text.now _ (ap number_in (sym c.as_bytes.ensures.value) ∙ sym c.read_number.ensures ∙ c.in_default.is) refl

pub returns-then-is_wide : goal.returns-then-is_wide
returns-then-is_wide c =
    let read = ap number_in (sym c.as_bytes.ensures.value) ∙ sym c.read_number.ensures ∙ c.in-Some.is in
    let same = to_z-of_z (read_fits c.args.text.now c.in-Some.number read) in
    wide_text c.args.text.now c.in-Some.number c.format.result.now c.eq.result read (subst IsWideNumber same (c.is_wide.ensures.0 c.if-is_wide.true)) (c.format.ensures.text ∙ ap signed_decimal same) c.eq.ensures

pub returns-else-is_wide : goal.returns-else-is_wide
returns-else-is_wide c =
    let read = ap number_in (sym c.as_bytes.ensures.value) ∙ sym c.read_number.ensures ∙ c.in-Some.is in
    let same = to_z-of_z (read_fits c.args.text.now c.in-Some.number read) in
    narrow_text c.args.text.now c.in-Some.number c.is_wide.result read c.if-is_wide.false (λ wide. c.is_wide.ensures.1 (subst IsWideNumber (sym same) wide))

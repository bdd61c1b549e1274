use Rattle.std.proofs.Common.{◌≡◌, ◌<◌, ◌≤◌, List, true, length, map, subst}
use Rattle.std.specs.Prelude.{◌↔◌}
use Rattle.row_records.specs.Views.{element_view, value_view}
use Rattle.row_records.specs.declared.rows.Element.{Element}
use Rattle.row_records.specs.declared.rows.PrintedValue.{PrintedValue}
use Rattle.row_records.specs.turn_rows.Form.{HasValueForm}
use Rattle.row_records.specs.turn_rows.Turns.{elements}
use Rattle.told_seats.proofs.PrintedValues.{IsOnce, none_once, once_tested, one_once, two_once}
use Rattle.told_seats.proofs.printed.is_one.Goals as goal

pub returns-in-Number : goal.returns-in-Number
returns-in-Number c = λ e form. rw c.in-Number.is (once_tested c.in-Number.n)

pub returns-in-empty : goal.returns-in-empty
returns-in-empty c = λ e form.
    let few : length c.in-Elements.elements.items < 1 = subst (λ (xs : List Element). length xs < 1) c.as_slice.ensures.value c.in-empty.len_below in
    rw c.in-Elements.is (λ h. absurd (cc), λ once. absurd (none_once c.in-Elements.elements.items few once))

pub returns-in-len1 : goal.returns-in-len1
returns-in-len1 c = λ e form.
    let tested = one_once c.as_slice.result.now c.element-item.result c.is_once.result c.in-len1.len_at_least c.in-len1.len_below c.element-item.is c.is_once.ensures in
    rw c.in-Elements.is (subst (λ (xs : List Element). c.is_once.result ≡ true ↔ IsOnce (elements (map element_view xs))) c.as_slice.ensures.value tested)

pub returns-in-len2-up : goal.returns-in-len2-up
returns-in-len2-up c = λ e form.
    let many : 2 ≤ length c.in-Elements.elements.items = subst (λ (xs : List Element). 2 ≤ length xs) c.as_slice.ensures.value c.in-len2-up.len_at_least in
    let formed : HasValueForm e (elements (map element_view c.in-Elements.elements.items)) = subst (λ (v : PrintedValue). HasValueForm e (value_view v)) c.in-Elements.is form in
    rw c.in-Elements.is (λ h. absurd (cc), λ once. absurd (two_once e c.in-Elements.elements.items many formed once))

use Rattle.std.proofs.Common.{◌≡◌, ◌<◌, arith, length, refl, sym, ◌∙◌}
use Rattle.std.proofs.lemmas.Bool.{false≢true}
use Rattle.row_records.specs.Views.{value_view}
use Rattle.row_records.specs.fair_rows.Values.{content_of}
use Rattle.row_records.specs.turn_rows.Form.{HasValueForm}
use Rattle.row_records.specs.turn_rows.declared.editions.Edition.{Edition}
use Rattle.told_rights.specs.Listing.{entries_of}
use Rattle.told_rights.proofs.Formed.{content_printed, printed_content}
use Rattle.told_rights.proofs.ValueElements.{just_these, not_as_long, other_one}
use Rattle.told_rights.proofs.contents.Contents.is.Goals as goal

other_length : (c : goal.Then-len-elements) (e : Edition) → HasValueForm e (value_view c.args.value.now) → c.args.self.now ≡ content_of (value_view c.args.value.now) → ⊥
other_length c e form is = not_as_long c.self.inside.counts.entries c.args.self.now e (value_view c.args.value.now) form c.self.invariant c.self.view_is c.len.ensures.ordered (λ same. c.if-len-elements.true (c.len.ensures.len ∙ same ∙ sym c.number_of_elements-elements.ensures)) is

pub returns-then-len-elements-clause-content : goal.returns-then-len-elements-clause-content
returns-then-len-elements-clause-content c = λ e form. (λ h. absurd (false≢true h), λ is. absurd (other_length c e form is))

pub returns-then-len-elements-clause-printed : goal.returns-then-len-elements-clause-printed
returns-then-len-elements-clause-printed c = λ e form. (λ h. absurd (false≢true h), λ p. absurd (other_length c e form (sym (printed_content c.args.self.now (value_view c.args.value.now) p))))

other_count : (c : goal.Then-count-number) (e : Edition) → HasValueForm e (value_view c.args.value.now) → c.args.self.now ≡ content_of (value_view c.args.value.now) → ⊥
other_count c e form is =
    let there : c.loop-index.index < length (entries_of (value_view c.args.value.now)) = omega (arith, c.loop-index-test.true, c.number_of_elements-elements.ensures) in
    other_one e c.args.self.now (value_view c.args.value.now) c.loop-index.index c.element_at-number.result.0.now c.element_at-number.result.1 form there c.element_at-number.ensures (λ s. c.if-count-number.true (c.count.ensures ∙ s)) is

pub returns-then-count-number-clause-content : goal.returns-then-count-number-clause-content
returns-then-count-number-clause-content c = λ e form. (λ h. absurd (false≢true h), λ is. absurd (other_count c e form is))

pub returns-then-count-number-clause-printed : goal.returns-then-count-number-clause-printed
returns-then-count-number-clause-printed c = λ e form. (λ h. absurd (false≢true h), λ p. absurd (other_count c e form (sym (printed_content c.args.self.now (value_view c.args.value.now) p))))

pub returns-clause-content : goal.returns-clause-content
returns-clause-content c = λ e form. (λ h. just_these c.self.inside.counts.entries c.args.self.now e (value_view c.args.value.now) form c.self.invariant c.self.view_is (sym c.len.ensures.len ∙ c.if-len-elements.false ∙ c.number_of_elements-elements.ensures) (λ j lt. c.loop-index.invariant j (omega (arith, lt, c.loop-index-test.false, c.number_of_elements-elements.ensures))), λ h. refl)

pub returns-clause-printed : goal.returns-clause-printed
returns-clause-printed c = λ e form. (λ h. content_printed e (value_view c.args.value.now) c.args.self.now form (sym (just_these c.self.inside.counts.entries c.args.self.now e (value_view c.args.value.now) form c.self.invariant c.self.view_is (sym c.len.ensures.len ∙ c.if-len-elements.false ∙ c.number_of_elements-elements.ensures) (λ j lt. c.loop-index.invariant j (omega (arith, lt, c.loop-index-test.false, c.number_of_elements-elements.ensures))))), λ h. refl)

use Rattle.std.proofs.Common.{◌<◌, arith, length, refl}
use Rattle.std.proofs.lemmas.Bool.{false≢true}
use Rattle.row_records.specs.Views.{value_view}
use Rattle.row_records.specs.amount_math.Content.{count}
use Rattle.told_rights.specs.Listing.{entries_of}
use Rattle.told_rights.proofs.ValueElements.{has_all, lacks_one}
use Rattle.told_rights.proofs.contents.Contents.contains.Goals as goal

pub returns-then-count-number : goal.returns-then-count-number
returns-then-count-number c = λ e form.
    let there : c.loop-index.index < length (entries_of (value_view c.args.value.now)) = omega (arith, c.loop-index-test.true, c.number_of_elements-index-end.ensures) in
    let less : count c.args.self.now c.element_at-number.result.0.now < c.element_at-number.result.1 = omega (arith, c.count.ensures, c.if-count-number.true) in
    (λ h. absurd (false≢true h), λ has. absurd (lacks_one e c.args.self.now (value_view c.args.value.now) c.loop-index.index c.element_at-number.result.0.now c.element_at-number.result.1 form there c.element_at-number.ensures less has))

pub returns : goal.returns
returns c = λ e form. (λ h. has_all c.args.self.now (value_view c.args.value.now) (λ j lt. c.loop-index.invariant j (omega (arith, lt, c.loop-index-test.false, c.number_of_elements-index-end.ensures))), λ h. refl)

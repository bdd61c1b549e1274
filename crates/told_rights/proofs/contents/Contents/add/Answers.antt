use Rattle.std.proofs.Common.{◌≤◌, ◌<◌, ◌+◌, ℕ, ap, arith, drop, length, ◌∙◌}
use Rattle.row_records.specs.Views.{value_view}
use Rattle.row_records.specs.amount_math.Content.{Content, count}
use Rattle.row_records.specs.amount_math.Entries.{tally}
use Rattle.told_rights.specs.Listing.{entries_of}
use Rattle.told_rights.proofs.ValueElements.{add_one, added_all, count_tally, own_tally}
use Rattle.told_rights.proofs.contents.Contents.add.Goals as goal

pub overflow_add-more : goal.overflow_add-more
overflow_add-more c =
    let v = value_view c.args.value.now in
    let k = c.element_at-number.result.0.now in
    let there : c.loop-index.index < length (entries_of v) = omega (arith, c.loop-index-test.true, c.number_of_elements-index-end.ensures) in
    let own = own_tally (entries_of v) c.loop-index.index k c.element_at-number.result.1 there c.element_at-number.ensures in
    let all = count_tally c.requires.form.0 v c.requires.form.1 k in
    let so_far = c.loop-index.invariant k in
    let room = c.requires.room k in
    let read = c.count.ensures in
    omega (arith, own, all, so_far, room, read)

pub loop-index-preserved : goal.loop-index-preserved
loop-index-preserved c =
    let v = value_view c.args.value.now in
    let there : c.loop-index.index < length (entries_of v) = omega (arith, c.loop-index-test.true, c.number_of_elements-index-end.ensures) in
    λ k.
    ap (λ (t : Content). count t k + tally (drop (c.loop-index.index + 1) (entries_of v)) k) c.in_ok-put.ensures
    ∙ add_one (entries_of v) c.loop-index.index c.element_at-number.result.0.now c.element_at-number.result.1 there c.element_at-number.ensures c.loop-index.self (λ q. count c.args.self.now q + tally (entries_of v) q) (c.count.result + c.element_at-number.result.1) (ap (λ (m : ℕ). m + c.element_at-number.result.1) c.count.ensures) c.loop-index.invariant k

pub returns : goal.returns
returns c =
    let v = value_view c.args.value.now in
    let past : length (entries_of v) ≤ c.loop-index.index = omega (arith, c.loop-index-test.false, c.number_of_elements-index-end.ensures) in
    added_all c.requires.form.0 v c.requires.form.1 c.loop-index.index c.loop-index.self c.args.self.now past c.loop-index.invariant

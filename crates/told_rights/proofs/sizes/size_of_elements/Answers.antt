use Rattle.std.proofs.Common.{◌≡◌, ◌≤◌, ◌<◌, ◌+◌, ◌*◌, length, take, map, sym, ◌∙◌, ap, arith}
use Rattle.std.proofs.lemmas.List.{length-map, take_all}
use Rattle.row_records.specs.Views.{element_view}
use Rattle.row_records.specs.amount_math.Entries.{most_of_key}
use Rattle.row_records.specs.amount_math.Totals.{weighed}
use Rattle.told_rights.proofs.Counts.{by_count, count_few, length_is, listing_of, size_is, size_more}
use Rattle.told_rights.proofs.sizes.size_of_elements.Goals as goal

pub overflow_add-total : goal.overflow_add-total
overflow_add-total c =
    let xs = c.args.elements.now in
    let i = c.loop-element.element-index in
    let lt : i < length xs = omega arith in
    let count = count_few xs i c.element-item.result lt c.element-item.is c.requires in
    let few : length xs ≤ 4096 = omega (arith, c.requires.few, length-map xs element_view) in
    omega (arith, c.loop-element.invariant.small, count, few, lt, c.from-total.ensures, c.count_of.ensures)

pub loop-element-preserved : goal.loop-element-preserved
loop-element-preserved c =
    let xs = c.args.elements.now in
    let i = c.loop-element.element-index in
    let lt : i < length xs = omega arith in
    let count = count_few xs i c.element-item.result lt c.element-item.is c.requires in
    let more = size_more xs i c.element-item.result lt c.element-item.is in
    record {
      so_far = omega (arith, more, c.loop-element.invariant.so_far, c.from-total.ensures, c.count_of.ensures);
      small = omega (arith, count, c.loop-element.invariant.small, c.from-total.ensures, c.count_of.ensures);
    }

pub returns : goal.returns
returns c =
    c.loop-element.invariant.so_far
    ∙ ap (weighed by_count) (take_all c.loop-element.element-index (listing_of c.args.elements.now) (omega (arith, length_is c.args.elements.now)))
    ∙ sym (size_is c.args.elements.now c.requires)

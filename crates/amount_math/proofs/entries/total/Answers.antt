use Rattle.std.proofs.Common.{ℕ, List, ap, sym, ◌∙◌, arith}
use Rattle.std.proofs.lemmas.List.{take_all}
use Rattle.amount_math.specs.Totals.{weighed}
use Rattle.amount_math.proofs.Together.{weighed_more, counted-of_entries}
use Rattle.amount_math.proofs.entries.total.Goals as goal

pub loop-entry-preserved : goal.loop-entry-preserved
loop-entry-preserved c =
    let i = c.loop-entry.entry-index in
    let entry = c.entry-item.result in
    let read = ap (λ (e : List ℕ × ℕ). e.1) c.entry-item.is in
    let bounded = (c.requires.each i entry c.loop-entry-test.true).bounded in
    let more = weighed_more (λ k n. n) c.args.entries.now i entry c.loop-entry-test.true in
    record {
      so_far = omega (arith, c.loop-entry.invariant.so_far, more, read, c.count.ensures, c.from-total.ensures);
      small = omega (arith, c.loop-entry.invariant.small, bounded, read, c.count.ensures, c.from-total.ensures);
    }

pub returns : goal.returns
returns c =
    c.loop-entry.invariant.so_far
    ∙ ap (weighed (λ k n. n)) (take_all c.loop-entry.entry-index c.args.entries.now c.loop-entry-test.false)
    ∙ sym (counted-of_entries c.args.entries.now c.requires)

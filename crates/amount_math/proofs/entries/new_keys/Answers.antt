use Rattle.std.proofs.Common.{◌≡◌, ℕ, List, ap, sym, ◌∙◌, arith}
use Rattle.std.proofs.lemmas.List.{take_all}
use Rattle.amount_math.specs.Totals.{weighed}
use Rattle.amount_math.specs.Content.{of_entries, count}
use Rattle.amount_math.specs.Entries.{tally}
use Rattle.amount_math.proofs.Listed.{count-tally}
use Rattle.amount_math.proofs.Together.{keys_of_sum, new_in, new_one, not_new, weighed_more}
use Rattle.amount_math.proofs.entries.new_keys.Goals as goal
use Rattle.amount_math.proofs.entries.new_keys.Goals.{then-count_of-eq0, else-count_of-eq0}

pub loop-entry-preserved : goal.loop-entry-preserved
loop-entry-preserved c =
    let content = of_entries c.args.entries.now in
    let entry = c.entry-item.result in
    let more = weighed_more (new_in content) c.args.more.now c.loop-entry.entry-index entry c.loop-entry-test.true in
    let read = ap (λ (e : List ℕ × ℕ). new_in content e.0 e.1) c.entry-item.is in
    let counted : count content entry.0 ≡ c.count_of.result = count-tally _ c.requires.entries entry.0 ∙ ap (tally c.args.entries.now) (sym c.key.ensures) ∙ sym c.count_of.ensures in
    elim c.if-count_of-eq0.branch [
      | then-count_of-eq0 w ↦
          let new = new_one content entry.0 entry.1 (counted ∙ w.if-count_of-eq0.true) in
          record {
            so_far = omega (arith, c.loop-entry.invariant.so_far, more, read, new, w.keys-is);
            small = omega (arith, c.loop-entry.invariant.small, w.keys-is);
          }
      | else-count_of-eq0 w ↦
          let old = not_new content entry.0 entry.1 (λ e. w.if-count_of-eq0.false (sym counted ∙ e)) in
          record {
            so_far = omega (arith, c.loop-entry.invariant.so_far, more, read, old, w.keys-is);
            small = omega (arith, c.loop-entry.invariant.small, w.keys-is);
          }
    ]

pub returns : goal.returns
returns c = omega (
  arith,
  c.loop-entry.invariant.so_far,
  ap (λ es. weighed (new_in (of_entries c.args.entries.now)) es) (take_all c.loop-entry.entry-index c.args.more.now c.loop-entry-test.false),
  keys_of_sum _ _ c.requires.entries c.requires.more,
)

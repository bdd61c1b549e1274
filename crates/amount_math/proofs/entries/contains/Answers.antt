use Rattle.std.proofs.Common.{◌≤◌, ℕ, List, refl, ap, subst, ◌∙◌, arith}
use Rattle.std.proofs.lemmas.Bool.{false≢true}
use Rattle.amount_math.specs.Entries.{tally}
use Rattle.amount_math.proofs.Listed.{read_entry}
use Rattle.amount_math.proofs.Together.{contains_each, each_contained}
use Rattle.amount_math.proofs.entries.contains.Goals as goal

pub returns-then-count_of-count : goal.returns-then-count_of-count
returns-then-count_of-count c = (
  λ e. absurd (false≢true e),
  λ has.
      let i = c.loop-entry.entry-index in
      let read = read_entry c.args.part.now i c.entry-item.result c.loop-entry-test.true c.entry-item.is in
      let enough = subst (λ (e : List ℕ × ℕ). e.1 ≤ tally c.args.entries.now e.0) read (each_contained _ _ c.requires.entries c.requires.part has i c.loop-entry-test.true) in
      let counted = c.count_of.ensures ∙ ap (tally c.args.entries.now) c.key.ensures in
      absurd (omega (arith, enough, counted, c.count.ensures, c.if-count_of-count.true)),
)

pub returns : goal.returns
returns c = (
  λ _. contains_each _ _ c.requires.entries c.requires.part (λ j lt. c.loop-entry.invariant j (omega (arith, lt, c.loop-entry-test.false))),
  λ _. refl,
)

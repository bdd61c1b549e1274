use Rattle.std.proofs.Common.{◌<◌, ◌+◌, ℕ, List, ap, subst, sym, ◌∙◌, arith}
use Rattle.amount_math.specs.Entries.{tally}
use Rattle.amount_math.proofs.Listed.{read_entry}
use Rattle.amount_math.proofs.Together.{none_past, first_is_past}
use Rattle.amount_math.proofs.entries.first_past.Goals as goal

pub returns-then-from-clause-first : goal.returns-then-from-clause-first
returns-then-from-clause-first c =
    let read = read_entry c.args.more.now c.loop-i.i c.index-more-i.result c.loop-i-test.true c.index-more-i.is in
    let counted = c.count_of-held.ensures ∙ ap (tally c.args.entries.now) c.key.ensures in
    let past : c.args.most < tally c.args.entries.now c.index-more-i.result.0 + c.index-more-i.result.1 = omega (arith, counted, c.if-from.true, c.from-in-loop-i-2.ensures, c.from-in-loop-i.ensures, c.from.ensures, c.count.ensures) in
    first_is_past _ _ c.requires.entries c.requires.more c.args.most c.requires.within c.loop-i.i c.loop-i-test.true c.loop-i.invariant
    (subst (λ (e : List ℕ × ℕ). c.args.most < tally c.args.entries.now e.0 + e.1) (sym read) past)

pub returns-clause-none : goal.returns-clause-none
returns-clause-none c = λ _. none_past _ _ c.requires.entries c.requires.more c.args.most c.requires.within (λ j lt. c.loop-i.invariant j (omega (arith, lt, c.loop-i-test.false)))

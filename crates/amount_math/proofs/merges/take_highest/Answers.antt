use Rattle.std.proofs.Common.{ap, sym, ◌∙◌, arith}
use Rattle.amount_math.specs.Content.{key_cmp}
use Rattle.amount_math.proofs.Poured.{only_left, right_is_highest, left_is_highest, both_are_highest, tally_both, tally_last, emptied, popped_next, popped_tally, pushed_back}
use Rattle.amount_math.proofs.merges.take_highest.Goals as goal

pub returns-in_default-clause-next : goal.returns-in_default-clause-next
returns-in_default-clause-next c = popped_next _ _ _ _ c.pop-in_default.result c.in_default.ensures.items (omega (arith, c.in_default.ensures.cases.1)) c.pop-in_default.ensures.items

pub returns-in_default-clause-counts : goal.returns-in_default-clause-counts
returns-in_default-clause-counts c = popped_tally _ _ _ _ c.pop-in_default.result c.in_default.ensures.items c.pop-in_default.ensures.items

pub returns-in_default-pop-clause-next : goal.returns-in_default-pop-clause-next
returns-in_default-pop-clause-next c =
    let gone = emptied c.pop-2.new.self.items (omega (arith, c.in_default-pop.ensures.cases.1)) in
    rw (c.in-Some.ensures.items, c.in_default-pop.ensures.items, gone) (only_left c.pop.new.self.items c.in-Some.entry)

pub returns-in_default-pop-clause-counts : goal.returns-in_default-pop-clause-counts
returns-in_default-pop-clause-counts c = λ k.
    let gone = emptied c.pop-2.new.self.items (omega (arith, c.in_default-pop.ensures.cases.1)) in
    rw (c.in-Some.ensures.items, c.in_default-pop.ensures.items, gone) (omega (arith, tally_last c.pop.new.self.items c.in-Some.entry k))

pub returns-in-Less-clause-next : goal.returns-in-Less-clause-next
returns-in-Less-clause-next c =
    let less = ap (key_cmp c.in-Some.entry.0) (sym c.key.ensures) ∙ sym c.compare.ensures ∙ c.in-Less.is in
    rw (c.push_reserved.ensures.items, c.in-Some.ensures.items, c.in-Some-pop.ensures.items) (right_is_highest c.pop.new.self.items c.in-Some.entry c.pop-2.new.self.items c.in-Some-pop.other less)

pub returns-in-Less-clause-counts : goal.returns-in-Less-clause-counts
returns-in-Less-clause-counts c = λ k. rw (c.push_reserved.ensures.items, c.in-Some.ensures.items, c.in-Some-pop.ensures.items) (omega (arith, tally_last c.pop-2.new.self.items c.in-Some-pop.other k))

pub returns-in-Less-clause-right : goal.returns-in-Less-clause-right
returns-in-Less-clause-right c = pushed_back _ _ c.in-Some-pop.other c.in-Some-pop.ensures.items c.requires.right

pub returns-in-Equal-clause-next : goal.returns-in-Equal-clause-next
returns-in-Equal-clause-next c =
    let equal = ap (key_cmp c.in-Some.entry.0) (sym c.key.ensures) ∙ sym c.compare.ensures ∙ c.in-Equal.is in
    rw (c.raise.ensures, c.count.ensures, c.in-Some.ensures.items, c.in-Some-pop.ensures.items) (both_are_highest c.pop.new.self.items c.in-Some.entry c.pop-2.new.self.items c.in-Some-pop.other equal)

pub returns-in-Equal-clause-counts : goal.returns-in-Equal-clause-counts
returns-in-Equal-clause-counts c = λ k.
    let equal = ap (key_cmp c.in-Some.entry.0) (sym c.key.ensures) ∙ sym c.compare.ensures ∙ c.in-Equal.is in
    rw (c.raise.ensures, c.count.ensures, c.in-Some.ensures.items, c.in-Some-pop.ensures.items) (tally_both c.pop.new.self.items c.in-Some.entry c.pop-2.new.self.items c.in-Some-pop.other k equal)

pub returns-in-Equal-clause-left : goal.returns-in-Equal-clause-left
returns-in-Equal-clause-left c = pushed_back _ _ c.in-Some.entry c.in-Some.ensures.items c.requires.left

pub returns-in-Equal-clause-right : goal.returns-in-Equal-clause-right
returns-in-Equal-clause-right c = pushed_back _ _ c.in-Some-pop.other c.in-Some-pop.ensures.items c.requires.right

pub returns-in-Greater-clause-next : goal.returns-in-Greater-clause-next
returns-in-Greater-clause-next c =
    let greater = ap (key_cmp c.in-Some.entry.0) (sym c.key.ensures) ∙ sym c.compare.ensures ∙ c.in-Greater.is in
    rw (c.push_reserved-in-Greater.ensures.items, c.in-Some.ensures.items, c.in-Some-pop.ensures.items) (left_is_highest c.pop.new.self.items c.in-Some.entry c.pop-2.new.self.items c.in-Some-pop.other greater)

pub returns-in-Greater-clause-counts : goal.returns-in-Greater-clause-counts
returns-in-Greater-clause-counts c = λ k. rw (c.push_reserved-in-Greater.ensures.items, c.in-Some.ensures.items, c.in-Some-pop.ensures.items) (omega (arith, tally_last c.pop.new.self.items c.in-Some.entry k))

pub returns-in-Greater-clause-left : goal.returns-in-Greater-clause-left
returns-in-Greater-clause-left c = pushed_back _ _ c.in-Some.entry c.in-Some.ensures.items c.requires.left

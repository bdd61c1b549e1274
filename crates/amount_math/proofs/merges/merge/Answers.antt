use Rattle.amount_math.proofs.Poured.{poured_sum, poured_are}
use Rattle.amount_math.proofs.merges.merge.Goals as goal

pub returns-clause-content : goal.returns-clause-content
returns-clause-content c =
    let all = c.pour.ensures in
    rw c.reverse.ensures.items (poured_sum _ _ _ c.requires.entries c.requires.more all.rising all.raised all.counts)

pub returns-clause-entries : goal.returns-clause-entries
returns-clause-entries c =
    let all = c.pour.ensures in
    rw c.reverse.ensures.items (poured_are _ _ _ c.requires.entries c.requires.more all.rising all.raised all.counts c.requires.within)

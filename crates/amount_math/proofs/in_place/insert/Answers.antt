use Rattle.amount_math.proofs.Places.{are_inserted, tally_inserted}
use Rattle.amount_math.proofs.in_place.insert.Goals as goal

pub returns-clause-entries : goal.returns-clause-entries
returns-clause-entries c = rw c.in-Ok.ensures.items (are_inserted _ _ _ c.requires.entries c.requires.entry c.requires.gap)

pub returns-clause-counts : goal.returns-clause-counts
returns-clause-counts c = λ k. rw c.in-Ok.ensures.items (tally_inserted _ _ _ k)

use Rattle.amount_math.proofs.Places.{are_removed, tally_removed}
use Rattle.amount_math.proofs.in_place.remove.Goals as goal

pub returns-clause-entries : goal.returns-clause-entries
returns-clause-entries c = rw c.remove-entry.ensures.items (are_removed _ _ c.requires.entries)

pub returns-clause-counts : goal.returns-clause-counts
returns-clause-counts c = λ k. rw c.remove-entry.ensures.items (tally_removed _ _ k c.requires.here)

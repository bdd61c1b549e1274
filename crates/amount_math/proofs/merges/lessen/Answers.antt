use Rattle.amount_math.proofs.Places.{enough_of_one, left_of_one}
use Rattle.amount_math.proofs.merges.lessen.Goals as goal

pub take_entry-requires-clause-enough : goal.take_entry-requires-clause-enough
take_entry-requires-clause-enough c = enough_of_one _ _ _ c.requires.entries c.requires.part c.in-len1.len_at_least c.one-item.is c.requires.enough

pub returns-in-len1-clause-content : goal.returns-in-len1-clause-content
returns-in-len1-clause-content c = left_of_one _ _ _ c.requires.entries c.requires.part c.in-len1.len_at_least c.one-item.is c.in-len1.len_below c.take_entry.new.entries.items c.take_entry.ensures.entries c.take_entry.ensures.counts

use Rattle.issuer_calls.proofs.LiveLists.{kinds_of_lent}
use Rattle.issuer_calls.proofs.split.whole_of.Goals as goal

pub whole_sum-requires : goal.whole_sum-requires
whole_sum-requires c = rw c.as_slice.ensures.value (kinds_of_lent c.args.kind c.args.parts.now c.in_ok-values.values.items c.requires c.in_ok-values.ensures)

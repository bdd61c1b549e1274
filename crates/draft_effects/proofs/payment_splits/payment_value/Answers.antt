use Rattle.draft_reads.specs.amount_math.KindLaws.{has_few}
use Rattle.draft_effects.proofs.payment_splits.payment_value.Goals as goal

pub copy-requires : goal.copy-requires
copy-requires c = has_few c.in-Some.held.now.value.kind c.in-Some.held.now.value.content c.in-Some.ensures.value

use Rattle.contract_reads.proofs.KnownObjects.{brand_known}
use Rattle.contract_reads.proofs.contract_words.objects.brand_number.Goals as goal

pub object_at-requires-clause-known : goal.object_at-requires-clause-known
object_at-requires-clause-known c = rw c.made.ensures.made (brand_known _ c.args.place _ c.requires.known)

use Rattle.world_reads.proofs.HandedObjects.{issuer_known}
use Rattle.world_reads.proofs.given.issuer_number.Goals as goal

pub object_at-requires-clause-known : goal.object_at-requires-clause-known
object_at-requires-clause-known c = rw c.made.ensures.made (issuer_known _ c.args.place _ c.requires.handed)

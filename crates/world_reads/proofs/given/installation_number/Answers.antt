use Rattle.world_reads.proofs.HandedObjects.{installation_known}
use Rattle.world_reads.proofs.given.installation_number.Goals as goal

pub object_at-requires-clause-known : goal.object_at-requires-clause-known
object_at-requires-clause-known c = rw c.installations.ensures.made (installation_known _ c.args.place _ c.requires.handed)

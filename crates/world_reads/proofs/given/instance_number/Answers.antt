use Rattle.world_reads.proofs.HandedObjects.{instance_known}
use Rattle.world_reads.proofs.given.instance_number.Goals as goal

pub object_at-requires-clause-known : goal.object_at-requires-clause-known
object_at-requires-clause-known c = rw c.made.ensures.made (instance_known _ c.args.place _ c.requires.handed)

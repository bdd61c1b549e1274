use Rattle.world_reads.proofs.HandedObjects.{payments_known}
use Rattle.world_reads.proofs.given.payments_listed.Goals as goal

pub objects_in-requires : goal.objects_in-requires
objects_in-requires c = rw c.payments_made-made.ensures (payments_known _ c.args.place _ _ c.requires.handed c.requires.listed)

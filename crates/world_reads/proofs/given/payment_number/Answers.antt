use Rattle.world_reads.proofs.HandedObjects.{payment_known}
use Rattle.world_reads.proofs.given.payment_number.Goals as goal

pub object_at-requires-clause-known : goal.object_at-requires-clause-known
object_at-requires-clause-known c = rw c.payments_made.ensures (payment_known _ c.args.place _ c.requires.handed)

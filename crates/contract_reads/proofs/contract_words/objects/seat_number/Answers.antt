use Rattle.contract_reads.proofs.KnownObjects.{seat_known}
use Rattle.contract_reads.proofs.contract_words.objects.seat_number.Goals as goal

pub object_at-requires-clause-known : goal.object_at-requires-clause-known
object_at-requires-clause-known c = rw c.seats_made.ensures (seat_known _ c.args.place _ c.requires.known)

use Rattle.contract_reads.proofs.KnownObjects.{timer_known}
use Rattle.contract_reads.proofs.contract_words.objects.check_timer.Goals as goal

pub object_at-requires-clause-known : goal.object_at-requires-clause-known
object_at-requires-clause-known c = timer_known _ c.args.place _ c.requires.known

use Rattle.world_reads.proofs.Known.{known_passes, passed_known}
use Rattle.world_reads.proofs.known_data.laws.what_passes_is_known.Goals as goal

pub returns : goal.returns
returns c = λ w i t good made. (passed_known w i good made t, known_passes w i good made t)

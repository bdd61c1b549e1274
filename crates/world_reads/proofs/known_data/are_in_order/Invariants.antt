use Rattle.std.proofs.Common.{◌≡◌, length}
use Rattle.refusals.specs.host_data.View.{fields_of, named_trees}
use Rattle.world_reads.specs.Tests.{in_order}
use Rattle.world_reads.proofs.known_data.are_in_order.Given as goal

abbrev pub invariant-loop-rest : goal.invariant-loop-rest
invariant-loop-rest l = in_order (fields_of (named_trees l.fields)) ≡ in_order (fields_of (named_trees l.rest))

abbrev pub decreases-loop-rest : goal.decreases-loop-rest
decreases-loop-rest l = length l.rest

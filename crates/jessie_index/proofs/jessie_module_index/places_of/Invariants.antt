use Rattle.std.proofs.Common.{length}
use Rattle.jessie_index.proofs.Indexing.{IsIndexFrom}
use Rattle.jessie_index.proofs.jessie_module_index.places_of.Given as goal

abbrev pub invariant-last : goal.invariant-last
invariant-last l = IsIndexFrom l.functions l.left l.places

abbrev pub decreases-last : goal.decreases-last
decreases-last l = length l.left

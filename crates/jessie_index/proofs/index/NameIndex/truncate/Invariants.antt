use Rattle.std.proofs.Common.{◌≡◌, take, length}
use Rattle.jessie_index.proofs.index.NameIndex.truncate.Given as goal

abbrev pub invariant-last : goal.invariant-last
invariant-last l = take l.n l.self ≡ take l.n l.fn.self

abbrev pub decreases-last : goal.decreases-last
decreases-last l = length l.self

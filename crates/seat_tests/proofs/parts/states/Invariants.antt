use Rattle.std.proofs.Common.{All}
use Rattle.seat_tests.specs.Brands.{HasBrands}
use Rattle.seat_tests.proofs.parts.states.Given as goal

abbrev pub invariant-loop-given : goal.invariant-loop-given
invariant-loop-given g l = All HasBrands l.states

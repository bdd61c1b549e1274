use Rattle.seat_tests.specs.Brands.{AreOfTheirBrands}
use Rattle.seat_tests.proofs.parts.shares.Given as goal

abbrev pub invariant-loop-text : goal.invariant-loop-text
invariant-loop-text g l = AreOfTheirBrands l.made

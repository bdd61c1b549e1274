-- The least of numbers.
use Rattle.std.proofs.Common.{◌≡◌, ℕ, Option, Some, None, refl, ap, arith}
use Rattle.proposals.specs.Leasts.{least_of}

pub least_of_three : (a b c : Option ℕ) → least_of a (least_of b c) ≡ least_of (least_of a b) c
least_of_three None b c = refl
least_of_three (Some n) None c = refl
least_of_three (Some n) (Some m) None = refl
least_of_three (Some n) (Some m) (Some l) = ap Some (omega arith)

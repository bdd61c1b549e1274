-- A seat was left where it isn't open.
use Rattle.std.proofs.Common.{◌≡◌, Option, Some, None, refl}
use Rattle.std.specs.Prelude.{is_none, is_some, not}

pub exited_is : {A : Type 0} (o : Option A) → not (is_none o) ≡ is_some o
exited_is None = refl
exited_is (Some x) = refl

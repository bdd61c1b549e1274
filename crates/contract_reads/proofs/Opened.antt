-- A seat that nothing is kept of was not left.
use Rattle.std.proofs.Common.{◌≡◌, true, List, Option, Some, None, refl}
use Rattle.std.proofs.lemmas.Bool.{false≢true}
use Rattle.std.specs.Prelude.{is_none}
use Rattle.rules.specs.world_state.Worlds.{IsOpen, Seat}

pub open_is : (s : Seat) → is_none s.last ≡ true → IsOpen s
open_is s is = by s.last is
  where
    by : {A : Type 0} (o : Option A) → is_none o ≡ true → o ≡ None
    by None h = refl
    by (Some x) h = absurd (false≢true h)

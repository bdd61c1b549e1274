use Rattle.std.proofs.Common.{ap, arith}
use Rattle.amount_math.specs.Content.{of_entries-nil}
use Rattle.amount_math.specs.Held.{Roomed}
use Rattle.amount_math.specs.ValueView.{keys_of}
use Rattle.amount_math.proofs.Places.{keys_of_entries, keys_of-nothing}
use Rattle.amount_math.proofs.keyed.Keyed.keys.Goals as goal

pub returns-in-Some-clause-keys : goal.returns-in-Some-clause-keys
returns-in-Some-clause-keys c = omega (
  arith,
  ap (λ (x : Roomed). keys_of x.content) (rw c.in-Some.is at c.self.view_is),
  keys_of_entries _ (rw c.in-Some.is at c.self.invariant),
)

pub returns-in-None-clause-keys : goal.returns-in-None-clause-keys
returns-in-None-clause-keys c = omega (
  arith,
  ap (λ (x : Roomed). keys_of x.content) (rw c.in-None.is at c.self.view_is),
  ap keys_of of_entries-nil,
  keys_of-nothing,
)

-- The whole sum of values of one kind, as a value.
use Rattle.std.specs.Prelude.{List, Result, Ok}
use Rattle.refusals.specs.amount_math.Content.{sum}
use Rattle.refusals.specs.amount_math.ValueView.{Fits, HasFew, ValueView}
use Rattle.refusals.specs.amount_math.declared.Kind.{Kind}
use Rattle.value_tests.specs.Totals.{total_of}
use Rattle.refusals.specs.Outcomes.{◌>>◌}
use Rattle.refusals.specs.declared.codes.Refusal.{Refusal}
use Rattle.value_tests.specs.Tests.{total_fits}

abbrev pub sum_value : Kind → List ValueView → ValueView
sum_value kind ws = record { kind = kind; content = total_of ws }

-- where it is one
unfoldable pub whole_sum : Kind → List ValueView → Result ValueView Refusal
whole_sum kind ws = total_fits kind ws >> Ok (sum_value kind ws)

-- the sum of the two has no fault of a sum
pub record CanAdd (a b : ValueView) : Type 0 where
  pub fits : Fits a.kind (sum a.content b.content)
  pub few : HasFew a.kind (sum a.content b.content)

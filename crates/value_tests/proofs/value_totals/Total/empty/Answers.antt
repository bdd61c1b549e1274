use Rattle.value_tests.proofs.Kept.{empty_total, none_there}
use Rattle.value_tests.proofs.value_totals.Total.empty.Goals as goal

pub invariant_of-result : goal.invariant_of-result
invariant_of-result c = empty_total c.new.result.entries c.new.ensures.empty

pub returns : goal.returns
returns c = none_there c.new.result.entries c.new.ensures.empty

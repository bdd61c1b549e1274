use Rattle.std.proofs.Common.{ap, ◌∙◌}
use Rattle.refusals.specs.amount_math.ValueView.{keys_of}
use Rattle.value_tests.proofs.Kept.{keys_listed}
use Rattle.value_tests.proofs.value_totals.Total.keys.Goals as goal

pub returns : goal.returns
returns c = c.len.ensures.len ∙ keys_listed c.self.inside.counts.entries c.self.invariant ∙ ap keys_of c.self.view_is

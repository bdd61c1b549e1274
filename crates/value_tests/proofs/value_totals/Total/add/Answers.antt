use Rattle.std.proofs.Common.{ap, ◌∙◌}
use Rattle.refusals.specs.amount_math.Content.{Content, count}
use Rattle.value_tests.proofs.Kept.{ok_has, put_more}
use Rattle.value_tests.proofs.value_totals.Total.add.Goals as goal

pub returns : goal.returns
returns c = ok_has c.put.result (λ is q. ap (λ (t : Content). count t q) is ∙ put_more c.args.self.now c.args.element.now _ c.args.more c.with-number.ensures q) c.put.ensures

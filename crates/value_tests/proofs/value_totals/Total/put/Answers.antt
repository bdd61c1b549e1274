use Rattle.std.proofs.Common.{ap, ◌∙◌}
use Rattle.refusals.specs.amount_math.Content.{Content, counts}
use Rattle.refusals.specs.amount_math.Sparse.{put}
use Rattle.value_tests.proofs.Kept.{after_put, put_total}
use Rattle.value_tests.proofs.value_totals.Total.put.Goals as goal

pub invariant_of-self-2 : goal.invariant_of-self-2
invariant_of-self-2 c = put_total c.self.inside.counts.entries c.insert.new.self.entries c.args.element _ c.self.invariant c.requires.some c.in_ok-insert.ensures.entries c.requires.small

pub returns : goal.returns
returns c = after_put c.self.inside.counts.entries c.insert.new.self.entries c.args.element _ c.self.invariant c.requires.some c.in_ok-insert.ensures.entries ∙ ap (λ (t : Content). put counts t c.args.element.now c.args.number) c.self.view_is

use Rattle.std.proofs.Common.{refl, sym, subst}
use Rattle.refusals.specs.amount_math.Content.{sum}
use Rattle.refusals.specs.amount_math.KindLaws.{value_of_sum}
use Rattle.refusals.specs.amount_math.ValueView.{IsValue}
use Rattle.refusals.specs.amount_math.declared.Kind.{Kind}
use Rattle.value_tests.proofs.Sums.{refused, value_passes}
use Rattle.value_tests.proofs.holding_checks.check_sum.Goals as goal

pub returns-in-Ok-clause-gives : goal.returns-in-Ok-clause-gives
returns-in-Ok-clause-gives c =
    let other = subst (λ (kind : Kind). IsValue kind c.args.given.now.content) (sym c.requires.kind) c.kind-other.ensures.value in
    value_passes _ _ (value_of_sum _ _ _ c.requires.value other (c.in-Ok.ensures.fits refl) (c.in-Ok.ensures.few refl))

pub returns-in-Ok-clause-value : goal.returns-in-Ok-clause-value
returns-in-Ok-clause-value c =
    let other = subst (λ (kind : Kind). IsValue kind c.args.given.now.content) (sym c.requires.kind) c.kind-other.ensures.value in
    value_of_sum _ _ _ c.requires.value other (c.in-Ok.ensures.fits refl) (c.in-Ok.ensures.few refl)

pub returns-in-Err-clause-gives : goal.returns-in-Err-clause-gives
returns-in-Err-clause-gives c = rw c.of_put.ensures (refused c.args.held.now.value.kind (sum c.args.held.now.value.content c.args.given.now.content) c.in-Err.fault c.in-Err.ensures.refused)

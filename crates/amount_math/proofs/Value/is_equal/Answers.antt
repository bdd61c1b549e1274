use Rattle.std.proofs.Common.{◌≡◌, refl, subst, rules}
use Rattle.amount_math.specs.Content.{Contains, Contains-antisym, Contains-refl}
use Rattle.amount_math.specs.ValueView.{ValueView}
use Rattle.amount_math.proofs.Shapes.{same_value_view}
use Rattle.amount_math.proofs.Value.is_equal.Goals as goal

pub returns : goal.returns
returns c =
    let kinds : c.args.self.now.kind ≡ c.args.other.now.kind = search rules in (
      λ is. same_value_view _ _ kinds (Contains-antisym _ _ (c.if-not-is_gte.ensures.0 refl) (c.is_gte-2.ensures.0 is)),
      λ e. c.is_gte-2.ensures.1 (subst (λ (w : ValueView). Contains w.content c.args.self.now.content) e (Contains-refl c.args.self.now.content)),
    )

use Rattle.std.proofs.Common.{◌≡◌, ◌++◌, ◌∷◌, [], List, sym, subst}
use Rattle.call_outcomes.specs.Views.{AreShaped}
use Rattle.call_outcomes.specs.declared.effects.Effect.{Effect}
use Rattle.call_outcomes.proofs.Shaped.{shaped_more}
use Rattle.call_outcomes.proofs.lists.Effects.push.Goals as goal

-- src/lists.rt:34:5
pub returns-clause-shaped : goal.returns-clause-shaped
returns-clause-shaped c = λ one all. subst (λ (es : List Effect). AreShaped es) (sym c.in_ok-push.ensures.items) (shaped_more _ _ all one)

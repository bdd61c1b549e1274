-- Effects with one more, whose movements are of the shape that their way asks for.
use Rattle.std.proofs.Common.{List, [], ◌∷◌, ◌++◌}
use Rattle.call_outcomes.specs.Views.{AreShaped, IsShaped}
use Rattle.call_outcomes.specs.declared.effects.Effect.{Effect}

pub shaped_more : (es : List Effect) (e : Effect) → AreShaped es → IsShaped e → AreShaped (es ++ e ∷ [])
shaped_more [] e all one = (one, tt)
shaped_more (x ∷ xs) e all one = (all.0, shaped_more xs e all.1 one)

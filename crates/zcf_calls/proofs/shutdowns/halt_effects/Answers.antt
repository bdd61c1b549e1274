use Rattle.std.proofs.Common.{◌∷◌, ◌++◌, [], ap, ◌∙◌}
use Rattle.rules.specs.world_state.Worlds.{halt}
use Rattle.zcf_calls.proofs.shutdowns.halt_effects.Goals as goal

pub returns-clause-effects : goal.returns-clause-effects
returns-clause-effects c = c.in_ok-push.ensures.view ∙ ap (λ es. es ++ halt c.args.instance ∷ []) c.in_ok-effects.ensures.exits

pub returns-clause-shaped : goal.returns-clause-shaped
returns-clause-shaped c = c.in_ok-push.ensures.shaped tt c.in_ok-effects.ensures.shaped

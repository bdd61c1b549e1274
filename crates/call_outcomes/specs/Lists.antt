-- Effects in their order, as the world's.
use Rattle.std.specs.Prelude.{List}
use Rattle.registers.specs.world_state.Worlds as worlds
use Rattle.call_outcomes.specs.Views.{AreShaped, effect_views}
use Rattle.call_outcomes.specs.declared.lists.Effects.{Effects}

abbrev pub effects_view : Effects → List worlds.Effect
effects_view es = effect_views es.effects.items

-- the movements of each are of the shape that their way asks for
abbrev pub IsEachShaped : Effects → Type 0
IsEachShaped es = AreShaped es.effects.items

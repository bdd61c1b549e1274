-- When a part isn't taken out of what is held.
use Rattle.std.specs.Prelude.{◌≡◌}
use Rattle.amount_math.specs.Content.{Contains}
use Rattle.amount_math.specs.ValueView.{ValueView}
use Rattle.amount_math.specs.declared.shortfall.LossFault.{LossFault}
use Rattle.amount_math.specs.declared.shortfall.LossFault.TheVariants.{NotEnough, NoMemory}
use Rattle.amount_math.specs.declared.shortfall.Shortfall.{Shortfall}

-- less is held than was asked for, and both are shown
pub record IsShortfall (held asked : ValueView) (short : Shortfall) : Type 0 where
  pub held_is : short.held ≡ held
  pub asked_is : short.asked ≡ asked
  pub less : ¬ Contains held.content asked.content

-- less is held, or memory is wanted
abbrev pub IsLossFault : ValueView → ValueView → LossFault → Type 0
IsLossFault held asked (NotEnough short) = IsShortfall held asked short
IsLossFault held asked NoMemory = Unit {0}

-- Who made each brand, by number, at the turn's start and now; and what that is to the world.
use Rattle.std.specs.Prelude.{List, [], ◌∷◌, map}
use Rattle.world_state.specs.Worlds as worlds
use Rattle.registers.specs.declared.brand_makers.Maker.{Maker}
use Rattle.registers.specs.declared.brand_makers.Maker.TheVariants.{Host, Instance, Kit}

pub record MakersState : Type 0 where
  pub start : List Maker
  pub now : List Maker

abbrev pub maker_view : Maker → worlds.Maker
maker_view Host = worlds.of_host
maker_view Kit = worlds.of_kit
maker_view (Instance n) = worlds.of_instance n

-- as the world's state has them
abbrev pub makers_of : List Maker → List worlds.Maker
makers_of ms = map maker_view ms

-- those of a new host: brand 0 is its own
abbrev pub started : MakersState
started = record { start = Host ∷ []; now = Host ∷ [] }

-- how it was is forgotten, and how it is
abbrev pub kept_at : MakersState → MakersState
kept_at m = record { start = m.now; now = m.now }

abbrev pub back_at : MakersState → MakersState
back_at m = record { start = m.start; now = m.start }

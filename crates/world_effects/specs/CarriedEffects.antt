-- What it is that an effect was carried out, and when it can be.
use Rattle.std.specs.Prelude.{◌≡◌, ℕ, ◌<◌, List, length}
use Rattle.register_effects.specs.host_world.Worlds.{world_now, world_of}
use Rattle.register_effects.specs.host_world.declared.World.{World}
use Rattle.register_effects.specs.vault.Drafts.{HandGoes, IsClean}
use Rattle.world_laws.specs.world_state.Good.{IsGoodWorld}
use Rattle.world_laws.specs.world_state.Worlds.{Effect, after, after_all}

-- a turn is under way in which effects can be carried out: nothing is in the hand or was given up, the world behind
-- its delivery is good, and that delivery is still in front
pub record IsInTurn (w : World) : Type 0 where
  pub clean : IsClean w.draft
  pub goes : HandGoes w.draft
  pub good : IsGoodWorld (world_of w)
  pub waits : 0 < length (world_now w).waiting

-- the world is what the effect makes of it, and nothing is in the hand
pub record IsCarried (old new : World) (e : Effect) : Type 0 where
  pub now : world_now new ≡ after (world_now old) e
  pub clean : IsClean new.draft

-- so is the world after effects, and the world behind the turn's own delivery, in which the turn goes on
pub record AreCarried (old new : World) (es : List Effect) : Type 0 where
  pub now : world_now new ≡ after_all (world_now old) es
  pub world : world_of new ≡ after_all (world_of old) es
  pub turn : IsInTurn new

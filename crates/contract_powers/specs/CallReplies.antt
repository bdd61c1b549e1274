-- How a call of an instance's function was answered over the world of a turn.
use Rattle.std.specs.Prelude.{◌≡◌, ◌⊎◌, ℕ}
use Rattle.world_effects.specs.CarriedEffects.{AreCarried}
use Rattle.delivery_laws.specs.Works.{IsCallWork}
use Rattle.delivery_laws.specs.delivery_turns.HostCalls.{call_effects, call_reply}
use Rattle.world_effects.specs.host_world.Worlds.{world_of}
use Rattle.world_effects.specs.host_world.declared.World.{World}
use Rattle.jessie_machine.specs.jessie_semantics.Keeping.{CallHas}
use Rattle.jessie_machine.specs.jessie_semantics.Play.{Call, Reply, refused}
use Rattle.refusals.specs.host_data.Tree.{null}
use Rattle.world_effects.specs.world_state.Known.{IsKnownTo}

-- it was answered as the definition says, and has had its effects, which were good; the turn goes on
pub record IsCallDone (old new : World) (i : ℕ) (c : Call) (reply : Reply) : Type 0 where
  pub replied : reply ≡ call_reply (world_of old) i c
  pub carried : AreCarried old new (call_effects (world_of old) i c)
  pub work : IsCallWork (world_of old) i c

-- it names what the instance may not name: then null is thrown, and nothing is done. No function of a module of a
-- good world makes such a call
pub record IsStray (old new : World) (i : ℕ) (c : Call) (reply : Reply) : Type 0 where
  pub unknown : CallHas (IsKnownTo (world_of old) i) c → ⊥
  pub same : new ≡ old
  pub replied : reply ≡ refused null

abbrev pub IsCallAnswered : World → World → ℕ → Call → Reply → Type 0
IsCallAnswered old new i c reply = IsCallDone old new i c reply ⊎ IsStray old new i c reply

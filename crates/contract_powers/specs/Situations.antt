-- Where a function of an instance stands with the world that it is run over.
use Rattle.std.specs.Prelude.{◌≡◌, ◌<◌, ℕ, Bool, false, length}
use Rattle.world_effects.specs.CarriedEffects.{IsInTurn}
use Rattle.contract_powers.specs.CallReplies.{IsCallAnswered}
use Rattle.world_effects.specs.host_world.Worlds.{world_of}
use Rattle.world_effects.specs.host_world.declared.World.{World}
use Rattle.jessie_machine.specs.jessie_semantics.Keeping.{Known, Reference, ReplyHas, Within, to_function, to_object}
use Rattle.jessie_machine.specs.jessie_semantics.Play.{Exchange}
use Rattle.world_effects.specs.world_state.Known.{FunctionKnown, ObjectKnown}
use Rattle.world_effects.specs.world_state.Worlds.{State}
use Rattle.std.specs.Prelude.{Some}

-- the world, the instance that runs, and whether memory was wanted in the midst of a call: then the world may be half
-- changed, and nothing is answered any more
pub record Situation : Type 0 where
  pub world : World
  pub instance : ℕ
  pub failed : Bool

abbrev pub situation : World → ℕ → Bool → Situation
situation w i failed = record { world = w; instance = i; failed = failed }

-- effects can be carried out on the world; the instance was made
pub record IsRunning (s : Situation) : Type 0 where
  pub turn : IsInTurn s.world
  pub made : s.instance < length (world_of s.world).tables.instances

pub record IsReady (s : Situation) : Type 0 where
  pub running : s.failed ≡ false → IsRunning s

-- ---- the host's side

-- what the instance may name
abbrev pub MayName : State → ℕ → Known
MayName w i (to_object o) = ObjectKnown (Some i) w o
MayName w i (to_function f) = FunctionKnown (Some i) w f

abbrev pub Knows : Situation → Known
Knows s = MayName (world_of s.world) s.instance

-- the same instance goes on running, and its call was answered with what it may name; what it might name it may name
-- after it
pub record IsAnswered (old new : Situation) (x : Exchange) : Type 0 where
  pub instance : new.instance ≡ old.instance
  pub running : IsRunning new
  pub answered : IsCallAnswered old.world new.world old.instance x.call x.reply
  pub replied : ReplyHas (Within (Knows new)) x.reply
  pub grown : (r : Reference) → Knows old r → Knows new r

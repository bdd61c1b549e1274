-- A call that is planned and not carried out yet; none where it names what the instance may not name.
use Rattle.std.specs.Prelude.{◌≡◌, ℕ, Option, Some, None}
use Rattle.world_effects.specs.call_outcomes.Lists.{IsEachShaped, effects_view}
use Rattle.world_effects.specs.CarriedEffects.{AreCarried}
use Rattle.delivery_laws.specs.rules.PromisesAndFacets.{call_rule}
use Rattle.contract_powers.specs.CallOutcomes.{IsAnswered}
use Rattle.contract_powers.specs.declared.host_calls.answers.Answered.{Answered}
use Rattle.world_effects.specs.host_world.declared.World.{World}
use Rattle.jessie_machine.specs.Host.{reply_of}
use Rattle.jessie_machine.specs.declared.host.Reply.{Reply}
use Rattle.jessie_machine.specs.jessie_semantics.Keeping.{CallHas}
use Rattle.jessie_machine.specs.jessie_semantics.Play.{Call, refused}
use Rattle.refusals.specs.host_data.Tree.{null}
use Rattle.world_effects.specs.world_state.Good.{AreGood}
use Rattle.world_effects.specs.world_state.Known.{IsKnownTo}
use Rattle.world_effects.specs.world_state.Worlds.{State}

pub record IsPlannedCall (w : State) (i : ℕ) (c : Call) (done : Answered) : Type 0 where
  pub known : CallHas (IsKnownTo w i) c
  pub answered : IsAnswered c (call_rule w i c) done

abbrev pub IsPlanned : State → ℕ → Call → Option Answered → Type 0
IsPlanned w i c (Some done) = IsPlannedCall w i c done
IsPlanned w i c None = CallHas (IsKnownTo w i) c → ⊥

-- what is planned can be carried out
pub record CanHappen (w : State) (done : Answered) : Type 0 where
  pub shaped : IsEachShaped done.effects
  pub good : AreGood w (effects_view done.effects)

abbrev pub CanCarry : State → Option Answered → Type 0
CanCarry w (Some done) = CanHappen w done
CanCarry w None = Unit {0}

-- and was
pub record Happened (old new : World) (done : Answered) (answer : Reply) : Type 0 where
  pub reply : answer ≡ done.reply
  pub carried : AreCarried old new (effects_view done.effects)

pub record NothingHappened (old new : World) (answer : Reply) : Type 0 where
  pub same : new ≡ old
  pub reply : reply_of answer ≡ refused null

abbrev pub WasCarried : World → World → Option Answered → Reply → Type 0
WasCarried old new (Some done) answer = Happened old new done answer
WasCarried old new None answer = NothingHappened old new answer

-- A call that is planned is good, and once it is carried out it was answered as the definition says.
use Rattle.std.specs.Prelude.{IfOk}
use Rattle.std.specs.declared.alloc.AllocError.{AllocError}
use Rattle.std.proofs.Common.{inl, inr, ℕ, ◌<◌, List, Option, Some, None, Result, Ok, Err, length, sym, ap, ◌∙◌, subst}
use Rattle.world_effects.specs.CarriedEffects.{AreCarried, IsInTurn}
use Rattle.contract_powers.specs.CallReplies.{IsCallAnswered}
use Rattle.contract_powers.specs.Admission.{CanCarry, IsPlanned, WasCarried}
use Rattle.delivery_laws.proofs.rule_laws.Methods.{calls_are}
use Rattle.delivery_laws.proofs.Replies.{call_is}
use Rattle.delivery_laws.specs.Works.{IsCallWork}
use Rattle.contract_powers.specs.declared.host_calls.answers.Answered.{Answered}
use Rattle.world_effects.specs.host_world.Worlds.{world_of}
use Rattle.world_effects.specs.host_world.declared.World.{World}
use Rattle.jessie_machine.specs.Host.{reply_of}
use Rattle.jessie_machine.specs.declared.host.Reply.{Reply}
use Rattle.jessie_machine.specs.jessie_semantics.Keeping.{CallHas}
use Rattle.jessie_machine.specs.jessie_semantics.Play.{Call}
use Rattle.world_effects.specs.world_state.Good.{AreGood, IsGoodWorld}
use Rattle.world_effects.specs.world_state.Known.{IsKnownTo}
use Rattle.world_effects.specs.world_state.Worlds.{Effect, State}

module _ (w : State) (i : ℕ) (c : Call) (good : IsGoodWorld w) (made : i < length w.tables.instances) where
  work_of : CallHas (IsKnownTo w i) c → IsCallWork w i c
  work_of known = call_is calls_are w i good made c known

  pub can_carry : (planned : Option Answered) → IsPlanned w i c planned → CanCarry w planned
  can_carry None is = tt
  can_carry (Some done) is = record {
    shaped = is.answered.shaped;
    good = subst (λ (es : List Effect). AreGood w es) (sym is.answered.effects) (work_of is.known).good;
  }

pub answered : (old new : World) (i : ℕ) (c : Call) (planned : Option Answered) (a : Reply) → IsInTurn old → i < length (world_of old).tables.instances
    → IsPlanned (world_of old) i c planned → WasCarried old new planned a → IsCallAnswered old new i c (reply_of a)
answered old new i c None a turn made is was = inr (record { unknown = is; same = was.same; replied = was.reply })
answered old new i c (Some done) a turn made is was =
    inl (record {
      replied = ap reply_of was.reply ∙ is.answered.reply;
      carried = subst (λ (es : List Effect). AreCarried old new es) is.answered.effects was.carried;
      work = work_of (world_of old) i c turn.good made is.known;
    })

pub answered_so : (old new : World) (i : ℕ) (c : Call) (planned : Option Answered) (r : Result Reply AllocError) → IsInTurn old → i < length (world_of old).tables.instances
    → IsPlanned (world_of old) i c planned → IfOk r (WasCarried old new planned) → IfOk r (λ a. IsCallAnswered old new i c (reply_of a))
answered_so old new i c planned (Ok a) turn made is was = answered old new i c planned a turn made is was
answered_so old new i c planned (Err e) turn made is was = tt

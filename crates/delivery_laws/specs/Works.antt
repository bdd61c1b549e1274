-- What is owed of what is done in a turn.
use Rattle.std.specs.Prelude.{◌≡◌, ℕ, List, length, Some, None, IfSome}
use Rattle.std.specs.List.{AllByRecursion}
use Rattle.delivery_turns.specs.actors.Labels.{bound_to}
use Rattle.delivery_turns.specs.rules.Obligations.{CanCall, IsGoodOutcome}
use Rattle.rule_laws.specs.jessie_semantics.Keeping.{AllHave, EndingHas, NextHas, RepliesHave, ReplyHas}
use Rattle.rule_laws.specs.jessie_semantics.Play.{Call, Ending, Play, Reply, after}
use Rattle.turn_writer.specs.host_data.Tree.{Tree}
use Rattle.turn_writer.specs.host_data.declared.data.Obj.{Obj}
use Rattle.delivery_turns.specs.rules.Methods.{serve_own}
use Rattle.turn_writer.specs.Printing.{CanPrintCall}
use Rattle.delivery_turns.specs.turn_records.Deliveries.{Delivery, call}
use Rattle.delivery_turns.specs.turn_records.Events.{Answer, given, refused, spent, threw}
use Rattle.delivery_turns.specs.Functions.{Run, ended, ran_out}
use Rattle.delivery_turns.specs.HostCalls.{call_effects, call_reply}
use Rattle.delivery_turns.specs.Tasks.{Work}
use Rattle.delivery_turns.specs.world_state.Good.{AreGood, IsGoodWorld}
use Rattle.delivery_turns.specs.world_state.Known.{Grows, IsHanded, IsKnownTo}
use Rattle.delivery_turns.specs.world_state.Worlds.{Effect, State, after_all, bind_label, in_front}
use Rattle.delivery_turns.specs.world_state.Worlds.{note_call, resolve}

-- each call that a function of an instance makes has a good rule
abbrev pub AreGoodHostCalls : Type 0
AreGoodHostCalls =
    (w : State) (i : ℕ) (o : Obj) (m : List ℕ) (args : List Tree) →
    CanCall w (Some i) o args → IsGoodOutcome w (Some i) o m args (serve_own w o m args)

-- a call that is told can be printed
abbrev pub CanPrintNote : Effect → Type 0
CanPrintNote (note_call c) = CanPrintCall c
CanPrintNote _ = Unit {0}

-- calls resolve no promise, and bind no label; what is told of them can be printed
abbrev pub IsOfCall : Effect → Type 0
IsOfCall (resolve p v) = ⊥
IsOfCall (bind_label party label value) = ⊥
IsOfCall e = CanPrintNote e

-- what the host does for a call is good; what it answers the instance may know
pub record IsCallWork (w : State) (i : ℕ) (c : Call) : Type 0 where
  pub good : AreGood w (call_effects w i c)
  pub known : ReplyHas (IsKnownTo (after_all w (call_effects w i c)) i) (call_reply w i c)
  pub calm : AllByRecursion IsOfCall (call_effects w i c)

-- ---- answers

-- what is answered can be handed out
abbrev pub IsOut : State → Answer → Type 0
IsOut w (given t) = IsHanded w t
IsOut w (threw t) = IsHanded w t
IsOut w (refused r) = Unit {0}
IsOut w (spent meter) = Unit {0}

-- the label that a party wants for its answer isn't bound
abbrev pub LabelIsFree : State → Delivery → Answer → Type 0
LabelIsFree w (call c) (given t) = IfSome c.label (λ label. bound_to w.labels c.by label ≡ None)
LabelIsFree w _ _ = Unit {0}

-- ---- functions

-- in whatever the world grows to, after whatever answers the instance may know, it may know what is asked next, or
-- what the play comes to
pub record Evaluates (w : State) (i n : ℕ) (p : Play) : Type 0 where
  pub each : (v : State) → Grows w v → (rs : List Reply) → RepliesHave (IsKnownTo v i) rs
      → NextHas (IsKnownTo v i) n (after p rs)

-- what a function did is good; the instance may know what it gave or threw, and the values of its state
pub record IsEnded (w : State) (i n : ℕ) (e : Ending) (values : List Tree) (es : List Effect) : Type 0 where
  pub good : AreGood w es
  pub calm : AllByRecursion IsOfCall es
  pub ending : EndingHas (IsKnownTo (after_all w es) i) e
  pub kept : AllHave (IsKnownTo (after_all w es) i) values
  pub many : length values ≡ n

abbrev pub IsRun : State → ℕ → ℕ → Run → Type 0
IsRun w i n (ended e values es) = IsEnded w i n e values es
IsRun w i n ran_out = Unit {0}

-- ---- what is done for a delivery

-- the most that a function may cost
abbrev pub most_meter : ℕ
most_meter = 10000000

-- its effects are good; the delivery's promise and the label that is wanted are left to the turn's end; what is
-- answered can be handed out; and what is told of calls can be printed
pub record IsTurnWork (w : State) (d : Delivery) (work : Work) : Type 0 where
  pub good : AreGood w work.effects
  pub front : IsGoodWorld (in_front d (after_all w work.effects))
  pub out : IsOut (after_all w work.effects) work.answer
  pub free : LabelIsFree (after_all w work.effects) d work.answer
  pub told : AllByRecursion CanPrintNote work.effects

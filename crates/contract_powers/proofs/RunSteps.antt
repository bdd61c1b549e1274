-- The run goes on after a call, and the turn can be undone as before.
use Rattle.std.proofs.Common.{inl, inr, ℕ, true, false, refl, sym, ◌∙◌, subst, arith}
use Rattle.world_effects.specs.CarriedEffects.{IsInTurn}
use Rattle.contract_powers.specs.CallReplies.{IsCallAnswered}
use Rattle.contract_powers.proofs.HostSide.{answered_grows, names_grow, reply_known}
use Rattle.contract_powers.specs.Situations.{IsAnswered, IsReady, IsRunning, Situation, situation}
use Rattle.contract_powers.specs.TurnStarts.{GoesBackTo, Start}
use Rattle.world_effects.specs.host_world.Worlds.{IsUndoable}
use Rattle.world_effects.specs.host_world.declared.World.{World}
use Rattle.jessie_machine.specs.jessie_semantics.Play.{Call, Reply}

module _ (s : Situation) (w : World) (c : Call) (reply : Reply) (was : IsRunning s) where
  turn_on : IsCallAnswered s.world w s.instance c reply → IsInTurn w
  turn_on (inl done) = done.carried.turn
  turn_on (inr stray) = subst (λ (x : World). IsInTurn x) (sym stray.same) was.turn

  pub runs_on : IsCallAnswered s.world w s.instance c reply → IsRunning (situation w s.instance false)
  runs_on is = record {
    turn = turn_on is;
    made = let grown = answered_grows s.world w s.instance c reply is in omega (arith, was.made, grown.instances.more);
  }

  pub is_answered : IsCallAnswered s.world w s.instance c reply → IsAnswered s (situation w s.instance false) (record { call = c; reply = reply })
  is_answered is = record {
    instance = refl;
    running = runs_on is;
    answered = is;
    replied = reply_known s.world w s.instance c reply is;
    grown = names_grow s.world w s.instance c reply is;
  }

pub ready : (s : Situation) → IsRunning s → IsReady s
ready s running = record { running = λ e. running }

pub failed_ready : (w : World) (i : ℕ) → IsReady (situation w i true)
failed_ready w i = record { running = λ e. absurd (cc) }

pub goes_back : (start : Start) (v w : World) → IsUndoable v w → GoesBackTo start v → GoesBackTo start w
goes_back start v w undoable was = record {
  same = (λ k. record { kept = undoable.rights.kept k; registers = undoable.registers k; sums = undoable.sums k }) ∙ was.same;
  goes = undoable.rights.goes;
}

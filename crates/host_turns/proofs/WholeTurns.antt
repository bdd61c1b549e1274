-- A turn from its beginning to its end: it is the step of the host, or all is as before.
use Rattle.std.proofs.Common.{◌≡◌, ℕ, ◌+◌, ◌<◌, ◌++◌, List, Option, Some, None, length, refl, sym, ap, subst, ◌∙◌}
use Rattle.run_laws.specs.delivery_turns.Hosts.{sums_of}
use Rattle.front_turns.specs.host_world.Turns.{IsBetween, ended}
use Rattle.front_turns.specs.host_world.Worlds.{IsUndoable, kept_state, world_at_start, world_now, world_of}
use Rattle.front_turns.specs.host_world.declared.Ledger.{Ledger}
use Rattle.front_turns.specs.host_world.declared.World.{World}
use Rattle.front_turns.specs.registers.RegisterStates.{turn_ended}
use Rattle.front_turns.specs.registers.Stores.{registers_now}
use Rattle.front_turns.specs.rights_model.declared.Sum.{Sum}
use Rattle.front_turns.specs.turn_records.Views.{answer_view, reading_view, turn_view}
use Rattle.front_turns.specs.turn_records.declared.turns.TurnRecord.{TurnRecord}
use Rattle.front_turns.specs.turn_records.Events.{Event, moves_in}
use Rattle.host_turns.specs.Totals.{IsTurn, Tells, instances_in, instances_of}
use Rattle.front_turns.specs.escrow.Told.{EscrowState}
use Rattle.front_turns.specs.world_state.Rights.{Rights}
use Rattle.front_turns.specs.FrontTurns.{IsDelivered}
use Rattle.host_turns.specs.TurnEnds.{IsEnded, IsEnding}
use Rattle.host_turns.specs.HostStates.{IsKept}
use Rattle.host_turns.specs.TurnSteps.{IsTurned, parts}
use Rattle.front_turns.specs.declared.turns.Delivered.{Delivered}
use Rattle.host_turns.proofs.TurnEnds.{as_before, turn_made}
use Rattle.host_turns.proofs.TurnStarts.{IsReady, is_turn, still_tells, told_now}

-- ---- the end

module _ (number : ℕ) (w : World) (d : Delivered) (k : Ledger) (t : TurnRecord) (ss : List Sum) (e : EscrowState) where
  abbrev HasSums : List Event → Type 0
  HasSums vs = (start after : Rights) (instances : List ℕ) → IsTurn start after instances w.sums vs → ss ≡ sums_of after (moves_in vs)

  abbrev AreTold : List Event → Type 0
  AreTold vs = (start after : Rights) (instances : List ℕ) → IsTurn start after instances w.sums vs → Tells after (instances ++ instances_in vs) e

  pub ending_is : (vs : List Event) → vs ≡ (world_now w).log → HasSums vs → AreTold vs → kept_state k ≡ ended (world_now w) → IsBetween k
      → turn_view t ≡ turn_ended number (reading_view d.reading) (answer_view d.answer) ss (registers_now w.registers) → k.sums ≡ e → IsEnding number w d k t
  ending_is vs same sums told world between turn kept = record {
    world = world;
    between = between;
    turn = λ start after instances is. turn ∙ ap (λ xs. turn_ended number (reading_view d.reading) (answer_view d.answer) xs (registers_now w.registers)) (subst HasSums same sums start after instances is);
    tells = λ start after instances is. subst (λ x. Tells after (instances ++ instances_in (world_now w).log) x) (sym kept) (subst AreTold same told start after instances is);
  }

-- ---- the whole turn

module _ (meter turns : ℕ) (k : Ledger) (is : IsKept (parts meter (Some k) turns)) (waits : 0 < length (kept_state k).waiting)
    (w : World) (now : world_now w ≡ kept_state k) (start : world_at_start w ≡ kept_state k) (ready : IsReady w)
    (m : World) (d : Delivered) (done : IsDelivered meter w m d) (back : IsUndoable w m) (new : Ledger) where
  turn_is : IsTurn (world_of w).rights (world_of m).rights (instances_of (world_of w).seats) m.sums (world_now m).log
  turn_is = is_turn meter w m ready d done back (world_now m).log refl

  pub turned : (o : Option TurnRecord) → IsEnded (turns + 1) m d new o → IsTurned meter turns (Some k) (Some new) o
  turned None undone =
      as_before meter turns k is w now start (record m { sums = new.sums }) back.rights.kept back.registers (undone.sums _ _ (still_tells w m ready back.sums)) new undone.world undone.between refl
  turned (Some t) ending =
      let tells = told_now meter w m ready d done back (world_now m).log refl new.sums (ending.tells _ _ _ turn_is) in
      let there : World = record m { sums = new.sums } in
      turn_made meter turns k is waits w now there (reading_view d.reading) (answer_view d.answer) (sums_of (world_of m).rights (moves_in (world_of m).log))
      (record { reading = done.reading; answer = done.answer; effects = record { now = done.effects.now; world = done.effects.world; turn = record { clean = done.effects.turn.clean; goes = done.effects.turn.goes; good = done.effects.turn.good; waits = done.effects.turn.waits } }; sums = refl; tells = tells })
      new t ending.world ending.between (ending.turn _ _ _ turn_is) refl

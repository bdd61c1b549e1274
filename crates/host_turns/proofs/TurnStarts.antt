-- A turn begins in a world that is ready for it, and is told to the running totals at its end.
use Rattle.std.specs.Prelude.{IfSome, Option, Some}
use Rattle.std.proofs.Common.{◌≡◌, ℕ, ◌<◌, List, [], ◌++◌, length, sym, ap, subst, ◌∙◌}
use Rattle.front_turns.proofs.draft_reads.Undoing.{clean_goes}
use Rattle.front_turns.specs.host_world.Worlds.{IsUndoable, kept_state, world_at_start, world_now, world_of}
use Rattle.front_turns.specs.host_world.declared.Ledger.{Ledger}
use Rattle.front_turns.specs.host_world.declared.World.{World}
use Rattle.front_turns.specs.registers.RegisterStates.{front_of}
use Rattle.front_turns.specs.turn_records.Deliveries.{Delivery}
use Rattle.front_turns.specs.turn_records.Events.{Event}
use Rattle.host_turns.specs.Totals.{IsTurn, Tells, TellsWorld, TurnOf, instances_in, instances_of}
use Rattle.host_turns.proofs.SeatNumbers.{seats_told}
use Rattle.front_turns.specs.escrow.Told.{EscrowState}
use Rattle.front_turns.specs.vault.Drafts.{IsClean, IsValid}
use Rattle.front_turns.specs.world_state.Good.{IsGoodWorld}
use Rattle.front_turns.specs.world_state.Worlds.{State, after_all, behind, in_front}
use Rattle.front_turns.proofs.TurnEffects.{turn_begins}
use Rattle.front_turns.proofs.EffectLists.{fronted}
use Rattle.front_turns.specs.FrontTurns.{IsBegun, IsDelivered, turn_in}
use Rattle.host_turns.specs.HostStates.{IsKept, host_of}
use Rattle.host_turns.specs.TurnSteps.{parts}
use Rattle.front_turns.specs.declared.turns.Delivered.{Delivered}
use Rattle.host_turns.proofs.StoredTurns.{effects_good, effects_told}

-- ---- the beginning

-- a turn has begun, in which nothing has happened, and the running totals are those of its world
pub record IsReady (w : World) : Type 0 where
  pub begun : IsBegun w
  pub untold : (world_of w).log ≡ []
  pub sums : TellsWorld (world_of w) w.sums

module _ (meter turns : ℕ) (k : Ledger) (is : IsKept (parts meter (Some k) turns)) (waits : 0 < length (kept_state k).waiting)
    (w : World) (now : world_now w ≡ kept_state k) (start : world_at_start w ≡ kept_state k) (clean : IsClean w.draft) (valid : IsValid w.draft) (sums : w.sums ≡ k.sums) where
  pub ready : IsReady w
  ready =
      let s = kept_state k in
      record {
        begun = record {
          turn = turn_begins w s now clean (clean_goes w.draft valid clean) is.good.world waits;
          same = start ∙ sym now;
          good = subst IsGoodWorld (sym now) is.good.world;
        };
        untold = ap (λ (v : State). v.log) now ∙ is.good.untold;
        sums = subst (λ v. TellsWorld (behind v) w.sums) (sym now) (subst (λ e. TellsWorld s e) (sym sums) is.rests.sums);
      }

-- ---- what was delivered is told

module _ (meter : ℕ) (old mid : World) (is : IsReady old) (t : Delivered) (done : IsDelivered meter old mid t) (back : IsUndoable old mid) where
  abbrev d : Delivery
  d = front_of (world_now old).waiting

  good : IsGoodWorld (in_front d (world_of old))
  good = subst IsGoodWorld (fronted (world_now old) is.begun.turn.waits) is.begun.good

  told_after : IsTurn (world_of old).rights (after_all (world_of old) (turn_in meter old).effects).rights (instances_of (world_of old).seats) old.sums (after_all (world_of old) (turn_in meter old).effects).log
  told_after = effects_told meter (world_of old) d good done.stored is.untold old.sums is.sums

  pub is_turn : (vs : List Event) → vs ≡ (world_now mid).log → IsTurn (world_of old).rights (world_of mid).rights (instances_of (world_of old).seats) mid.sums vs
  is_turn vs same =
      let P : State → EscrowState → Type 0 = λ v e. IsTurn (world_of old).rights v.rights (instances_of (world_of old).seats) e v.log in
      let there : P (world_of mid) mid.sums = subst (P (world_of mid)) (sym back.sums) (subst (λ v. P v old.sums) (sym done.effects.world) told_after) in
      subst (λ l. IsTurn (world_of old).rights (world_of mid).rights (instances_of (world_of old).seats) mid.sums l) (sym same) there

  pub turn_is_of : (vs : List Event) → vs ≡ (world_now mid).log → TurnOf mid.sums vs
  turn_is_of vs same = record { start = (world_of old).rights; after = (world_of mid).rights; instances = instances_of (world_of old).seats; turn = is_turn vs same }

  -- the totals are those of the world that the turn has come to
  pub told_now : (vs : List Event) → vs ≡ (world_now mid).log → (e : EscrowState) → Tells (world_of mid).rights (instances_of (world_of old).seats ++ instances_in vs) e → TellsWorld (world_of mid) e
  told_now vs same e tells =
      let es = (turn_in meter old).effects in
      let good_all = effects_good meter (world_of old) d good in
      let seats : instances_of (world_of old).seats ++ instances_in (world_of mid).log ≡ instances_of (world_of mid).seats =
      subst (λ (v : State). instances_of (world_of old).seats ++ instances_in v.log ≡ instances_of v.seats) (sym done.effects.world) (seats_told (world_of old) es good_all is.untold) in
      subst (λ ns. Tells (world_of mid).rights ns e) (ap (λ l. instances_of (world_of old).seats ++ instances_in l) same ∙ seats) tells

-- what the totals told before a turn they still tell, where they are as before
pub still_tells : (old mid : World) → IsReady old → mid.sums ≡ old.sums → TellsWorld (world_of old) mid.sums
still_tells old mid is same = subst (λ e. TellsWorld (world_of old) e) (sym same) is.sums

pub delivered_is : (meter : ℕ) (old new : World) (o : Option Delivered) (t : Delivered) → o ≡ Some t → IfSome o (IsDelivered meter old new) → IsDelivered meter old new t
delivered_is meter old new o t is h = let P : Option Delivered → Type 0 = λ x. IfSome x (IsDelivered meter old new) in subst P is h

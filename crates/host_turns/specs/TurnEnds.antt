-- A turn that has ended: it was told to the running totals, and is kept, or it is undone.
use Rattle.std.specs.Prelude.{◌≡◌, ℕ, ◌++◌, List, Option, None, Some}
use Rattle.run_laws.specs.delivery_turns.Hosts.{sums_of}
use Rattle.front_turns.specs.host_world.Turns.{IsBetween, ended}
use Rattle.front_turns.specs.host_world.Worlds.{kept_state, world_at_start, world_now}
use Rattle.front_turns.specs.host_world.declared.Ledger.{Ledger}
use Rattle.front_turns.specs.host_world.declared.World.{World}
use Rattle.front_turns.specs.declared.turns.Delivered.{Delivered}
use Rattle.front_turns.specs.registers.RegisterStates.{turn_ended}
use Rattle.front_turns.specs.registers.Stores.{registers_now}
use Rattle.front_turns.specs.turn_records.Views.{answer_view, reading_view, turn_view}
use Rattle.front_turns.specs.turn_records.declared.turns.TurnRecord.{TurnRecord}
use Rattle.front_turns.specs.turn_records.Events.{moves_in}
use Rattle.host_turns.specs.Totals.{IsTurn, Tells, instances_in}
use Rattle.front_turns.specs.world_state.Rights.{Rights}

-- what the turn did is kept; whatever rights it leads to, its sums are of these, and the totals tell them
pub record IsEnding (number : ℕ) (w : World) (d : Delivered) (k : Ledger) (t : TurnRecord) : Type 0 where
  pub world : kept_state k ≡ ended (world_now w)
  pub between : IsBetween k
  pub turn : (start after : Rights) (instances : List ℕ)
      → IsTurn start after instances w.sums (world_now w).log
      → turn_view t ≡ turn_ended number (reading_view d.reading) (answer_view d.answer)
      (sums_of after (moves_in (world_now w).log)) (registers_now w.registers)
  pub tells : (start after : Rights) (instances : List ℕ)
      → IsTurn start after instances w.sums (world_now w).log
      → Tells after (instances ++ instances_in (world_now w).log) k.sums

-- all is as at the turn's start, and the totals tell what they told
pub record IsUndone (w : World) (k : Ledger) : Type 0 where
  pub world : kept_state k ≡ world_at_start w
  pub between : IsBetween k
  pub sums : (r : Rights) (instances : List ℕ) → Tells r instances w.sums → Tells r instances k.sums

abbrev pub IsEnded : ℕ → World → Delivered → Ledger → Option TurnRecord → Type 0
IsEnded number w d k (Some t) = IsEnding number w d k t
IsEnded number w d k None = IsUndone w k

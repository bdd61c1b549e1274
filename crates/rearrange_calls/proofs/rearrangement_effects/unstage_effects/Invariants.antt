use Rattle.std.proofs.Common.{◌≡◌, map, take}
use Rattle.world_reads.specs.call_outcomes.Lists.{IsEachShaped, effects_view}
use Rattle.rules.specs.Rearranging.{seats_of}
use Rattle.rules.specs.world_state.Worlds.{unstage}
use Rattle.rearrange_calls.proofs.rearrangement_effects.unstage_effects.Given as goal

abbrev pub invariant-loop-one : goal.invariant-loop-one
invariant-loop-one l = record {
  so_far : effects_view l.effects ≡ map (λ seat. unstage seat) (seats_of (take l.one-index l.touched));
  shaped : IsEachShaped l.effects;
}

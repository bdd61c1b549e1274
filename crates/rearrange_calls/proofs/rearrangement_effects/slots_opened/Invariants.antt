use Rattle.std.proofs.Common.{◌≡◌, ◌*◌, ◌≤◌, take}
use Rattle.rearrange.specs.Moves.{opened_by}
use Rattle.rearrange_calls.proofs.rearrangement_effects.slots_opened.Given as goal

abbrev pub invariant-loop-one : goal.invariant-loop-one
invariant-loop-one l = record {
  so_far : l.opened ≡ opened_by (take l.one-index l.touched);
  bounded : l.opened ≤ 64 * l.one-index;
}

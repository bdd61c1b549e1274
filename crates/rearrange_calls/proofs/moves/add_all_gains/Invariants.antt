use Rattle.std.proofs.Common.{◌≡◌, ◌++◌, flat_map, map, take}
use Rattle.rearrange.specs.Moves.{gains_in}
use Rattle.rearrange_calls.proofs.moves.add_all_gains.Given as goal

abbrev pub invariant-loop-touched : goal.invariant-loop-touched
invariant-loop-touched l = l.moves.items ≡ l.initial.moves.items ++ flat_map gains_in (map (λ t. t.now) (take l.touched-index l.seats))

use Rattle.std.proofs.Common.{◌≡◌, flat_map, map, take}
use Rattle.rearrange.specs.Moves.{losses_in}
use Rattle.rearrange_calls.proofs.moves.losses.Given as goal

abbrev pub invariant-loop-touched : goal.invariant-loop-touched
invariant-loop-touched l = l.moves.items ≡ flat_map losses_in (map (λ t. t.now) (take l.touched-index l.seats))

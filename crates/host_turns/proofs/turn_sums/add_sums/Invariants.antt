use Rattle.std.specs.Vec.{vec_capacity, vec_len}
use Rattle.std.proofs.Common.{◌≡◌, ◌≤◌, ◌+◌, ◌-◌, ◌++◌, length, map, take}
use Rattle.front_turns.specs.escrow.Told.{sum_of}
use Rattle.host_turns.proofs.turn_sums.add_sums.Given as goal

abbrev pub invariant-loop-brand : goal.invariant-loop-brand
invariant-loop-brand l = (l.made.items ≡ l.initial.made.items ++ map (sum_of l.sums) (take l.brand-index l.brands)) × (vec_len l.made + (length l.brands - l.brand-index) ≤ vec_capacity l.made)

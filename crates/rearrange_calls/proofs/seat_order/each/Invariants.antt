use Rattle.std.proofs.Common.{◌≡◌, map, take}
use Rattle.rearrange_calls.proofs.seat_order.each.Given as goal

abbrev pub invariant-loop-one : goal.invariant-loop-one
invariant-loop-one l = map (λ t. t.now) l.all.items ≡ take l.one-index l.touched

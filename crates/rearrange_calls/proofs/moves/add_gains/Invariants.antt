use Rattle.std.proofs.Common.{◌≡◌, ◌++◌, flat_map, take}
use Rattle.rearrange.specs.Moves.{if_some, gained_by, from_hand}
use Rattle.rearrange_calls.proofs.moves.add_gains.Given as goal

abbrev pub invariant-loop-share : goal.invariant-loop-share
invariant-loop-share l = l.moves.items ≡ l.initial.moves.items ++ flat_map (λ r. if_some (from_hand l.touched.seat r (gained_by l.touched.before r))) (take l.share-index l.touched.after)

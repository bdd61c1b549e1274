use Rattle.std.specs.Prelude.{map}
use Rattle.std.proofs.Common.{◌≡◌, take}
use Rattle.rules.specs.Rearranging.{seat_trees}
use Rattle.share_transfers.specs.Views.{parts_views, tree_at}
use Rattle.share_transfers.proofs.named_seats.seat_parts.Given as goal

abbrev pub invariant-loop-parts : goal.invariant-loop-parts
invariant-loop-parts l = map tree_at l.all.items ≡ seat_trees (parts_views (take l.parts-index l.list))

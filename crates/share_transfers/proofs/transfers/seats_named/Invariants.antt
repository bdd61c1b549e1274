use Rattle.std.proofs.Common.{◌≡◌, take}
use Rattle.rearrange.specs.Seats.{seats_named}
use Rattle.share_transfers.specs.Views.{transfer_views}
use Rattle.share_transfers.proofs.transfers.seats_named.Given as goal

abbrev pub invariant-loop-transfer : goal.invariant-loop-transfer
invariant-loop-transfer l = l.seats.items ≡ seats_named (transfer_views (take l.transfer-index l.list))

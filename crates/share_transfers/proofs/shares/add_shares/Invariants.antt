use Rattle.std.specs.Prelude.{Some}
use Rattle.std.proofs.Common.{◌≡◌, ◌++◌, take}
use Rattle.call_arguments.specs.Records.{shares_data}
use Rattle.rules.specs.Rearranging.{shares_for}
use Rattle.share_transfers.specs.Views.{seat_shares}
use Rattle.share_transfers.proofs.shares.add_shares.Given as goal

abbrev pub invariant-loop-share : goal.invariant-loop-share
invariant-loop-share l = seat_shares l.all.items ≡ seat_shares l.initial.all.items ++ shares_for (Some l.seat) (shares_data (take l.share-index l.shares))

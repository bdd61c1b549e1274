use Rattle.std.specs.Prelude.{flat_map}
use Rattle.std.proofs.Common.{◌≡◌, take}
use Rattle.rules.specs.Rearranging.{shares_asked}
use Rattle.share_transfers.specs.Views.{asked_views, seat_shares}
use Rattle.share_transfers.proofs.shares.shares_asked.Given as goal

abbrev pub invariant-loop-given : goal.invariant-loop-given
invariant-loop-given l = seat_shares l.all.items ≡ flat_map shares_asked (asked_views (take l.given-index l.read))

use Rattle.std.proofs.Common.{◌≡◌, drop}
use Rattle.rules.specs.Rearranging.{transfers_of}
use Rattle.share_transfers.proofs.Valued.{with_before}
use Rattle.share_transfers.specs.Views.{asked_views, transfer_views}
use Rattle.share_transfers.proofs.values.transfers_of.Given as goal

abbrev pub invariant-loop-given : goal.invariant-loop-given
invariant-loop-given l = transfers_of (asked_views l.read) ≡ with_before (transfer_views l.list.items) (transfers_of (asked_views (drop l.given-index l.read)))

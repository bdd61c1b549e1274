use Rattle.std.proofs.Common.{◌≡◌, drop}
use Rattle.call_arguments.specs.Records.{first_ill}
use Rattle.share_transfers.specs.Views.{keywords_of, seat_shares}
use Rattle.share_transfers.proofs.keywords.first_ill.Given as goal

abbrev pub invariant-loop-share : goal.invariant-loop-share
invariant-loop-share l = first_ill (keywords_of (seat_shares (drop l.share-index l.shares))) ≡ first_ill (keywords_of (seat_shares l.shares))

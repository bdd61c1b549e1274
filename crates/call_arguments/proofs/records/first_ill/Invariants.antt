use Rattle.std.proofs.Common.{◌≡◌, drop}
use Rattle.call_arguments.specs.Records.{first_ill, keywords, shares_data}
use Rattle.call_arguments.proofs.records.first_ill.Given as goal

abbrev pub invariant-loop-share : goal.invariant-loop-share
invariant-loop-share l = first_ill (keywords (shares_data (drop l.share-index l.shares))) ≡ first_ill (keywords (shares_data l.shares))

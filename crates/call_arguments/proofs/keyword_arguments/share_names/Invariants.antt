use Rattle.std.proofs.Common.{◌≡◌, take}
use Rattle.call_arguments.specs.Records.{keywords, shares_data}
use Rattle.call_arguments.specs.Keywords.{texts}
use Rattle.call_arguments.proofs.keyword_arguments.share_names.Given as goal

abbrev pub invariant-loop-share : goal.invariant-loop-share
invariant-loop-share l = texts l.names.items ≡ keywords (shares_data (take l.share-index l.shares))

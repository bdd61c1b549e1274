use Rattle.std.specs.Prelude.{All}
use Rattle.std.proofs.Common.{◌≡◌, ◌<◌, ◌^◌, IsNone, drop, take}
use Rattle.call_arguments.specs.Numbers.{least_of}
use Rattle.call_arguments.specs.Records.{shares_data}
use Rattle.rules.specs.Proposals.{least_strange}
use Rattle.offer_calls.proofs.keywords.least_strange.Given as goal

abbrev pub invariant-loop-share : goal.invariant-loop-share
invariant-loop-share l = record {
  is : least_of l.least (least_strange l.issuers (shares_data (drop l.share-index l.shares))) ≡ least_strange l.issuers (shares_data l.shares);
  small : IsNone l.least → All (λ r. r.amount.brand < 2 ^ 16) (take l.share-index l.shares);
}

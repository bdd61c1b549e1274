use Rattle.host_data.proofs.ReadLists.{IsRead}
use Rattle.rules.specs.call_arguments.Records.{share_data}
use Rattle.contract_reads.specs.Valued.{valued_share}
use Rattle.contract_reads.proofs.shares.valued_shares.Given as goal

abbrev pub invariant-loop-share : goal.invariant-loop-share
invariant-loop-share l = IsRead valued_share share_data l.shares l.share-index l.made.items

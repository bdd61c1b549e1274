use Rattle.std.proofs.Common.{◌≡◌, drop}
use Rattle.rules.specs.call_arguments.Records.{share_data}
use Rattle.rules.specs.Given.{is_other}
use Rattle.contract_reads.proofs.misfits.is_other.Given as goal

abbrev pub invariant-loop-share : goal.invariant-loop-share
invariant-loop-share l = is_other (drop l.share-index l.shares) (share_data l.given) ≡ is_other l.shares (share_data l.given)

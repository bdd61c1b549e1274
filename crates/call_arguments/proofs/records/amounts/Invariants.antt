use Rattle.refusals.specs.host_data.View.{named}
use Rattle.refusals.proofs.host_data.ReadLists.{IsRead}
use Rattle.call_arguments.specs.Records.{share_in, shares_data}
use Rattle.call_arguments.proofs.records.amounts.Given as goal

abbrev pub invariant-loop-keyword : goal.invariant-loop-keyword
invariant-loop-keyword l = IsRead share_in named l.fields l.keyword-index (shares_data l.shares.items)

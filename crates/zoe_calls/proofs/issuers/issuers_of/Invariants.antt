use Rattle.host_data.specs.View.{named}
use Rattle.host_data.proofs.ReadLists.{IsRead}
use Rattle.rules.specs.Zoe.{issuer_in}
use Rattle.zoe_calls.proofs.issuers.issuers_of.Given as goal

abbrev pub invariant-loop-name : goal.invariant-loop-name
invariant-loop-name l = IsRead issuer_in named l.fields l.name-index l.issuers.items

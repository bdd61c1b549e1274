-- A share with the value that its data stands for.
use Rattle.std.specs.Prelude.{Option, option_map}
use Rattle.rules.specs.proposals.Shares.{keyed_share}
use Rattle.rules.specs.proposals.declared.allocations.Share.{Share}
use Rattle.rules.specs.call_arguments.Records.{ShareData, share_value}
use Rattle.rules.specs.vault_model.Lists.{amount_of}

abbrev pub valued_share : ShareData → Option Share
valued_share r = option_map (λ v. keyed_share r.keyword (amount_of r.amount.brand v)) (share_value r)

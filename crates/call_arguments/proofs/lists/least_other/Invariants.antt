use Rattle.std.proofs.Common.{◌≡◌, drop, map}
use Rattle.refusals.specs.host_data.Amounts.{amount_data}
use Rattle.call_arguments.specs.Numbers.{least_of}
use Rattle.call_arguments.specs.Lists.{least_other}
use Rattle.call_arguments.proofs.lists.least_other.Given as goal

abbrev pub invariant-loop-amount : goal.invariant-loop-amount
invariant-loop-amount l = least_of l.least (least_other l.brand (map amount_data (drop l.amount-index l.amounts))) ≡ least_other l.brand (map amount_data l.amounts)

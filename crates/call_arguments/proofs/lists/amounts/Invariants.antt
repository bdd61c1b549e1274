use Rattle.std.proofs.Common.{map}
use Rattle.refusals.specs.host_data.View.{tree}
use Rattle.refusals.specs.host_data.Amounts.{amount_data, amount_fields}
use Rattle.refusals.proofs.host_data.ReadLists.{IsRead}
use Rattle.call_arguments.proofs.lists.amounts.Given as goal

abbrev pub invariant-loop-item : goal.invariant-loop-item
invariant-loop-item l = IsRead amount_fields tree l.items l.item-index (map amount_data l.amounts.items)

use Rattle.host_data.proofs.ReadLists.{IsRead}
use Rattle.host_data.specs.View.{tree}
use Rattle.rules.specs.Rearranging.{parts_in}
use Rattle.share_transfers.specs.Views.{parts_views}
use Rattle.share_transfers.proofs.parts.all_parts.Given as goal

abbrev pub invariant-loop-item : goal.invariant-loop-item
invariant-loop-item l = IsRead parts_in tree l.items l.item-index (parts_views l.list.items)

use Rattle.host_data.proofs.ReadLists.{IsRead}
use Rattle.rules.specs.Rearranging.{asked_in}
use Rattle.share_transfers.specs.Views.{asked_views, parts_view}
use Rattle.share_transfers.proofs.shares.transfers_asked.Given as goal

abbrev pub invariant-loop-parts : goal.invariant-loop-parts
invariant-loop-parts l = IsRead asked_in parts_view l.list l.parts-index (asked_views l.read.items)

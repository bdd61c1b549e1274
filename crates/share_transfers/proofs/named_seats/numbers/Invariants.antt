use Rattle.host_data.proofs.ReadLists.{IsRead}
use Rattle.call_arguments.specs.Arguments.{object_in}
use Rattle.host_data.specs.declared.data.ObjKind.TheVariants as kinds
use Rattle.share_transfers.specs.Views.{tree_at}
use Rattle.share_transfers.proofs.named_seats.numbers.Given as goal

abbrev pub invariant-loop-part : goal.invariant-loop-part
invariant-loop-part l = IsRead (object_in kinds.Zseat) tree_at l.parts l.part-index l.numbers.items

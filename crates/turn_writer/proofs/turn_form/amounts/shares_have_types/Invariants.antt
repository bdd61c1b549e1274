use Rattle.std.proofs.Common.{take}
use Rattle.std.specs.List.{All}
use Rattle.turn_records.specs.Tellable.{IsTellableShare}
use Rattle.turn_writer.proofs.turn_form.amounts.shares_have_types.Given as goal

abbrev pub invariant-loop-share : goal.invariant-loop-share
invariant-loop-share l = All IsTellableShare (take l.share-index l.shares)

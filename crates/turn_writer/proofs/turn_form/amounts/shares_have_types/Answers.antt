use Rattle.std.proofs.Common.{subst, arith}
use Rattle.std.proofs.lemmas.List.{take_all}
use Rattle.std.proofs.lemmas.List.Elements.{All-more, recursion_from_All}
use Rattle.turn_records.specs.Tellable.{IsTellableShare}
use Rattle.turn_writer.proofs.turn_form.amounts.shares_have_types.Goals as goal

pub loop-share-preserved : goal.loop-share-preserved
loop-share-preserved c = All-more IsTellableShare c.args.shares.now c.loop-share.share-index c.share-item.result (omega arith) c.loop-share.invariant (subst IsTellableShare c.share-item.is c.share_has_types.ensures)

pub returns : goal.returns
returns c = recursion_from_All IsTellableShare c.args.shares.now (rw (take_all c.loop-share.share-index c.args.shares.now (omega arith)) at c.loop-share.invariant)

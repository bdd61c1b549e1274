use Rattle.std.proofs.lemmas.Result.{err_from_is_err_and}
use Rattle.proposals.specs.Gains.{IsApart}
use Rattle.proposals.proofs.Firsts.{all_taken, apart_refused}
use Rattle.proposals.proofs.gains.check_apart.Goals as goal

pub returns-in_err-check_share_apart-clause-refused : goal.returns-in_err-check_share_apart-clause-refused
returns-in_err-check_share_apart-clause-refused c =
    let p = err_from_is_err_and c.from_residual.result c.from_residual.ensures.1 in
    rw (p.1, p.2) (apart_refused c.args.slots.now c.args.gains.now c.loop-share.share-index c.share-item.result c.loop-share-test.true c.share-item.is c.loop-share.invariant _ c.in_err-check_share_apart.ensures.refused c.in_err-check_share_apart.ensures.overlap)

pub returns-clause-ok : goal.returns-clause-ok
returns-clause-ok c = λ _. all_taken (IsApart c.args.slots.now) c.args.gains.now c.loop-share.share-index c.loop-share-test.false c.loop-share.invariant

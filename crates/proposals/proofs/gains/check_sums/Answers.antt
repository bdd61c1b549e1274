use Rattle.std.proofs.Common.{refl, subst}
use Rattle.std.proofs.lemmas.List.Elements.{All-more}
use Rattle.std.proofs.lemmas.Result.{err_from_is_err_and}
use Rattle.proposals.specs.Gains.{CanGain}
use Rattle.proposals.proofs.Firsts.{all_taken, sums_refused}
use Rattle.proposals.proofs.gains.check_sums.Goals as goal

pub returns-in_err-check_share-clause-refused : goal.returns-in_err-check_share-clause-refused
returns-in_err-check_share-clause-refused c =
    let p = err_from_is_err_and c.from_residual.result c.from_residual.ensures.1 in
    rw (p.1, p.2) (sums_refused c.args.slots.now c.args.gains.now c.loop-share.share-index c.share-item.result c.loop-share-test.true c.share-item.is c.requires.apart c.loop-share.invariant _ c.in_err-check_share.ensures.refused)

pub loop-share-preserved : goal.loop-share-preserved
loop-share-preserved c = All-more (CanGain c.args.slots.now) c.args.gains.now c.loop-share.share-index c.share-item.result c.loop-share-test.true c.loop-share.invariant (subst (CanGain c.args.slots.now) c.share-item.is (c.in_ok-check_share.ensures.ok refl))

pub returns-clause-ok : goal.returns-clause-ok
returns-clause-ok c = λ _. all_taken (CanGain c.args.slots.now) c.args.gains.now c.loop-share.share-index c.loop-share-test.false c.loop-share.invariant

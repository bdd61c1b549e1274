use Rattle.std.proofs.Common.{rules, arith, ap, sym, ◌∙◌, length}
use Rattle.std.proofs.lemmas.Slice.Zip.{zip_end}
use Rattle.ertp_calls.specs.host_world.Worlds.{world_of}
use Rattle.refusals.specs.Codes.{wrong_amount}
use Rattle.refusals.specs.Outcomes.{none_such}
use Rattle.offer_calls.proofs.Pairs.{wrong_end}
use Rattle.offer_calls.proofs.payments.check_amounts.Goals as goal

pub returns : goal.returns
unfolding none_such
returns c =
    let all = zip_end c.args.give.now c.args.payments.now c.loop-share.yielded c.into_iter-share-iterator.result c.loop-share.share-iterator c.next.new.self c.next.result (search rules) (search rules) c.loop-share.yielded_by (search rules) (search rules) in
    ap (λ o. none_such o (λ v. wrong_amount v.0 v.1)) (sym c.loop-share.invariant ∙ wrong_end c.args.give.now c.args.payments.now (length c.loop-share.yielded) (world_of c.args.world.now) (omega (arith, all)))

use Rattle.std.proofs.Common.{rules, arith, ap, sym, ◌∙◌, ◌++◌, length}
use Rattle.std.proofs.lemmas.List.{append-nil, length_push}
use Rattle.std.proofs.lemmas.Slice.Zip.{zip_end, zip_turn}
use Rattle.offer_calls.proofs.Pairs.{escrows_end, escrows_more}
use Rattle.offer_calls.proofs.offer.escrows_of.Goals as goal

pub loop-share-preserved : goal.loop-share-preserved
loop-share-preserved c =
    let at = zip_turn c.args.give.now c.args.payments.now c.loop-share.yielded c.into_iter-share-iterator.result c.loop-share.share-iterator c.next.new.self c.next.result (search rules) (search rules) c.loop-share.yielded_by (c.in-Some.share, c.in-Some.payment) (search rules) (search rules) in
    let more = escrows_more c.args.give.now c.args.payments.now (length c.loop-share.yielded) c.in-Some.share.now c.in-Some.payment.now at.0 at.1 (at.2 c.in-Some.share.now) (at.3 c.in-Some.payment.now) c.args.seat c.loop-share.escrows.items _ c.loop-share.invariant in
    rw (length_push c.loop-share.yielded (c.in-Some.share, c.in-Some.payment), c.in_ok-push_escrow.ensures) more

pub returns : goal.returns
returns c =
    let all = zip_end c.args.give.now c.args.payments.now c.loop-share.yielded c.into_iter-share-iterator.result c.loop-share.share-iterator c.next.new.self c.next.result (search rules) (search rules) c.loop-share.yielded_by (search rules) (search rules) in
    let none = escrows_end c.args.give.now c.args.payments.now (length c.loop-share.yielded) c.args.seat (omega (arith, all)) in
    sym (append-nil _) ∙ ap (λ rest. c.loop-share.escrows.items ++ rest) (sym none) ∙ c.loop-share.invariant

use Rattle.std.specs.Prelude.{All, IsNone}
use Rattle.std.proofs.Common.{◌<◌, ◌^◌, sym, subst, ◌∙◌, take_all}
use Rattle.rules.specs.Proposals.{least_strange}
use Rattle.call_arguments.specs.Records.{shares_data}
use Rattle.offer_calls.proofs.Strange.{known_more, none_then, small_more, strange_more}
use Rattle.offer_calls.proofs.keywords.least_strange.Goals as goal
use Rattle.offer_calls.proofs.keywords.least_strange.Goals.{then-not-is_known, else-not-is_known}

pub loop-share-preserved : goal.loop-share-preserved
loop-share-preserved c =
    let issuers = c.args.issuers.now in
    let shares = c.args.shares.now in
    let i = c.loop-share.share-index in
    let x = c.share-item.result in
    let all = least_strange issuers (shares_data shares) in
    elim c.if-not-is_known.branch [
      | then-not-is_known w ↦
          let e = w.least-is ∙ w.least_of-least.ensures in
          record {
            is = rw e (strange_more issuers shares i x c.loop-share-test.true c.share-item.is c.loop-share.least all (sym c.is_known.ensures.is ∙ w.if-not-is_known.true) c.loop-share.invariant.is);
            small = λ none. absurd (none_then c.loop-share.least x.amount.brand (subst IsNone e none));
          }
      | else-not-is_known w ↦
          record {
            is = rw w.least-is (known_more issuers shares i x c.loop-share-test.true c.share-item.is c.loop-share.least all (sym c.is_known.ensures.is ∙ w.if-not-is_known.false) c.loop-share.invariant.is);
            small = λ none. small_more issuers shares i x c.loop-share-test.true c.share-item.is (c.loop-share.invariant.small (subst IsNone w.least-is none)) (c.is_known.ensures.small w.if-not-is_known.false);
          }
    ]

pub returns-clause-small : goal.returns-clause-small
returns-clause-small c = λ none. subst (λ shares. All (λ r. r.amount.brand < 2 ^ 16) shares) (take_all c.loop-share.share-index c.args.shares.now c.loop-share-test.false) (c.loop-share.invariant.small none)

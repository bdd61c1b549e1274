use Rattle.std.proofs.Common.{◌≡◌, true, rules, sym, subst}
use Rattle.host_data.proofs.ReadLists.{read_more}
use Rattle.refusals.specs.host_text.Words.{is_keyword}
use Rattle.rules.specs.call_arguments.Records.{share_data}
use Rattle.rules.specs.call_arguments.declared.records.GivenShare.{GivenShare}
use Rattle.refusals.proofs.Steps.{wanted_there}
use Rattle.contract_reads.specs.Brands.{HasSmallBrand}
use Rattle.contract_reads.specs.Valued.{valued_share}
use Rattle.contract_reads.proofs.Values.{all_there, keywords_named, stopped}
use Rattle.contract_reads.proofs.shares.valued_shares.Goals as goal

pub valued_share-requires-clause-named : goal.valued_share-requires-clause-named
valued_share-requires-clause-named c = subst (λ (r : GivenShare). is_keyword r.keyword.now ≡ true) (sym c.share-item.is) (keywords_named c.args.shares.now c.requires.named c.loop-share.share-index c.share-item.result c.loop-share-test.true)

pub valued_share-requires-clause-small : goal.valued_share-requires-clause-small
valued_share-requires-clause-small c = subst HasSmallBrand (sym c.share-item.is) (c.requires.small c.loop-share.share-index c.share-item.result c.loop-share-test.true)

pub loop-share-preserved : goal.loop-share-preserved
loop-share-preserved c =
    let read = wanted_there _ _ _ c.in_ok-valued_share.ensures in
    rw c.in_ok-push.ensures.items (read_more valued_share share_data c.args.shares.now c.loop-share.share-index c.loop-share.made.items c.loop-share.invariant c.share-item.result c.in_ok-valued_share.field-0 c.loop-share-test.true c.share-item.is read)

pub returns-in_err-valued_share : goal.returns-in_err-valued_share
returns-in_err-valued_share c =
    let fails = stopped _ c.args.shares.now c.loop-share.share-index c.loop-share.made.items c.share-item.result c.loop-share.invariant c.loop-share-test.true c.share-item.is c.in_err-valued_share.ensures in
    search rules

pub returns : goal.returns
returns c = all_there c.args.shares.now c.loop-share.share-index c.loop-share.made.items c.loop-share.invariant c.loop-share-test.false

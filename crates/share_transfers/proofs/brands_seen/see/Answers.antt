use Rattle.std.proofs.Common.{◌∙◌, Option, Some, ap, refl, subst}
use Rattle.std.specs.BTreeMap.{UpdatesBy}
use Rattle.share_transfers.specs.BrandsSeen.{with_brand}
use Rattle.share_transfers.specs.Views.{seat_share}
use Rattle.share_transfers.specs.declared.brands_seen.Brands.{Brands}
use Rattle.share_transfers.proofs.BrandsSeen.{Key, key_cmp, seen_more}
use Rattle.share_transfers.proofs.brands_seen.see.Goals as goal

pub returns : goal.returns
returns c =
    let key : Key = (c.args.share.now.seat, c.as_str.result) in
    let brand = c.args.share.now.share.amount.brand in
    let is = c.with_brand-brands.ensures ∙ ap (λ (o : Option Brands). with_brand o brand) c.brands_of.ensures in
    let puts = subst (λ (b : Brands). UpdatesBy key_cmp (key_cmp key) c.args.seen.now c.insert.new.self (Some b)) is c.in_ok-insert.ensures.updates in
    λ before seen. seen_more c.args.seen.now c.insert.new.self key (seat_share c.args.share.now) refl c.as_str.ensures puts before seen

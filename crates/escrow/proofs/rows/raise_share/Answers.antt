use Rattle.std.proofs.Common.{◌≡◌, ◌+◌, ap, sym, refl, arith}
use Rattle.std.specs.Prelude.{unwrap_or}
use Rattle.escrow.specs.Rows.{share_at}
use Rattle.escrow.proofs.RowReads.{share_raised, still_there}
use Rattle.escrow.proofs.rows.raise_share.Goals as goal

pub returns-clause-share : goal.returns-clause-share
returns-clause-share c =
    let rows = c.args.rows.now.entries in
    let more = c.in-Some-get_mut.share.now + c.args.count in
    let x = c.in-Some.instance in
    let written = c.get_mut.follows.holds more in
    let updates = written.3 (rw (sym c.in-Some-get_mut.ensures.value) refl) in
    let was : share_at rows x c.args.brand ≡ c.in-Some-get_mut.share.now = ap (λ o. unwrap_or o 0) (sym c.in-Some-get_mut.ensures.value) in
    let total : more ≡ share_at rows x c.args.brand + c.args.count = omega (arith, was) in
    share_raised rows _ x c.args.brand more updates.0 c.args.instances.now c.args.holder.now c.args.count c.in-Some.ensures total

pub returns-clause-kept : goal.returns-clause-kept
returns-clause-kept c =
    let written = c.get_mut.follows.holds (c.in-Some-get_mut.share.now + c.args.count) in
    let updates = written.3 (rw (sym c.in-Some-get_mut.ensures.value) refl) in
    λ i b. still_there _ _ _ _ (updates.0 (i, b))

-- What may come out of a brand, by the test that was passed.
use Rattle.std.proofs.Common.{◌≡◌, ◌+◌, ◌≤◌, Ok}
use Rattle.std.proofs.lemmas.Bool.{leb-true}
use Rattle.world_laws.specs.amount_math.Content.{Content, sum}
use Rattle.world_laws.specs.amount_math.Counted.{counted}
use Rattle.world_laws.specs.amount_math.ValueView.{Fits, minted_bound}
use Rattle.world_laws.specs.ertp_mint.BrandSupply.{BrandSupply}
use Rattle.world_laws.proofs.refusals.Steps.{need_holds}
use Rattle.rules.specs.value_tests.Tests.{can_come_out, counts_fit, minted_fits}
use Rattle.rule_laws.proofs.GivenShares.{passed}
use Rattle.rule_laws.proofs.Sums.{fits_if}

-- no count of what is out then passes its bound, nor does the total of what was minted
pub record ComesOut (s : BrandSupply) (c : Content) : Type 0 where
  pub fits : Fits s.outstanding.kind (sum s.outstanding.content c)
  pub minted : s.minted + counted c ≤ minted_bound

pub comes_out : (s : BrandSupply) (c : Content) → can_come_out s c ≡ Ok tt → ComesOut s c
unfolding can_come_out minted_fits
comes_out s c is =
    let kind = s.outstanding.kind in
    let out = sum s.outstanding.content c in
    let both = passed (counts_fit kind out) (minted_fits s c) is in
    record {
      fits = fits_if kind out tt both.0;
      minted = leb-true (s.minted + counted c) minted_bound (need_holds _ _ tt both.1);
    }

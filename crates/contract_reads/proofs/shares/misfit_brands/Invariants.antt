use Rattle.std.specs.List.{All}
use Rattle.std.specs.Prelude.{filter}
use Rattle.std.proofs.Common.{◌≡◌, [], take}
use Rattle.rules.specs.call_arguments.Records.{brands_in, shares_data}
use Rattle.contract_reads.specs.Brands.{HasSmallBrand}
use Rattle.contract_reads.proofs.shares.misfit_brands.Given as goal

abbrev pub invariant-loop-share : goal.invariant-loop-share
invariant-loop-share g l = record {
  brands : l.brands.items ≡ brands_in (filter (g.T.ShareTest.is_misfit l.test) (shares_data (take l.share-index l.shares)));
  small : l.brands.items ≡ [] → All HasSmallBrand (take l.share-index l.shares);
}

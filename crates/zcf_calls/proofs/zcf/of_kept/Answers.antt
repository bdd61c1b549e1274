use Rattle.zcf_calls.proofs.zcf.of_kept.Goals as goal

pub returns-in-getTerms : goal.returns-in-getTerms
returns-in-getTerms c = rw c.in-getTerms.is (c.outcome_of_reading.ensures _ c.get_terms.ensures)

pub returns-in-getBrandForIssuer : goal.returns-in-getBrandForIssuer
returns-in-getBrandForIssuer c = rw c.in-getBrandForIssuer.is (c.outcome_of_reading-in-getBrandForIssuer.ensures _ c.get_brand_for_issuer.ensures)

pub returns-in-getIssuerForBrand : goal.returns-in-getIssuerForBrand
returns-in-getIssuerForBrand c = rw c.in-getIssuerForBrand.is (c.outcome_of_reading-in-getIssuerForBrand.ensures _ c.get_issuer_for_brand.ensures)

pub returns-in-getAssetKind : goal.returns-in-getAssetKind
returns-in-getAssetKind c = rw c.in-getAssetKind.is (c.outcome_of_reading-in-getAssetKind.ensures _ c.get_asset_kind.ensures)

pub returns-in-assertUniqueKeyword : goal.returns-in-assertUniqueKeyword
returns-in-assertUniqueKeyword c = rw c.in-assertUniqueKeyword.is (c.outcome_of_reading-in-assertUniqueKeyword.ensures _ c.assert_unique_keyword.ensures)

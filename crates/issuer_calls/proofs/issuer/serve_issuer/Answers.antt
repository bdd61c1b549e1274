use Rattle.issuer_calls.proofs.issuer.serve_issuer.Goals as goal

pub returns-in-getAllegedName : goal.returns-in-getAllegedName
returns-in-getAllegedName c = rw c.in-getAllegedName.is (c.outcome_of_reading.ensures _ c.get_alleged_name.ensures)

pub returns-in-getAssetKind : goal.returns-in-getAssetKind
returns-in-getAssetKind c = rw c.in-getAssetKind.is (c.outcome_of_reading-in-getAssetKind.ensures _ c.get_asset_kind.ensures)

pub returns-in-getAmountOf : goal.returns-in-getAmountOf
returns-in-getAmountOf c = rw c.in-getAmountOf.is (c.outcome_of_reading-in-getAmountOf.ensures _ c.get_amount_of.ensures)

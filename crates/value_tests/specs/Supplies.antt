-- What is out of a brand and what was minted of it, as lists of supplies show it.
use Rattle.std.specs.Prelude.{ℕ, List, map}
use Rattle.transit.specs.ertp_mint.BrandSupply.{BrandSupply, supply_at}
use Rattle.transit.specs.Transit.{TransitView}

abbrev pub supplies_of : TransitView → List BrandSupply
supplies_of t = map (λ x. x.supply) t.out

abbrev pub listed_supply : TransitView → ℕ → BrandSupply
listed_supply t brand = supply_at (supplies_of t) brand

-- What is out of a brand is read in a list of supplies as it is of the brand itself.
use Rattle.std.proofs.Common.{◌≡◌, ℕ, zero, suc, List, [], ◌∷◌, map, Ok, refl, sym, subst}
use Rattle.refusals.specs.amount_math.ValueView.{Fits, ValueView}
use Rattle.refusals.specs.amount_math.declared.Kind.{Kind}
use Rattle.refusals.specs.amount_math.declared.PutFault.{PutFault}
use Rattle.transit.specs.ertp_mint.BrandSupply.{BrandSupply, IsMintRefusal, MayIssue, out_with, supply_at}
use Rattle.transit.specs.ertp_mint.Circulating.{CirculationView, circulation_at}
use Rattle.refusals.specs.Outcomes.{Fails}
use Rattle.refusals.specs.Told.{put_told}
use Rattle.transit.specs.Transit.{TransitView, supply_in}
use Rattle.value_tests.specs.Tests.{can_come_out}
use Rattle.value_tests.proofs.Sums.{comes_out, mint_refused}
use Rattle.value_tests.specs.Supplies.{listed_supply}

read_in : (l : List CirculationView) (b : ℕ) → supply_at (map (λ (x : CirculationView). x.supply) l) b ≡ (circulation_at l b).supply
read_in [] b = refl
read_in (x ∷ xs) zero = refl
read_in (x ∷ xs) (suc b) = read_in xs b

pub supply_is : (t : TransitView) (b : ℕ) → listed_supply t b ≡ supply_in t b
supply_is t b = read_in t.out b

-- the test of a value beside what is out, by what issuing it would be refused for
module _ (t : TransitView) (b : ℕ) (given : ValueView) (kind : (listed_supply t b).outstanding.kind ≡ given.kind) where
  pub may_come : MayIssue (supply_in t b) given → MayIssue (listed_supply t b) given
  may_come may = subst (λ (s : BrandSupply). MayIssue s given) (sym (supply_is t b)) may

  pub tested : MayIssue (supply_in t b) given → can_come_out (listed_supply t b) given.content ≡ Ok tt
  tested may =
      let here = may_come may in
      comes_out (listed_supply t b) given.content (subst (λ (k : Kind). Fits k (out_with (listed_supply t b) given.content)) (sym kind) here.fits) here.minted

  pub failed : (fault : PutFault) → IsMintRefusal (supply_in t b) given fault → Fails (put_told fault) (can_come_out (listed_supply t b) given.content)
  failed fault is = mint_refused (listed_supply t b) given kind fault (subst (λ (s : BrandSupply). IsMintRefusal s given fault) (sym (supply_is t b)) is)

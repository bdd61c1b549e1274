-- The brand and the kind that the tests give each keyword, so that amounts under one keyword meet.
use Rattle.std.specs.Prelude.{◌≡◌, ℕ, ◌||◌, List, All, IfSome, codes, if◌then◌else◌}
use Rattle.std.specs.Str.{bytes_eq}
use Rattle.seats.specs.amount_math.declared.Kind.{Kind}
use Rattle.seats.specs.amount_math.declared.Kind.TheVariants.{Nat, Set}
use Rattle.seats.specs.proposals.declared.allocations.Share.{Share}
use Rattle.seats.specs.proposals.declared.plans.SeatState.{SeatState}

-- what is sold is of brand 1, tokens that are told apart are of brand 3, and all else is money, of brand 2
abbrev pub brand_of : List ℕ → ℕ
brand_of keyword = if bytes_eq keyword (codes "Nft") then 3 else if bytes_eq keyword (codes "Asset") || (bytes_eq keyword (codes "Out") || bytes_eq keyword (codes "Y")) then 1 else 2

abbrev pub kind_of : List ℕ → Kind
kind_of keyword = if bytes_eq keyword (codes "Nft") then Set else Nat

-- a share of the brand and the kind of its keyword
pub record IsOfItsBrand (r : Share) : Type 0 where
  pub brand : r.amount.brand ≡ brand_of r.keyword
  pub kind : r.amount.value.kind ≡ kind_of r.keyword

abbrev pub AreOfTheirBrands : List Share → Type 0
AreOfTheirBrands shares = All IsOfItsBrand shares

-- all amounts of a seat
pub record HasBrands (s : SeatState) : Type 0 where
  pub slots : AreOfTheirBrands s.allocation
  pub staged : IfSome s.staged AreOfTheirBrands
  pub want : AreOfTheirBrands s.proposal.want
  pub give : AreOfTheirBrands s.proposal.give

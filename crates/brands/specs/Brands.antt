-- Brands by number, those at the turn's start and those of now.
use Rattle.std.specs.Prelude.{ℕ, ◌≤◌, List, [], ◌∷◌, length, slice_index_or, codes}
use Rattle.amount_math.specs.declared.Kind.{Kind}
use Rattle.amount_math.specs.declared.Kind.TheVariants.{Nat, Set}
use Rattle.brands.specs.declared.Brand.{Brand}

pub record BrandsState : Type 0 where
  pub start : List Brand
  pub now : List Brand

-- the most brands, brand 0 included
abbrev pub most_brands : ℕ
most_brands = 65535

abbrev pub brand_of : List ℕ → Kind → Brand
brand_of name kind = record { name = name; kind = kind }

-- what is read where no brand was made
abbrev pub no_brand : Brand
no_brand = brand_of [] Nat

abbrev pub brand_at : List Brand → ℕ → Brand
brand_at brands n = slice_index_or brands n no_brand

-- those of a new host: that of invitations
abbrev pub started : BrandsState
started = let first = brand_of (codes "Zoe Invitation") Set ∷ [] in record { start = first; now = first }

-- how it was is forgotten, and how it is
abbrev pub kept_at : BrandsState → BrandsState
kept_at b = record { start = b.now; now = b.now }

abbrev pub back_at : BrandsState → BrandsState
back_at b = record { start = b.start; now = b.start }

-- n of these brands, which are not too many, were there at the start
pub record IsWithin (n : ℕ) (brands : List Brand) : Type 0 where
  pub kept : n ≤ length brands
  pub few : length brands ≤ most_brands

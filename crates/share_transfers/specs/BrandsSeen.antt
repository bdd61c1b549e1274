-- The brands of the shares that were seen, by seat and keyword.
use Rattle.std.specs.Prelude.{◌≡◌, ℕ, ◌==◌, ◌&&◌, not, Bool, true, false, if◌then◌else◌}
use Rattle.std.specs.Prelude.{List, Option, None, Some}
use Rattle.std.specs.BTreeMap.{BTreeMap, get_by}
use Rattle.std.specs.Borrow.{Bor}
use Rattle.std.specs.Cmp.Lexicographic.{slice_cmp}
use Rattle.std.specs.List.{list_any}
use Rattle.std.specs.Ordering.{nat_cmp, ordering_then}
use Rattle.std.specs.Str.{bytes_eq}
use Rattle.rules.specs.Rearranging.{SeatShare}
use Rattle.share_transfers.specs.declared.brands_seen.Brands.{Brands}
use Rattle.share_transfers.specs.declared.brands_seen.Brands.TheVariants.{One, Several}

-- another brand than this one is among them
abbrev pub has_other : Option Brands → ℕ → Bool
has_other None brand = false
has_other (Some (One one)) brand = not (one == brand)
has_other (Some Several) brand = true

-- the brands with one more
abbrev pub with_brand : Option Brands → ℕ → Brands
with_brand None brand = One brand
with_brand (Some (One one)) brand = if one == brand then One one else Several
with_brand (Some Several) brand = Several

-- what stands under a seat and a keyword
abbrev pub brands_at : BTreeMap (ℕ × Bor (List ℕ)) Brands → ℕ → List ℕ → Option Brands
brands_at seen seat keyword =
    get_by (λ k. ordering_then (nat_cmp seat k.0) (slice_cmp nat_cmp keyword k.1.now)) seen

-- a share for the seat and the keyword, of another brand
abbrev pub is_of_other : ℕ → List ℕ → ℕ → SeatShare → Bool
is_of_other seat keyword brand s =
    (s.seat == seat && bytes_eq s.share.keyword keyword) && not (s.share.amount.brand == brand)

-- the shares that were seen: for each seat and keyword, a brand has another beside it where one of
-- them has
pub record HaveSeen (seen : BTreeMap (ℕ × Bor (List ℕ)) Brands) (before : List SeatShare)
    : Type 0 where
  pub each : (seat : ℕ) (keyword : List ℕ) (brand : ℕ)
      → has_other (brands_at seen seat keyword) brand ≡ list_any (is_of_other seat keyword brand) before

-- What is out of each brand, and by how much that passes what there may be.
use Rattle.std.specs.Prelude.{◌≡◌, ◌≢◌, ℕ, zero, suc, ◌-◌, ◌≤◌, List, refl}
use Rattle.std.specs.Coded.{Coded, code_by, coded×, coded_ℕ, coded_list}
use Rattle.std.specs.Ordering.{nat_cmp}
use Rattle.row_records.specs.amount_math.Content.{Content, coded_content, count}
use Rattle.row_records.specs.amount_math.ValueView.{bag_bound}
use Rattle.row_records.specs.amount_math.declared.Kind.{Kind}
use Rattle.row_records.specs.amount_math.declared.Kind.TheVariants.{Nat, Set, Bag}
use Rattle.row_records.specs.fair_rows.Values.{content_of}
use Rattle.row_records.specs.turn_rows.Editions.{nat_end}
use Rattle.row_records.specs.turn_rows.Turns.{Value}
use Rattle.row_records.specs.turn_rows.declared.editions.Edition.{Edition}
use Rattle.row_records.specs.turn_rows.declared.editions.Edition.TheVariants.{First, Second}
use Rattle.told_rights.specs.Shelves.{content_at}

-- by brand what is out of it, and of that as many of each element as there are too many
pub record Supply : Type 0 where
  pub edition : Edition
  pub out : List (ℕ × Content)
  pub over : List (ℕ × Content)

abbrev pub edition_number : Edition → ℕ
edition_number First = 1
edition_number Second = 2

abbrev pub edition_of : ℕ → Edition
edition_of zero = Second
edition_of (suc zero) = First
edition_of _ = Second

pub back : (s : Supply) → record { edition = edition_of (edition_number s.edition); out = s.out; over = s.over } ≡ s
back s = elim s.edition as (λ e. record { edition = edition_of (edition_number e); out = s.out; over = s.over } ≡ record { edition = e; out = s.out; over = s.over }) [ First ↦ refl | Second ↦ refl ]

-- the numbers that stand for it, which a model needs
abbrev pub coded_supply : Coded Supply
coded_supply = code_by (ℕ × (List (ℕ × Content) × List (ℕ × Content)))
    (coded× coded_ℕ (coded× (coded_list (coded× coded_ℕ coded_content)) (coded_list (coded× coded_ℕ coded_content))))
    (λ s. (edition_number s.edition, (s.out, s.over))) (λ p. record { edition = edition_of p.0; out = p.1.0; over = p.1.1 }) back

-- what is out of a brand
abbrev pub out_of : Supply → ℕ → Content
out_of s b = content_at nat_cmp s.out b

-- of each element as many as there are too many
abbrev pub over_of : Supply → ℕ → Content
over_of s b = content_at nat_cmp s.over b

-- how many of an element there may be of a brand of the kind
abbrev pub most_of : Edition → Kind → ℕ
most_of e Nat = nat_end e - 1
most_of e Set = 1
most_of e Bag = bag_bound

-- what is over is what passes the bound, if the brand is of that kind
pub record IsBounded (b : ℕ) (kind : Kind) (s : Supply) : Type 0 where
  pub over : (k : List ℕ) → count (over_of s b) k ≡ count (out_of s b) k - most_of s.edition kind

-- of no brand more of an element are out than there may be
pub record AreWithin (kind_of : ℕ → Kind) (s : Supply) : Type 0 where
  pub each : (b : ℕ) (k : List ℕ) → count (out_of s b) k ≤ most_of s.edition (kind_of b)

-- of each element that the value has, the excess of what is out of the brand is noted; all else stays
pub record IsNoted (brand : ℕ) (v : Value) (out : Content) (most : ℕ) (old new : List (ℕ × Content)) : Type 0 where
  pub listed : (k : List ℕ) → count (content_of v) k ≢ 0 → count (content_at nat_cmp new brand) k ≡ count out k - most
  pub others : (k : List ℕ) → count (content_of v) k ≡ 0 → count (content_at nat_cmp new brand) k ≡ count (content_at nat_cmp old brand) k
  pub brands : (b : ℕ) → b ≢ brand → content_at nat_cmp new b ≡ content_at nat_cmp old b

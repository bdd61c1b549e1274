-- What is out of each brand, and what was retired of it and may come out again without memory.
use Rattle.std.specs.Prelude.{◌≡◌, ℕ, ◌+◌, ◌-◌, ◌≤◌, List, slice_index_or, refl}
use Rattle.std.proofs.Common.{arith}
use Rattle.std.specs.Coded.{Coded, code_by, coded×}
use Rattle.amount_math.specs.Content.{Content, Contains, coded_content, difference, difference-sum, nothing, sum, sum-difference}
use Rattle.amount_math.specs.Counted.{counted}
use Rattle.amount_math.specs.ValueView.{ValueView, Fits, minted_bound, with_content}
use Rattle.amount_math.specs.declared.Kind.{Kind}
use Rattle.amount_math.specs.declared.Kind.TheVariants.{Nat}
use Rattle.ertp_mint.specs.BrandSupply.{AddsUp, BrandSupply, coded_supply, issued, new_supply, retired}

-- of a brand: the supply, and what is kept, which was retired and may come out again without memory
pub record CirculationView : Type 0 where
  pub supply : BrandSupply
  pub kept : Content

-- the numbers that stand for it, which a model needs
abbrev pub coded_circulation : Coded CirculationView
coded_circulation = code_by (BrandSupply × Content) (coded× coded_supply coded_content) (λ s. (s.supply, s.kept)) (λ p. record { supply = p.0; kept = p.1 }) (λ _. refl)

-- a brand of which nothing was issued
abbrev pub new_circulation : Kind → CirculationView
new_circulation kind = record { supply = new_supply kind; kept = nothing }

-- that of a brand, by its number
abbrev pub circulation_at : List CirculationView → ℕ → CirculationView
circulation_at brands brand = slice_index_or brands brand (new_circulation Nat)

-- an issue turned round, and a retirement
abbrev pub unissued : BrandSupply → Content → BrandSupply
unissued s c = record { outstanding = with_content s.outstanding (difference s.outstanding.content c); minted = s.minted - counted c; burned = s.burned }

abbrev pub unretired : BrandSupply → Content → BrandSupply
unretired s c = record { outstanding = with_content s.outstanding (sum s.outstanding.content c); minted = s.minted; burned = s.burned - counted c }

-- with another supply, and the same kept
abbrev pub with_supply : CirculationView → BrandSupply → CirculationView
with_supply s supply = record { supply = supply; kept = s.kept }

-- once a content is issued, and once that is worked backwards
abbrev pub with_issued : CirculationView → Content → CirculationView
with_issued s c = with_supply s (issued s.supply c)

abbrev pub with_unissued : CirculationView → Content → CirculationView
with_unissued s c = with_supply s (unissued s.supply c)

-- once a content is retired, which keeps it, and once that is worked backwards, or it is forgotten
abbrev pub with_retired : CirculationView → Content → CirculationView
with_retired s c = record { supply = retired s.supply c; kept = sum s.kept c }

abbrev pub with_unretired : CirculationView → Content → CirculationView
with_unretired s c = record { supply = unretired s.supply c; kept = difference s.kept c }

abbrev pub with_forgotten : CirculationView → Content → CirculationView
with_forgotten s c = record { supply = s.supply; kept = difference s.kept c }

-- it adds up, no count of what is out passes the kind's bound, nor the total of what was minted its own, and what is kept was burned
pub record Circulates (s : CirculationView) : Type 0 where
  pub adds_up : AddsUp s.supply
  pub fits : Fits s.supply.outstanding.kind s.supply.outstanding.content
  pub minted : s.supply.minted ≤ minted_bound
  pub kept : counted s.kept ≤ s.supply.burned

-- a value of the brand's kind is out
pub record IsOut (s : CirculationView) (w : ValueView) : Type 0 where
  pub kind : s.supply.outstanding.kind ≡ w.kind
  pub has : Contains s.supply.outstanding.content w.content

-- a value of the brand's kind is kept, and can be out again: no count passes the kind's bound then
pub record CanReturn (s : CirculationView) (w : ValueView) : Type 0 where
  pub kind : s.supply.outstanding.kind ≡ w.kind
  pub kept : Contains s.kept w.content
  pub fits : Fits s.supply.outstanding.kind (sum s.supply.outstanding.content w.content)

-- ---- an issue and a retirement can be turned round

minus : (a b : ℕ) → (a + b) - b ≡ a
minus a b = omega arith

pub issued_back : (s : BrandSupply) (c : Content) → unissued (issued s c) c ≡ s
issued_back s c i = record { outstanding = with_content s.outstanding (difference-sum s.outstanding.content c i); minted = minus s.minted (counted c) i; burned = s.burned }

pub retired_back : (s : BrandSupply) (c : Content) → Contains s.outstanding.content c → unretired (retired s c) c ≡ s
retired_back s c has i = record { outstanding = with_content s.outstanding (sum-difference s.outstanding.content c has i); minted = s.minted; burned = minus s.burned (counted c) i }

pub with_issued_back : (s : CirculationView) (c : Content) → with_unissued (with_issued s c) c ≡ s
with_issued_back s c i = record { supply = issued_back s.supply c i; kept = s.kept }

pub with_retired_back : (s : CirculationView) (c : Content) → Contains s.supply.outstanding.content c → with_unretired (with_retired s c) c ≡ s
with_retired_back s c has i = record { supply = retired_back s.supply c has i; kept = difference-sum s.kept c i }

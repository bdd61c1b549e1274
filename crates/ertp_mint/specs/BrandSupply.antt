-- What is out of each brand, and how much was minted and burned of it.
use Rattle.std.specs.Prelude.{◌≡◌, ℕ, ◌+◌, ◌<◌, ◌≤◌, ◌⊎◌, List, slice_index_or, refl}
use Rattle.std.proofs.Common.{ap, arith, inl, inr}
use Rattle.std.specs.Coded.{Coded, code_by, coded×, coded_ℕ}
use Rattle.amount_math.specs.declared.Kind.{Kind}
use Rattle.amount_math.specs.declared.Kind.TheVariants.{Nat}
use Rattle.amount_math.specs.Content.{Content, nothing, sum, difference}
use Rattle.amount_math.specs.Counted.{counted}
use Rattle.amount_math.specs.ValueView.{ValueView, Fits, IsCountRefusal, bound, coded_value_view}
use Rattle.amount_math.specs.ValueView.{minted_bound, passes_not_fits, with_content}
use Rattle.amount_math.specs.declared.PutFault.{PutFault}
use Rattle.amount_math.specs.declared.PutFault.TheVariants.{Overlap, TooMuch, NoMemory}
use Rattle.amount_math.specs.declared.TooMuch as too_much

-- of a brand: what is out, and the totals of the counts that were ever issued and retired
pub record BrandSupply : Type 0 where
  pub outstanding : ValueView
  pub minted : ℕ
  pub burned : ℕ

-- the numbers that stand for it, which a model needs
abbrev pub coded_supply : Coded BrandSupply
coded_supply =
    code_by (ValueView × (ℕ × ℕ)) (coded× coded_value_view (coded× coded_ℕ coded_ℕ))
    (λ s. (s.outstanding, (s.minted, s.burned)))
    (λ p. record { outstanding = p.0; minted = p.1.0; burned = p.1.1 })
    (λ _. refl)

-- a brand of which nothing was issued
abbrev pub new_supply : Kind → BrandSupply
new_supply kind = record {
  outstanding = record { kind = kind; content = nothing };
  minted = 0;
  burned = 0;
}

-- that of a brand, by its number
abbrev pub supply_at : List BrandSupply → ℕ → BrandSupply
supply_at supplies brand = slice_index_or supplies brand (new_supply Nat)

-- once the content is issued
abbrev pub issued : BrandSupply → Content → BrandSupply
issued s c = record {
  outstanding = with_content s.outstanding (sum s.outstanding.content c);
  minted = s.minted + counted c;
  burned = s.burned;
}

-- once the content is retired
abbrev pub retired : BrandSupply → Content → BrandSupply
retired s c = record {
  outstanding = with_content s.outstanding (difference s.outstanding.content c);
  minted = s.minted;
  burned = s.burned + counted c;
}

-- what is out, what was burned and what was minted add up
abbrev pub AddsUp : BrandSupply → Type 0
AddsUp s = counted s.outstanding.content + s.burned ≡ s.minted

-- what is out together with a content
abbrev pub out_with : BrandSupply → Content → Content
out_with s c = sum s.outstanding.content c

-- a value may be issued: no count of what is out then passes the kind's bound, and the total of the
-- counts that were ever issued doesn't pass its own
pub record MayIssue (s : BrandSupply) (w : ValueView) : Type 0 where
  pub fits : Fits w.kind (out_with s w.content)
  pub minted : s.minted + counted w.content ≤ minted_bound

-- the counts fit, and the total of the counts that were ever issued would pass its bound: what it
-- would be is shown with that
pub record PassesMintedBound (s : BrandSupply) (w : ValueView) (over : too_much.TooMuch)
    : Type 0 where
  pub fits : Fits w.kind (out_with s w.content)
  pub shown : over.sum ≡ s.minted + counted w.content
  pub bounded : over.bound ≡ minted_bound
  pub passes : minted_bound < s.minted + counted w.content

-- when a value isn't issued: memory is wanted, or a count doesn't fit, which is tested first, or
-- the total passes its bound
abbrev pub IsMintRefusal : BrandSupply → ValueView → PutFault → Type 0
IsMintRefusal s w (Overlap key) = IsCountRefusal w.kind (out_with s w.content) (Overlap key)
IsMintRefusal s w (TooMuch over) =
    IsCountRefusal w.kind (out_with s w.content) (TooMuch over) ⊎ PassesMintedBound s w over
IsMintRefusal s w NoMemory = Unit {0}

-- a value that may be issued is refused for want of memory alone
pub mint_refused_memory : (s : BrandSupply) (w : ValueView) (fault : PutFault)
    → MayIssue s w → IsMintRefusal s w fault → fault ≡ NoMemory
mint_refused_memory s w (Overlap key) may refused =
    absurd (omega (arith, may.fits.each key, ap bound refused.0, refused.1.passes))
mint_refused_memory s w (TooMuch over) may refused = absurd (elim refused [
  | inl past ↦ passes_not_fits w.kind (out_with s w.content) over past.1 may.fits
  | inr past ↦ omega (arith, past.passes, may.minted)
])
mint_refused_memory s w NoMemory may refused = refl

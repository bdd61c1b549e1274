-- When an operation on two amounts is refused.
use Rattle.std.specs.Prelude.{◌≡◌, ◌≢◌, ℕ}
use Rattle.amount_math.specs.declared.Amount.{Amount}
use Rattle.amount_math.specs.declared.Kind.{Kind}
use Rattle.amount_math.specs.declared.amounts.WrongBrand.{WrongBrand}
use Rattle.amount_math.specs.declared.amounts.AddFault.{AddFault}
use Rattle.amount_math.specs.declared.amounts.AddFault.TheVariants as add_fault
use Rattle.amount_math.specs.declared.amounts.CompareFault.{CompareFault}
use Rattle.amount_math.specs.declared.amounts.CompareFault.TheVariants as compare_fault
use Rattle.amount_math.specs.declared.amounts.CoerceFault.{CoerceFault}
use Rattle.amount_math.specs.declared.amounts.CoerceFault.TheVariants as coerce_fault
use Rattle.amount_math.specs.Content.{sum}
use Rattle.amount_math.specs.declared.PutFault.TheVariants as put_fault
use Rattle.amount_math.specs.ValueView.{IsPutRefusal}

-- the amount given is of another brand, whose number is shown
pub record IsWrongBrand (brand : ℕ) (given : Amount) (wrong : WrongBrand) : Type 0 where
  pub shown : wrong.given ≡ given.brand
  pub apart : brand ≢ given.brand

-- two brands, or the sum isn't a value, or memory is wanted
abbrev pub IsAddRefusal : Amount → Amount → AddFault → Type 0
IsAddRefusal a b (add_fault.WrongBrand wrong) = IsWrongBrand a.brand b wrong
IsAddRefusal a b (add_fault.Overlap key) = (a.brand ≡ b.brand) × IsPutRefusal a.value.kind (sum a.value.content b.value.content) (put_fault.Overlap key)
IsAddRefusal a b (add_fault.TooMuch over) = (a.brand ≡ b.brand) × IsPutRefusal a.value.kind (sum a.value.content b.value.content) (put_fault.TooMuch over)
IsAddRefusal a b add_fault.NoMemory = a.brand ≡ b.brand

-- two brands, or what not being enough means there
abbrev pub IsCompareRefusal : Amount → Amount → Type 0 → CompareFault → Type 0
IsCompareRefusal a b lack (compare_fault.WrongBrand wrong) = IsWrongBrand a.brand b wrong
IsCompareRefusal a b lack compare_fault.NotEnough = (a.brand ≡ b.brand) × lack

-- another brand, or another kind
abbrev pub IsCoerceRefusal : ℕ → Kind → Amount → CoerceFault → Type 0
IsCoerceRefusal brand kind a (coerce_fault.WrongBrand wrong) = IsWrongBrand brand a wrong
IsCoerceRefusal brand kind a coerce_fault.BadValue = (brand ≡ a.brand) × (kind ≢ a.value.kind)

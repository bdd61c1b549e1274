-- An amount: a brand's number and a value.
use Rattle.std.specs.Prelude.{◌≡◌, ℕ, refl}
use Rattle.std.specs.Coded.{Coded, code_by, coded×, coded_ℕ}
use Rattle.amount_math.specs.declared.Amount.{Amount}
use Rattle.amount_math.specs.Content.{Content}
use Rattle.amount_math.specs.ValueView.{ValueView, coded_value_view, with_content}

-- the numbers that stand for an amount, which a model needs
abbrev pub coded_amount : Coded Amount
coded_amount = code_by (ℕ × ValueView) (coded× coded_ℕ coded_value_view) (λ a. (a.brand, a.value)) (λ p. record { brand = p.0; value = p.1 }) (λ _. refl)

-- the same brand and kind with another content
abbrev pub holding : Amount → Content → Amount
holding a c = record { brand = a.brand; value = with_content a.value c }

-- what meets is of one brand and one kind
pub record Meet (a b : Amount) : Type 0 where
  pub brand : a.brand ≡ b.brand
  pub kind : a.value.kind ≡ b.value.kind

-- amounts of one brand are of one kind
pub record OneKind (a b : Amount) : Type 0 where
  pub same : a.brand ≡ b.brand → a.value.kind ≡ b.value.kind

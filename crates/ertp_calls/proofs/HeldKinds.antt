-- In a good world what purses and payments have is of their brands' kinds, and their brands were made.
use Rattle.std.specs.Prelude.{IfSome}
use Rattle.std.proofs.Common.{◌≡◌, ℕ, ◌<◌, length, Option, Some, sym, subst, ◌∙◌, arith}
use Rattle.refusals.specs.amount_math.ValueView.{ValueView}
use Rattle.refusals.specs.amount_math.declared.Kind.TheVariants.{Set}
use Rattle.rules.specs.brands.Brands.{brand_at}
use Rattle.rules.specs.ertp_mint.Stocks.{no_amount}
use Rattle.rules.specs.holders.PaymentViews.{payment_view_at, spent_payment}
use Rattle.rules.specs.vault_model.Lists.{purse_at}
use Rattle.rule_laws.proofs.world_laws.Lists.{all_read}
use Rattle.rules.specs.world_state.Good.{IsGoodWorld, IsOfKind, IsPayment}
use Rattle.rules.specs.world_state.Rights.{kind_at}
use Rattle.rules.specs.world_state.Worlds.{State}

payment_view_is : (w : State) → IsGoodWorld w → (n : ℕ) → n < length w.rights.payments → IsPayment w.rights.out (payment_view_at w.rights.payments n)
payment_view_is w good n made = all_read (IsPayment w.rights.out) w.rights.payments n (spent_payment 0) good.payment_kinds made

purse_is : (w : State) → IsGoodWorld w → (n : ℕ) → n < length w.rights.purses → IsOfKind w.rights.out (purse_at w.rights.purses n)
purse_is w good n made = all_read (IsOfKind w.rights.out) w.rights.purses n no_amount good.purse_kinds made

pub held_kind : (w : State) → IsGoodWorld w → (n : ℕ) (v : ValueView) → n < length w.rights.payments → (payment_view_at w.rights.payments n).held ≡ Some v → v.kind ≡ kind_at w.rights.out (payment_view_at w.rights.payments n).brand
held_kind w good n v made held =
    sym (subst (λ (o : Option ValueView). IfSome o (λ (x : ValueView). kind_at w.rights.out (payment_view_at w.rights.payments n).brand ≡ x.kind)) held (payment_view_is w good n made).kind)

pub purse_kind : (w : State) → IsGoodWorld w → (n : ℕ) → n < length w.rights.purses → (purse_at w.rights.purses n).value.kind ≡ kind_at w.rights.out (purse_at w.rights.purses n).brand
purse_kind w good n made = sym (purse_is w good n made).kind

pub purse_brand_made : (w : State) → IsGoodWorld w → (n : ℕ) → n < length w.rights.purses → (purse_at w.rights.purses n).brand < length w.brands
purse_brand_made w good n made = omega (arith, (purse_is w good n made).made, good.brands.supplies)

pub payment_brand_made : (w : State) → IsGoodWorld w → (n : ℕ) → n < length w.rights.payments → (payment_view_at w.rights.payments n).brand < length w.brands
payment_brand_made w good n made = omega (arith, (payment_view_is w good n made).made, good.brands.supplies)

-- a brand's kind is its supply's
pub brand_kind : (w : State) → IsGoodWorld w → (b : ℕ) → (brand_at w.brands b).kind ≡ kind_at w.rights.out b
brand_kind w good b = sym (good.brands.kinds b)

pub few_brands : (w : State) → IsGoodWorld w → (b : ℕ) → b < length w.brands → b < 65535
few_brands w good b made = omega (arith, good.brands.few)

pub supply_made : (w : State) → IsGoodWorld w → (b : ℕ) → b < length w.brands → b < length w.rights.out
supply_made w good b made = omega (arith, good.brands.supplies)

-- invitations are a set
pub first_kind : (w : State) → IsGoodWorld w → kind_at w.rights.out 0 ≡ Set
first_kind w good = good.brands.kinds 0 ∙ good.brands.first

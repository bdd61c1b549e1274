-- What a payment is that a call was given.
use Rattle.std.specs.Prelude.{IfSome}
use Rattle.std.proofs.Common.{◌≡◌, ℕ, ◌<◌, List, length, Option, IfOk, subst}
use Rattle.std.proofs.lemmas.Bool.{eqb-true}
use Rattle.world_laws.specs.amount_math.ValueView.{ValueView}
use Rattle.rules.specs.call_arguments.Arguments.{arg}
use Rattle.world_laws.specs.host_data.Tree.{Tree}
use Rattle.rules.specs.holders.PaymentViews.{spent_payment}
use Rattle.world_laws.proofs.refusals.Steps.{after_need, after_step, after_wanted, ok_has}
use Rattle.world_laws.proofs.Lists.{all_read}
use Rattle.world_laws.specs.world_state.Known.{IsFormed}
use Rattle.world_laws.specs.world_state.Worlds.{State}
use Rattle.rules.specs.Licence.{NamesPayment}
use Rattle.world_laws.specs.world_state.Good.{AreValues, IsPaymentValued, IsValued}
use Rattle.rule_laws.proofs.GivenData.{payment_made, payment_named}
use Rattle.rule_laws.proofs.Moving.{Holds}
use Rattle.rules.specs.GivenPayments.{LivePayment, live_at, payment_view_of, payment_at}

-- a payment of the brand, which the arguments name
pub record IsOfBrand (w : State) (brand : ℕ) (args : List Tree) (p : ℕ) : Type 0 where
  pub made : p < length w.rights.payments
  pub brand_is : (payment_view_of w p).brand ≡ brand
  pub named : NamesPayment args p

-- one that is live, with what it has
pub record IsGiven (w : State) (brand : ℕ) (args : List Tree) (g : LivePayment) : Type 0 where
  pub holds : Holds w.rights.payments g.number brand g.value
  pub named : NamesPayment args g.number

module _ (w : State) (h : Option ℕ) (brand place : ℕ) (args : List Tree) (formed : IsFormed w h (arg place args)) where
  pub payment_is : IfOk (payment_at w brand place args) (IsOfBrand w brand args)
  unfolding payment_at
  payment_is = after_step _ _ _ (λ p is. after_need _ _ _ _ (λ same. record {
    made = payment_made w h place args p formed is;
    brand_is = eqb-true (payment_view_of w p).brand brand same;
    named = payment_named place args p is;
  }))

  pub live_is : IfOk (live_at w brand place args) (IsGiven w brand args)
  unfolding live_at
  live_is = after_step _ _ _ (λ p is.
      let of : IsOfBrand w brand args p = ok_has _ _ p is payment_is in
      after_wanted _ _ _ _ (λ v held. record {
        holds = record { made = of.made; brand = of.brand_is; held = held };
        named = of.named;
      }))

-- what a live payment has is a value
pub held_value : (w : State) (brand : ℕ) (p : ℕ) (v : ValueView) → AreValues w.rights → Holds w.rights.payments p brand v → IsValued v
held_value w brand p v values is = subst (λ (o : Option ValueView). IfSome o IsValued) is.held (all_read IsPaymentValued w.rights.payments p (spent_payment 0) values.payments is.made)

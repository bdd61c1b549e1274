-- The rules of payments are good.
use Rattle.std.proofs.Common.{ℕ, ◌<◌, List, length, None, IfOk, codes, refl, arith}
use Rattle.world_laws.specs.host_data.Tree.{Tree}
use Rattle.world_laws.specs.host_data.declared.data.ObjKind.TheVariants as kinds
use Rattle.world_laws.specs.world_state.Known.{IsFormed}
use Rattle.world_laws.specs.world_state.Worlds.{State}
use Rattle.rules.specs.Obligations.{CanCall, IsGoodOutcome}
use Rattle.rules.specs.Outcomes.{Outcome}
use Rattle.rule_laws.proofs.Forms.{object_formed}
use Rattle.rule_laws.proofs.Moving.{payment_view_is}
use Rattle.rule_laws.proofs.Reading.{by_method, reads}
use Rattle.rules.specs.GivenPayments.{payment_view_of}
use Rattle.rule_laws.specs.GoodServices.{AreGoodRules, numbered}
use Rattle.rules.specs.Payment.{get_alleged_brand, of_payment}

brand_formed : (w : State) (n : ℕ) (args : List Tree) → CanCall w None (numbered kinds.Payment n) args → IfOk (get_alleged_brand w n) (IsFormed w None)
unfolding get_alleged_brand
brand_formed w n args can =
    let made : (payment_view_of w n).brand < length w.brands = omega (arith, (payment_view_is w can.good n can.target).made, can.good.brands.supplies) in
    object_formed w None _ (record { made = made; kind_is = refl })

pub payments_are : AreGoodRules kinds.Payment of_payment
payments_are w n m args can =
    let P : List ℕ → Outcome → Type 0 = λ k rule. IsGoodOutcome w None (numbered kinds.Payment n) k args rule in
    by_method P m (codes "getAllegedBrand") _ _ (reads w None _ _ args (get_alleged_brand w n) refl refl (brand_formed w n args can)) tt

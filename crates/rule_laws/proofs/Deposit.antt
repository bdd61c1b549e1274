-- The rule of deposit facets is good.
use Rattle.std.proofs.Common.{ℕ, ◌<◌, List, length, None, codes, inl, refl, sym, ◌∙◌, arith}
use Rattle.world_laws.specs.ertp_mint.Stocks.{no_amount}
use Rattle.world_laws.specs.host_data.Tree.{Tree}
use Rattle.world_laws.specs.host_data.declared.data.ObjKind.TheVariants as kinds
use Rattle.world_laws.proofs.refusals.Steps.{after_check, after_known, after_step, ok_has}
use Rattle.world_laws.specs.vault_model.Lists.{amount_of}
use Rattle.world_laws.proofs.Lists.{all_read}
use Rattle.world_laws.specs.world_state.Good.{IsAmountValued, IsValued}
use Rattle.world_laws.specs.world_state.Worlds.{State}
use Rattle.rules.specs.Obligations.{CanCall, IsGoodOutcome}
use Rattle.rules.specs.Outcomes.{Outcome}
use Rattle.rule_laws.proofs.Forms.{amount_formed}
use Rattle.rule_laws.proofs.Moving.{held_kind, payment_to_purse, purse_is}
use Rattle.rule_laws.proofs.Reading.{by_method}
use Rattle.rule_laws.proofs.Sums.{sum_if}
use Rattle.rules.specs.Purse.{deposit, purse_of}
use Rattle.rule_laws.specs.GoodServices.{AreGoodRules, numbered}
use Rattle.rule_laws.proofs.GivenPayments.{IsGiven, held_value, live_is}
use Rattle.rules.specs.Deposit.{of_deposit}

module _ (w : State) (n : ℕ) (args : List Tree) (can : CanCall w None (numbered kinds.Deposit n) args) where
  brand_made : (purse_of w n).brand < length w.brands
  brand_made = omega (arith, (purse_is w can.good n can.target).made, can.good.brands.supplies)

  held_is_value : IsValued (purse_of w n).value
  held_is_value = all_read IsAmountValued w.rights.purses n no_amount can.good.valued.purses can.target

  receive_is : IsGoodOutcome w None (numbered kinds.Deposit n) (codes "receive") args (deposit w n args)
  unfolding deposit
  receive_is = after_step _ _ _ (λ g is. after_check _ _ _ (after_known _ _ _ (λ fits.
      let b = (purse_of w n).brand in
      let given : IsGiven w b args g = ok_has _ _ g is (live_is w None b 1 args (can.arguments 1)) in
      let same = sym (purse_is w can.good n can.target).kind ∙ held_kind w can.good g.number b g.value given.holds in
      record {
        good = payment_to_purse w can.good g.number n g.value given.holds can.target
            (sum_if (purse_of w n).value g.value tt same held_is_value (held_value w b g.number g.value can.good.valued given.holds) fits);
        known = amount_formed _ None (amount_of b g.value) (record { made = brand_made; kind_is = sym (can.good.brands.kinds b) ∙ held_kind w can.good g.number b g.value given.holds });
        leaves = refl;
        opens = refl;
        licensed = (given.named, tt);
        stored = (inl tt, tt);
        acts = (tt, tt);
        calls = omega arith;
      })))

pub deposits_are : AreGoodRules kinds.Deposit of_deposit
deposits_are w n m args can =
    let P : List ℕ → Outcome → Type 0 = λ k rule. IsGoodOutcome w None (numbered kinds.Deposit n) k args rule in
    by_method P m (codes "receive") _ _ (receive_is w n args can) tt

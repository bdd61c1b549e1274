-- The rules of purses are good.
use Rattle.std.proofs.Common.{ℕ, ◌<◌, List, length, None, IfOk, codes, inl, refl, sym, ◌∙◌, arith}
use Rattle.rules.specs.call_arguments.Arguments.{arg}
use Rattle.world_laws.specs.host_data.Amounts.{IsValueOf}
use Rattle.world_laws.specs.ertp_mint.Stocks.{no_amount}
use Rattle.world_laws.specs.host_data.Tree.{Tree}
use Rattle.world_laws.specs.host_data.declared.data.ObjKind.TheVariants as kinds
use Rattle.world_laws.proofs.refusals.Steps.{after_check, after_known, after_need, after_step, ok_has}
use Rattle.world_laws.specs.vault_model.Lists.{amount_of}
use Rattle.rules.proofs.value_tests.Contents.{has-true}
use Rattle.world_laws.proofs.Lists.{all_read}
use Rattle.world_laws.specs.world_state.Good.{IsAmountValued, IsValued}
use Rattle.world_laws.specs.world_state.Known.{IsFormed}
use Rattle.world_laws.specs.world_state.Worlds.{State}
use Rattle.rules.specs.Obligations.{CanCall, IsGoodOutcome}
use Rattle.rules.specs.Outcomes.{Outcome}
use Rattle.rule_laws.proofs.Forms.{amount_formed, object_formed}
use Rattle.rule_laws.proofs.GivenData.{amount_is}
use Rattle.rule_laws.proofs.Moving.{held_kind, paid_next, payment_to_purse, purse_is, purse_to_payment}
use Rattle.rule_laws.proofs.Next.{after_next_payment}
use Rattle.rule_laws.proofs.Reading.{by_method, reads}
use Rattle.rule_laws.proofs.Sums.{sum_if}
use Rattle.rules.specs.Purse.{deposit, get_alleged_brand, get_current_amount, get_deposit_facet, of_purse, purse_of, withdraw}
use Rattle.rule_laws.specs.GoodServices.{AreGoodRules, numbered}
use Rattle.rule_laws.proofs.GivenPayments.{IsGiven, held_value, live_is}

facet_formed : (w : State) (n : ℕ) (args : List Tree) → CanCall w None (numbered kinds.Purse n) args → IfOk (get_deposit_facet n) (IsFormed w None)
unfolding get_deposit_facet
facet_formed w n args can = object_formed w None _ can.target

module _ (w : State) (n : ℕ) (args : List Tree) (can : CanCall w None (numbered kinds.Purse n) args) where
  brand_made : (purse_of w n).brand < length w.brands
  brand_made = omega (arith, (purse_is w can.good n can.target).made, can.good.brands.supplies)

  brand_formed : IfOk (get_alleged_brand w n) (IsFormed w None)
  unfolding get_alleged_brand
  brand_formed = object_formed w None _ (record { made = brand_made; kind_is = refl })

  current_formed : IfOk (get_current_amount w n) (IsFormed w None)
  unfolding get_current_amount
  current_formed = amount_formed w None (purse_of w n) (record {
    made = brand_made;
    kind_is = sym (can.good.brands.kinds (purse_of w n).brand) ∙ (purse_is w can.good n can.target).kind;
  })

  held_is_value : IsValued (purse_of w n).value
  held_is_value = all_read IsAmountValued w.rights.purses n no_amount can.good.valued.purses can.target

  withdraw_is : IsGoodOutcome w None (numbered kinds.Purse n) (codes "withdraw") args (withdraw w n args)
  unfolding withdraw
  withdraw_is = after_step _ _ _ (λ v reads. after_need _ _ _ _ (λ enough. after_next_payment _ _ _ (λ room.
      let value : IsValueOf (purse_of w n).value.kind v = ok_has _ _ v reads (amount_is (purse_of w n).brand (purse_of w n).value.kind 1 (arg 1 args)) in
      record {
        good = purse_to_payment w can.good n v can.target value (has-true (purse_of w n).value v enough) room;
        known = object_formed _ None _ (omega (arith, paid_next w.rights.payments (amount_of (purse_of w n).brand v)));
        leaves = refl;
        opens = refl;
        licensed = (record { target = record { kind_is = refl; number_is = refl }; method_is = refl }, tt);
        stored = (inl tt, tt);
        acts = (tt, tt);
        calls = omega arith;
      })))

  deposit_is : IsGoodOutcome w None (numbered kinds.Purse n) (codes "deposit") args (deposit w n args)
  unfolding deposit
  deposit_is = after_step _ _ _ (λ g is. after_check _ _ _ (after_known _ _ _ (λ fits.
      let b = (purse_of w n).brand in
      let given : IsGiven w b args g = ok_has _ _ g is (live_is w None b 1 args (can.arguments 1)) in
      let same = sym (purse_is w can.good n can.target).kind ∙ held_kind w can.good g.number b g.value given.holds in
      record {
        good = payment_to_purse w can.good g.number n g.value given.holds can.target
            (sum_if (purse_of w n).value g.value tt same held_is_value (held_value w b g.number g.value can.good.valued given.holds) fits);
        known = amount_formed _ None (amount_of b g.value) (record { made = brand_made; kind_is = sym (can.good.brands.kinds b) ∙ held_kind w can.good g.number b g.value given.holds });
        leaves = refl;
        opens = refl;
        licensed = (given.named, tt);
        stored = (inl tt, tt);
        acts = (tt, tt);
        calls = omega arith;
      })))

-- ---- the table of methods

pub purses_are : AreGoodRules kinds.Purse of_purse
purses_are w n m args can =
    let P : List ℕ → Outcome → Type 0 = λ k rule. IsGoodOutcome w None (numbered kinds.Purse n) k args rule in
    by_method P m (codes "getDepositFacet") _ _ (reads w None _ _ args (get_deposit_facet n) refl refl (facet_formed w n args can))
    (by_method P m (codes "getAllegedBrand") _ _ (reads w None _ _ args (get_alleged_brand w n) refl refl (brand_formed w n args can))
    (by_method P m (codes "getCurrentAmount") _ _ (reads w None _ _ args (get_current_amount w n) refl refl (current_formed w n args can))
    (by_method P m (codes "deposit") _ _ (deposit_is w n args can)
    (by_method P m (codes "withdraw") _ _ (withdraw_is w n args can) tt))))

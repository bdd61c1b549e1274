-- The rules of mints are good.
use Rattle.std.proofs.Common.{ℕ, List, None, codes, inr, refl, arith, IfOk}
use Rattle.rules.specs.call_arguments.Arguments.{arg}
use Rattle.world_laws.specs.ertp_mint.BrandSupply.{supply_at}
use Rattle.world_laws.specs.host_data.Amounts.{IsValueOf}
use Rattle.world_laws.specs.host_data.Tree.{Tree}
use Rattle.world_laws.specs.host_data.declared.data.ObjKind.TheVariants as kinds
use Rattle.world_laws.proofs.refusals.Steps.{after_known, after_step, ok_has}
use Rattle.world_laws.specs.vault_model.Lists.{amount_of}
use Rattle.world_laws.specs.world_state.Rights.{kind_at}
use Rattle.world_laws.specs.world_state.Worlds.{State, of_kit}
use Rattle.rules.specs.Obligations.{CanCall, IsGoodOutcome}
use Rattle.rules.specs.Outcomes.{Outcome}
use Rattle.rule_laws.proofs.Forms.{object_formed}
use Rattle.rule_laws.proofs.GivenData.{amount_is}
use Rattle.rule_laws.proofs.Moving.{outside_to_payment, paid_next}
use Rattle.rule_laws.proofs.Next.{after_next_payment}
use Rattle.rule_laws.proofs.Reading.{by_method, reads}
use Rattle.rule_laws.proofs.ComingOut.{comes_out}
use Rattle.rules.specs.Mint.{get_issuer, mint_payment, of_mint}
use Rattle.rule_laws.specs.GoodServices.{AreGoodRules, numbered}
use Rattle.world_laws.specs.world_state.Known.{IsFormed, IsMadeBy}

issuer_formed : (w : State) (n : ℕ) (args : List Tree) → CanCall w None (numbered kinds.Mint n) args → IfOk (get_issuer n) (IsFormed w None)
unfolding get_issuer
issuer_formed w n args can =
    let by : IsMadeBy w.makers of_kit n = can.target in
    object_formed w None _ (omega (arith, by.made, can.good.brands.made_by))

module _ (w : State) (n : ℕ) (args : List Tree) where
  module _ (can : CanCall w None (numbered kinds.Mint n) args) where
    mint_is : IsGoodOutcome w None (numbered kinds.Mint n) (codes "mintPayment") args (mint_payment w n args)
    unfolding mint_payment
    mint_is = after_step _ _ _ (λ v reads. after_known _ _ _ (λ fits. after_next_payment _ _ _ (λ room.
        let value : IsValueOf (kind_at w.rights.out n) v = ok_has _ _ v reads (amount_is n (kind_at w.rights.out n) 1 (arg 1 args)) in
        let comes = comes_out (supply_at w.rights.out n) v.content fits in
        record {
          good = outside_to_payment w can.good n v can.target value comes.fits comes.minted room;
          known = object_formed _ None _ (omega (arith, paid_next w.rights.payments (amount_of n v)));
          leaves = refl;
          opens = refl;
          licensed = (record { target = record { kind_is = refl; number_is = refl }; method_is = refl }, tt);
          stored = (inr tt, tt);
          acts = (tt, tt);
          calls = omega arith;
        })))

-- ---- the table of methods

pub mints_are : AreGoodRules kinds.Mint of_mint
mints_are w n m args can =
    let P : List ℕ → Outcome → Type 0 = λ k rule. IsGoodOutcome w None (numbered kinds.Mint n) k args rule in
    by_method P m (codes "getIssuer") _ _ (reads w None _ _ args (get_issuer n) refl refl (issuer_formed w n args can))
    (by_method P m (codes "mintPayment") _ _ (mint_is w n args can) tt)

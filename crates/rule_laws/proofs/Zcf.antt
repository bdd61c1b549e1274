-- The rules of the zcf are good: those that make invitations, tell or end what an instance is; the others are shown
-- beside.
use Rattle.std.proofs.Common.{ℕ, List, length, Some, IfOk, codes, refl, sym, ap, arith}
use Rattle.world_laws.specs.host_data.Tree.{Tree}
use Rattle.world_laws.specs.host_data.declared.data.ObjKind.TheVariants as kinds
use Rattle.world_laws.proofs.refusals.Steps.{after_check, after_step}
use Rattle.world_laws.specs.refusals.Outcomes.{reading}
use Rattle.world_laws.specs.vault_model.Lists.{amount_of}
use Rattle.world_laws.specs.world_state.Known.{IsFormed}
use Rattle.world_laws.specs.world_state.Worlds.{State, invitation_value}
use Rattle.rules.specs.Obligations.{CanCall, IsGoodOutcome}
use Rattle.rule_laws.proofs.Forms.{null_formed, object_formed}
use Rattle.rule_laws.proofs.Moving.{paid_next}
use Rattle.rule_laws.proofs.Next.{after_next_of, after_next_payment}
use Rattle.rule_laws.proofs.Reading.{by_method, reads}
use Rattle.rules.specs.Zcf.{get_instance, get_invitation_issuer, get_terms, get_zoe_service, make_invitation, of_zcf, stop_accepting_offers}
use Rattle.rule_laws.specs.GoodContracts.{IsGoodCall, numbered}
use Rattle.rule_laws.proofs.Read.{function_given, of_caller}
use Rattle.rule_laws.proofs.Shown.{terms_formed}
use Rattle.world_laws.specs.actors.Tables.{instance_at}
use Rattle.rules.specs.Outcomes.{Outcome}
use Rattle.rule_laws.proofs.Escrows.{deposit_is, withdraw_is}
use Rattle.rule_laws.proofs.InstanceIssuers as issuers
use Rattle.rule_laws.proofs.Own.{seat_is, wake_is}
use Rattle.rule_laws.proofs.Reallocating.{reallocate_is}
use Rattle.rule_laws.proofs.Shutdowns.{failure_is, shutdown_is}
use Rattle.rule_laws.proofs.Transferring.{rearrange_is}

invited : (w : State) (i n : ℕ) (args : List Tree) → CanCall w (Some i) (numbered kinds.Zcf n) args → IsGoodOutcome w (Some i) (numbered kinds.Zcf i) (codes "makeInvitation") args (make_invitation w i args)
unfolding make_invitation
invited w i n args can = after_check _ _ _ (after_step _ _ _ (λ f is. after_step _ _ _ (λ description read. after_next_of _ _ _ _ (λ few. after_next_payment _ _ _ (λ room. record {
  good = (
    record {
      details = record { handler = function_given w i 1 args f (can.arguments 1) is; installation = refl; held = can.arguments 3 };
      few = few;
      room = room;
    },
    tt,
  );
  known = object_formed _ (Some i) _ (omega (arith, paid_next w.rights.payments (amount_of 0 (invitation_value (length w.invitations)))));
  leaves = refl;
  opens = refl;
  licensed = tt;
  stored = tt;
  acts = (record { by = refl; target = record { kind_is = refl; number_is = refl }; method = refl }, tt);
  calls = omega arith;
})))))

pub invitation_is : IsGoodCall kinds.Zcf (codes "makeInvitation") make_invitation
invitation_is w i n args can = of_caller w i n (codes "makeInvitation") args (λ k. make_invitation w k args) can.target (invited w i n args can)

instance_formed : (w : State) (i n : ℕ) (args : List Tree) → CanCall w (Some i) (numbered kinds.Zcf n) args → IfOk (get_instance n) (IsFormed w (Some i))
unfolding get_instance
instance_formed w i n args can = object_formed w (Some i) _ (omega (arith, can.hosted, can.target))

pub instance_is : IsGoodCall kinds.Zcf (codes "getInstance") (λ w n args. reading (get_instance n))
instance_is w i n args can = reads w (Some i) _ (codes "getInstance") args (get_instance n) refl refl (instance_formed w i n args can)

zoe_formed : (w : State) (i : ℕ) → IfOk get_zoe_service (IsFormed w (Some i))
unfolding get_zoe_service
zoe_formed w i = object_formed w (Some i) _ refl

pub zoe_is : IsGoodCall kinds.Zcf (codes "getZoeService") (λ w n args. reading get_zoe_service)
zoe_is w i n args can = reads w (Some i) _ (codes "getZoeService") args get_zoe_service refl refl (zoe_formed w i)

issuer_formed : (w : State) (i n : ℕ) (args : List Tree) → CanCall w (Some i) (numbered kinds.Zcf n) args → IfOk get_invitation_issuer (IsFormed w (Some i))
unfolding get_invitation_issuer
issuer_formed w i n args can = object_formed w (Some i) _ can.good.brands.some

pub issuer_is : IsGoodCall kinds.Zcf (codes "getInvitationIssuer") (λ w n args. reading get_invitation_issuer)
issuer_is w i n args can = reads w (Some i) _ (codes "getInvitationIssuer") args get_invitation_issuer refl refl (issuer_formed w i n args can)

pub stop_is : IsGoodCall kinds.Zcf (codes "stopAcceptingOffers") (λ w n args. stop_accepting_offers n)
unfolding stop_accepting_offers
stop_is w i n args can = record {
  good = (omega (arith, can.hosted, can.target), tt);
  known = null_formed _ (Some i);
  leaves = refl;
  opens = refl;
  licensed = tt;
  stored = tt;
  acts = (ap Some (sym can.target), tt);
  calls = omega arith;
}

terms_are_formed : (w : State) (i n : ℕ) (args : List Tree) → CanCall w (Some i) (numbered kinds.Zcf n) args → IfOk (get_terms w n) (IsFormed w (Some i))
unfolding get_terms
terms_are_formed w i n args can = terms_formed w (Some i) can.good (instance_at w.tables.instances n) n (can.good.instances.each n (omega (arith, can.hosted, can.target)))

pub terms_are : IsGoodCall kinds.Zcf (codes "getTerms") (λ w n args. reading (get_terms w n))
terms_are w i n args can = reads w (Some i) _ (codes "getTerms") args (get_terms w n) refl refl (terms_are_formed w i n args can)

-- ---- the table of methods

module _ (w : State) (i n : ℕ) (m : List ℕ) (args : List Tree) where
  pub zcf_is : CanCall w (Some i) (numbered kinds.Zcf n) args → IsGoodOutcome w (Some i) (numbered kinds.Zcf n) m args (of_zcf w n m args)
  zcf_is can =
      let P : List ℕ → Outcome → Type 0 = λ k rule. IsGoodOutcome w (Some i) (numbered kinds.Zcf n) k args rule in
      by_method P m (codes "makeEmptySeatKit") _ _ (seat_is w i n args can)
      (by_method P m (codes "reallocate") _ _ (reallocate_is w i n args can)
      (by_method P m (codes "atomicRearrange") _ _ (rearrange_is w i n args can)
      (by_method P m (codes "makeZCFMint") _ _ (issuers.make_mint_is w i n args can)
      (by_method P m (codes "saveIssuer") _ _ (issuers.save_is w i n args can)
      (by_method P m (codes "getTerms") _ _ (terms_are w i n args can)
      (by_method P m (codes "getBrandForIssuer") _ _ (issuers.brand_is w i n args can)
      (by_method P m (codes "getIssuerForBrand") _ _ (issuers.issuer_is w i n args can)
      (by_method P m (codes "getAssetKind") _ _ (issuers.kind_is w i n args can)
      (by_method P m (codes "assertUniqueKeyword") _ _ (issuers.unique_is w i n args can)
      (by_method P m (codes "wakeAt") _ _ (wake_is w i n args can)
      (by_method P m (codes "depositToSeat") _ _ (deposit_is w i n args can)
      (by_method P m (codes "withdrawFromSeat") _ _ (withdraw_is w i n args can)
      (by_method P m (codes "makeInvitation") _ _ (invitation_is w i n args can)
      (by_method P m (codes "getInstance") _ _ (instance_is w i n args can)
      (by_method P m (codes "getZoeService") _ _ (zoe_is w i n args can)
      (by_method P m (codes "getInvitationIssuer") _ _ (issuer_is w i n args can)
      (by_method P m (codes "stopAcceptingOffers") _ _ (stop_is w i n args can)
      (by_method P m (codes "shutdown") _ _ (shutdown_is w i n args can)
      (by_method P m (codes "shutdownWithFailure") _ _ (failure_is w i n args can) tt)))))))))))))))))))

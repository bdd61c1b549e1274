-- The rules of users' seats are good.
use Rattle.std.specs.Prelude.{is_none, IfSome}
use Rattle.std.proofs.Common.{◌≡◌, ℕ, true, List, Option, Some, None, IfOk, codes, refl, arith, subst}
use Rattle.world_laws.specs.host_data.Tree.{Tree, null}
use Rattle.world_laws.specs.host_data.declared.data.ObjKind.TheVariants as kinds
use Rattle.world_laws.specs.promise_store.States.{SettlementView, broken, ok}
use Rattle.world_laws.specs.actors.SeatPromises.{no_pair, pair_at}
use Rattle.rules.specs.proposals.declared.allocations.Share.{Share}
use Rattle.world_laws.proofs.refusals.Steps.{after_need, after_step, after_wanted}
use Rattle.world_laws.proofs.Lists.{all_read, all_read_or}
use Rattle.world_laws.specs.world_state.Good.{IsLast, IsPair, IsSeat, IsSettled}
use Rattle.world_laws.specs.world_state.Known.{IsFormed, IsHanded}
use Rattle.world_laws.specs.world_state.Promises.{settlement_at}
use Rattle.world_laws.specs.world_state.Worlds.{State, promises_made}
use Rattle.rules.specs.Obligations.{CanCall, IsGoodOutcome}
use Rattle.rules.specs.Outcomes.{Outcome}
use Rattle.rule_laws.proofs.Forms.{boolean_formed, field_formed, null_formed, object_formed}
use Rattle.rule_laws.proofs.GivenData.{if_wanted}
use Rattle.rule_laws.proofs.Reading.{by_method, reads}
use Rattle.rules.specs.Seat.{fulfilled, get_final_allocation, get_offer_result, get_payout, get_payouts, get_proposal, has_exited, of_seat, payouts_of, try_exit}
use Rattle.rules.specs.States.{seat_of}
use Rattle.rule_laws.specs.GoodServices.{AreGoodRules, numbered}
use Rattle.world_laws.specs.world_state.Rights.{slots_at}
use Rattle.rule_laws.proofs.Amounts.{allocation_formed}
use Rattle.rule_laws.proofs.Fields.{formed_here}
use Rattle.rule_laws.proofs.Shown.{proposal_formed as shown_proposal}

none_there : (o : Option (List Share)) → is_none o ≡ true → o ≡ None
none_there None is = refl
none_there (Some x) is = cc

-- what a promise was fulfilled with can be handed out
fulfilled_handed : (w : State) (s : Option SettlementView) → IsSettled w s → IsHanded w (fulfilled s)
fulfilled_handed w None is = null_formed w None
fulfilled_handed w (Some (ok t)) is = is.handed
fulfilled_handed w (Some (broken t)) is = null_formed w None

module _ (w : State) (n : ℕ) (args : List Tree) (can : CanCall w None (numbered kinds.Seat n) args) where
  pair_made : IsPair (promises_made w) (pair_at w.pairs n)
  pair_made = all_read (IsPair (promises_made w)) w.pairs n no_pair can.good.paired (omega (arith, can.target, can.good.seats.paired))

  exited_formed : IfOk (has_exited w n) (IsFormed w None)
  unfolding has_exited
  exited_formed = boolean_formed w None _

  payouts_formed : IfOk (get_payouts w n) (IsFormed w None)
  unfolding get_payouts
  payouts_formed = object_formed w None _ pair_made.payouts

  result_formed : IfOk (get_offer_result w n) (IsFormed w None)
  unfolding get_offer_result
  result_formed = object_formed w None _ pair_made.results

  payouts_handed : IsHanded w (payouts_of w n)
  payouts_handed = fulfilled_handed w (settlement_at w.promises.settled (pair_at w.pairs n).payouts) (all_read_or (IsSettled w) w.promises.settled (pair_at w.pairs n).payouts (Some (broken null)) can.good.settled (record { ends = refl; handed = null_formed w None }))

  payout_formed : IfOk (get_payout w n args) (IsFormed w None)
  unfolding get_payout
  payout_formed = after_step _ _ _ (λ k is. after_need _ _ _ _ (λ left. if_wanted _ _ _ (λ t at. field_formed w None k (payouts_of w n) t payouts_handed at)))

  exit_is : IsGoodOutcome w None (numbered kinds.Seat n) (codes "tryExit") args (try_exit w n)
  unfolding try_exit
  exit_is = after_need _ _ _ _ (λ stays. after_need _ _ _ _ (λ asked. record {
    good = (none_there (seat_of w n).last stays, tt);
    known = null_formed _ None;
    leaves = refl;
    opens = refl;
    licensed = tt;
    stored = tt;
    acts = (tt, tt);
    calls = omega arith;
  }))

module _ (w : State) (n : ℕ) (args : List Tree) (can : CanCall w None (numbered kinds.Seat n) args) where
  seat_is : IsSeat w.rights.out (seat_of w n) (slots_at w.rights.slots n)
  seat_is = can.good.proposed.each n can.target

  proposal_formed : IfOk (get_proposal w n) (IsFormed w None)
  unfolding get_proposal
  proposal_formed = shown_proposal w None can.good (seat_of w n).proposal seat_is.proposal

  last_is : (shares : List Share) → (seat_of w n).last ≡ Some shares → IsLast w.rights.out (seat_of w n).proposal shares
  last_is shares at = subst (λ (o : Option (List Share)). IfSome o (IsLast w.rights.out (seat_of w n).proposal)) at seat_is.last

  final_formed : IfOk (get_final_allocation w n) (IsFormed w None)
  unfolding get_final_allocation
  final_formed = after_wanted _ _ _ _ (λ shares at.
      let last = last_is shares at in
      formed_here w None _ (allocation_formed w None can.good 0 shares (omega arith) last.apart.apart last.named last.of_kinds))

-- ---- the table of methods

pub seats_are : AreGoodRules kinds.Seat of_seat
seats_are w n m args can =
    let P : List ℕ → Outcome → Type 0 = λ k rule. IsGoodOutcome w None (numbered kinds.Seat n) k args rule in
    by_method P m (codes "getProposal") _ _ (reads w None _ _ args (get_proposal w n) refl refl (proposal_formed w n args can))
    (by_method P m (codes "getFinalAllocation") _ _ (reads w None _ _ args (get_final_allocation w n) refl refl (final_formed w n args can))
    (by_method P m (codes "hasExited") _ _ (reads w None _ _ args (has_exited w n) refl refl (exited_formed w n args can))
    (by_method P m (codes "getPayouts") _ _ (reads w None _ _ args (get_payouts w n) refl refl (payouts_formed w n args can))
    (by_method P m (codes "getPayout") _ _ (reads w None _ _ args (get_payout w n args) refl refl (payout_formed w n args can))
    (by_method P m (codes "getOfferResult") _ _ (reads w None _ _ args (get_offer_result w n) refl refl (result_formed w n args can))
    (by_method P m (codes "tryExit") _ _ (exit_is w n args can) tt))))))

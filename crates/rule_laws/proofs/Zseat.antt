-- The rules of ZCF seats are good: those that leave a seat and that show what it has; staging is shown beside.
use Rattle.std.specs.Prelude.{cond, unwrap_or}
use Rattle.std.proofs.Common.{◌≡◌, ℕ, true, List, Option, Some, None, codes, refl, arith, ◌<◌, Bool, false, [], ◌∷◌, length, IfOk, sym, ◌∙◌, subst}
use Rattle.world_laws.specs.host_data.declared.data.ObjKind.TheVariants as kinds
use Rattle.rules.specs.proposals.declared.allocations.Share.{Share}
use Rattle.world_laws.proofs.refusals.Steps.{after_check, after_known, after_need, after_step}
use Rattle.world_laws.specs.refusals.Outcomes.{reading}
use Rattle.world_laws.specs.turn_rows.Causes as causes
use Rattle.rules.specs.call_arguments.Arguments.{arg}
use Rattle.world_laws.proofs.Forms.{formed_grows}
use Rattle.world_laws.proofs.Growing.{grows-after}
use Rattle.world_laws.specs.world_state.Worlds.{State, after, exit, staged_at}
use Rattle.rule_laws.proofs.Forms.{amount_formed, boolean_formed, null_formed}
use Rattle.rule_laws.proofs.Reading.{by_method, reads}
use Rattle.rules.specs.Zseat.{amount_or_none, clear, fail, get_amount_allocated, get_current_allocation, get_proposal, get_staged_allocation, has_exited, leave, of_zseat}
use Rattle.rules.specs.States.{allocation_of, seat_of}
use Rattle.rule_laws.specs.GoodContracts.{IsGoodCall, numbered}
use Rattle.std.specs.List.{AllByRecursion}
use Rattle.std.specs.Str.{bytes_eq}
use Rattle.std.proofs.lemmas.Option.{same_Some}
use Rattle.world_laws.specs.amount_math.declared.Amount.{Amount}
use Rattle.world_laws.specs.host_data.Tree.{Tree}
use Rattle.rules.specs.proposals.Shares.{AreApart, AreShares, amount_under}
use Rattle.world_laws.proofs.Lists.{all_read}
use Rattle.world_laws.specs.world_state.Good.{AreNamed, AreSharesOf, IsGoodWorld, IsOfKind}
use Rattle.world_laws.specs.world_state.Known.{IsBrand, IsFormed, IsSeatOf}
use Rattle.rules.specs.Obligations.{CanCall, IsGoodOutcome}
use Rattle.rule_laws.proofs.Amounts.{allocation_formed as shares_formed}
use Rattle.rule_laws.proofs.Fields.{formed_here}
use Rattle.rule_laws.proofs.Shown.{proposal_formed as shown_proposal}
use Rattle.rules.specs.Records.{allocation_tree}
use Rattle.rule_laws.proofs.Read.{brand_made, open_there}
use Rattle.rules.specs.Outcomes.{Outcome}
use Rattle.rule_laws.proofs.Own.{safe_is}
use Rattle.rule_laws.proofs.Staging.{decrement_is, increment_is}

pub leave_is : IsGoodCall kinds.Zseat (codes "exit") (λ w n args. leave w n)
unfolding leave
leave_is w i n args can = after_known _ _ _ (λ stays. record {
  good = (open_there w n stays, tt);
  known = null_formed _ (Some i);
  leaves = refl;
  opens = refl;
  licensed = tt;
  stored = tt;
  acts = (can.target, tt);
  calls = omega arith;
})

pub fail_is : IsGoodCall kinds.Zseat (codes "fail") fail
unfolding fail
fail_is w i n args can = after_known _ _ _ (λ stays. after_check _ _ _ (record {
  good = (open_there w n stays, tt);
  known = formed_grows w (after w (exit n causes.fail)) (grows-after w (exit n causes.fail)) (Some i) (arg 1 args) (can.arguments 1);
  leaves = refl;
  opens = refl;
  licensed = tt;
  stored = tt;
  acts = (can.target, tt);
  calls = omega arith;
}))

pub exited_is : IsGoodCall kinds.Zseat (codes "hasExited") (λ w n args. reading (has_exited w n))
unfolding has_exited
exited_is w i n args can = reads w (Some i) _ (codes "hasExited") args (has_exited w n) refl refl (boolean_formed w (Some i) _)

pub clear_is : IsGoodCall kinds.Zseat (codes "clear") (λ w n args. clear w n)
unfolding clear
clear_is w i n args can = after_check _ _ _ (record {
  good = (tt, tt);
  known = null_formed _ (Some i);
  leaves = refl;
  opens = refl;
  licensed = tt;
  stored = tt;
  acts = (can.target, tt);
  calls = omega arith;
})

-- ---- what a seat has

-- shares that can be shown
record CanShow (w : State) (shares : List Share) : Type 0 where
  apart : AreApart shares
  named : AreNamed shares
  of_kinds : AreSharesOf w.rights.out shares

allocation_formed : (w : State) (i : ℕ) → IsGoodWorld w → (shares : List Share) → CanShow w shares → IsFormed w (Some i) (allocation_tree shares)
allocation_formed w i good shares can = formed_here w (Some i) _ (shares_formed w (Some i) good 0 shares (omega arith) can.apart can.named can.of_kinds)

brand_known : (w : State) → IsGoodWorld w → (a : Amount) → IsOfKind w.rights.out a → IsBrand w.brands a.value.kind a.brand
brand_known w good a is = record { made = omega (arith, is.made, good.brands.supplies); kind_is = sym (good.brands.kinds a.brand) ∙ is.kind }

-- what stands under a keyword has what all amounts have
under_has : (P : Amount → Type 0) (k : List ℕ) (rs : List Share) (a : Amount) → AllByRecursion (λ (r : Share). P r.amount) rs → amount_under k rs ≡ Some a → P a
under_has P k [] a all at = absurd (cc)
under_has P k (r ∷ rs) a all at = by (bytes_eq k r.keyword) (under_has P k rs a all.1) at
  where
    by : (b : Bool) → (amount_under k rs ≡ Some a → P a) → cond b (Some r.amount) (amount_under k rs) ≡ Some a → P a
    by true later e = subst P (same_Some r.amount a e) all.0
    by false later e = later e

module _ (w : State) (i n : ℕ) (args : List Tree) (can : CanCall w (Some i) (numbered kinds.Zseat n) args) where
  slotted : n < length w.rights.slots
  slotted = let target : IsSeatOf w.seats i n = can.target in omega (arith, target.made, can.good.seats.slotted)

  of_kinds : AreSharesOf w.rights.out (allocation_of w n)
  of_kinds = all_read (AreSharesOf w.rights.out) w.rights.slots n [] can.good.slot_kinds slotted

  allocated : CanShow w (allocation_of w n)
  allocated =
      let shares : AreShares (allocation_of w n) = all_read AreShares w.rights.slots n [] can.good.seats.shares slotted in
      record { apart = shares.apart; named = all_read AreNamed w.rights.slots n [] can.good.seats.named slotted; of_kinds = of_kinds }

  staged : (o : Option (List Share)) → staged_at w.staging n ≡ o → CanShow w (unwrap_or o (allocation_of w n))
  staged None is = allocated
  staged (Some shares) is =
      let are = can.good.staged.each n shares is in
      record { apart = are.apart.apart; named = are.named; of_kinds = are.of_kinds }

  current_formed : IfOk (get_current_allocation w n) (IsFormed w (Some i))
  unfolding get_current_allocation
  current_formed = after_check _ _ _ (allocation_formed w i can.good (allocation_of w n) allocated)

  staged_formed : IfOk (get_staged_allocation w n) (IsFormed w (Some i))
  unfolding get_staged_allocation
  staged_formed = after_check _ _ _ (allocation_formed w i can.good (unwrap_or (staged_at w.staging n) (allocation_of w n)) (staged (staged_at w.staging n) refl))

  shown : (brand : ℕ) → brand < length w.brands → (k : List ℕ) (o : Option Amount) → amount_under k (allocation_of w n) ≡ o → IsBrand w.brands (amount_or_none w brand o).value.kind (amount_or_none w brand o).brand
  shown brand made k (Some a) at = brand_known w can.good a (under_has (IsOfKind w.rights.out) k (allocation_of w n) a of_kinds at)
  shown brand made k None at = record { made = made; kind_is = refl }

  amount_is_formed : IfOk (get_amount_allocated w n args) (IsFormed w (Some i))
  unfolding get_amount_allocated
  amount_is_formed = after_check _ _ _ (after_step _ _ _ (λ k named. after_step _ _ _ (λ brand is. after_need _ _ _ _ (λ own.
      amount_formed w (Some i) _ (shown brand (brand_made w i 2 args brand (can.arguments 2) is) k (amount_under k (allocation_of w n)) refl)))))

pub current_is : IsGoodCall kinds.Zseat (codes "getCurrentAllocation") (λ w n args. reading (get_current_allocation w n))
current_is w i n args can = reads w (Some i) _ (codes "getCurrentAllocation") args (get_current_allocation w n) refl refl (current_formed w i n args can)

pub staged_is : IsGoodCall kinds.Zseat (codes "getStagedAllocation") (λ w n args. reading (get_staged_allocation w n))
staged_is w i n args can = reads w (Some i) _ (codes "getStagedAllocation") args (get_staged_allocation w n) refl refl (staged_formed w i n args can)

pub amount_is : IsGoodCall kinds.Zseat (codes "getAmountAllocated") (λ w n args. reading (get_amount_allocated w n args))
amount_is w i n args can = reads w (Some i) _ (codes "getAmountAllocated") args (get_amount_allocated w n args) refl refl (amount_is_formed w i n args can)

-- ---- what a seat was opened for

proposal_formed : (w : State) (i n : ℕ) (args : List Tree) → CanCall w (Some i) (numbered kinds.Zseat n) args → IfOk (get_proposal w n) (IsFormed w (Some i))
unfolding get_proposal
proposal_formed w i n args can = shown_proposal w (Some i) can.good (seat_of w n).proposal (can.good.proposed.each n can.target.made).proposal

pub proposal_is : IsGoodCall kinds.Zseat (codes "getProposal") (λ w n args. reading (get_proposal w n))
proposal_is w i n args can = reads w (Some i) _ (codes "getProposal") args (get_proposal w n) refl refl (proposal_formed w i n args can)

-- ---- the table of methods

module _ (w : State) (i n : ℕ) (m : List ℕ) (args : List Tree) where
  pub zseat_is : CanCall w (Some i) (numbered kinds.Zseat n) args → IsGoodOutcome w (Some i) (numbered kinds.Zseat n) m args (of_zseat w n m args)
  zseat_is can =
      let P : List ℕ → Outcome → Type 0 = λ k rule. IsGoodOutcome w (Some i) (numbered kinds.Zseat n) k args rule in
      by_method P m (codes "getProposal") _ _ (proposal_is w i n args can)
      (by_method P m (codes "isOfferSafe") _ _ (safe_is w i n args can)
      (by_method P m (codes "incrementBy") _ _ (increment_is w i n args can)
      (by_method P m (codes "decrementBy") _ _ (decrement_is w i n args can)
      (by_method P m (codes "exit") _ _ (leave_is w i n args can)
      (by_method P m (codes "fail") _ _ (fail_is w i n args can)
      (by_method P m (codes "hasExited") _ _ (exited_is w i n args can)
      (by_method P m (codes "getCurrentAllocation") _ _ (current_is w i n args can)
      (by_method P m (codes "getStagedAllocation") _ _ (staged_is w i n args can)
      (by_method P m (codes "getAmountAllocated") _ _ (amount_is w i n args can)
      (by_method P m (codes "clear") _ _ (clear_is w i n args can) tt))))))))))

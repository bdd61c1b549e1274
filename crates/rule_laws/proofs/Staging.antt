-- The rules of staging are good.
use Rattle.std.specs.Prelude.{nat_le, unwrap_or}
use Rattle.std.specs.List.{AllByRecursion}
use Rattle.std.proofs.Common.{◌≡◌, ℕ, ◌≤◌, false, List, [], ◌∷◌, length, Option, Some, None, Ok, codes, refl, sym, arith}
use Rattle.std.proofs.lemmas.Bool.{leb-true}
use Rattle.rules.specs.proposals.Gains.{with_gains}
use Rattle.rules.specs.proposals.Losses.{with_losses}
use Rattle.world_laws.specs.host_data.Tree.{Tree}
use Rattle.world_laws.specs.host_data.declared.data.ObjKind.TheVariants as kinds
use Rattle.rules.specs.rearrange.Slots.{can_give, each_passes, fits_slot}
use Rattle.rules.specs.proposals.Shares.{most_shares}
use Rattle.rules.specs.proposals.declared.allocations.Share.{Share}
use Rattle.rules.specs.call_arguments.Records.{ShareData}
use Rattle.world_laws.proofs.refusals.Steps.{after_check, after_known, after_step, need_holds, ok_has}
use Rattle.rules.specs.Given.{is_other}
use Rattle.rules.specs.Zseat.{are_few, decrement_by, increment_by, misfits_slot, misfits_staged, shares_now}
use Rattle.world_laws.proofs.Forms.{formed_grows}
use Rattle.world_laws.proofs.Growing.{grows-after}
use Rattle.world_laws.proofs.Lists.{all_map}
use Rattle.world_laws.specs.world_state.Good.{IsGoodWorld, IsOfSlot, IsStaged}
use Rattle.world_laws.specs.world_state.Worlds.{IsOpen, State, after, stage, staged_at}
use Rattle.rules.specs.Obligations.{CanCall, IsRule}
use Rattle.rules.specs.Traces.{departures_by, openings_by}
use Rattle.rule_laws.proofs.Amounts.{allocation_formed}
use Rattle.rule_laws.proofs.Fields.{formed_here}
use Rattle.rule_laws.proofs.SharesRead.{read_of_kinds, rising_apart}
use Rattle.rules.specs.States.{allocation_of, seat_of}
use Rattle.rules.specs.Records.{allocation_tree}
use Rattle.rule_laws.specs.GoodContracts.{IsGoodCall, numbered}
use Rattle.rule_laws.proofs.Changed.{AreFitting, MaySettle, gains_may, less_may, slots_may}
use Rattle.rule_laws.proofs.GivenShares.{AreGiven, HasSlots, OfBrand, neither, of_slot, passed, shares_given, seat_slots}
use Rattle.rule_laws.proofs.Read.{open_there}

-- ---- what a seat's staging begins with

pub now_are : (w : State) → IsGoodWorld w → (n : ℕ) → HasSlots w (allocation_of w n) → MaySettle w (allocation_of w n) (shares_now w n)
now_are w good n has = by (staged_at w.staging n) refl
  where
    by : (o : Option (List Share)) → staged_at w.staging n ≡ o → MaySettle w (allocation_of w n) (unwrap_or o (allocation_of w n))
    by None e = slots_may w (allocation_of w n) has
    by (Some shares) e =
        let is = good.staged.each n shares e in
        record { apart = is.apart.apart; named = is.named; of_kinds = is.of_kinds; valued = is.valued; of_slots = is.of_slots }

-- a share fits the slot, and what is staged, of its keyword
abbrev Fitting : State → ℕ → List ℕ → ℕ → Type 0
Fitting w n k b = OfBrand (allocation_of w n) k b × OfBrand (shares_now w n) k b

fitting : (w : State) (n : ℕ) (r : ShareData) → misfits_staged w n r ≡ false → Fitting w n r.keyword r.amount.brand
fitting w n r is =
    let both = neither (misfits_slot w n r) (is_other (shares_now w n) r) is in
    let slot = neither _ (is_other (allocation_of w n) r) both.0 in
    (of_slot (allocation_of w n) r slot.1, of_slot (shares_now w n) r both.1)

-- ---- what is staged then

module _ (w : State) (n : ℕ) (args : List Tree) (shares : List Share) (given : AreGiven w args (Fitting w n) shares) where
  shares_fit : AreFitting w (allocation_of w n) shares
  shares_fit = record {
    each = given.read.each;
    apart = rising_apart shares given.read.rising;
    named = given.read.named;
    of_slots = all_map (λ (r : Share). Fitting w n r.keyword r.amount.brand) (IsOfSlot (allocation_of w n)) (λ r is. is.0) shares given.fit;
  }

  now_fit : AllByRecursion (λ (r : Share). OfBrand (shares_now w n) r.keyword r.amount.brand) shares
  now_fit = all_map (λ (r : Share). Fitting w n r.keyword r.amount.brand) (λ (r : Share). OfBrand (shares_now w n) r.keyword r.amount.brand) (λ r is. is.1) shares given.fit

can_stage : (w : State) (n : ℕ) (shares : List Share) → IsOpen (seat_of w n) → MaySettle w (allocation_of w n) shares → length shares ≤ most_shares → IsStaged w.rights.out (seat_of w n) (allocation_of w n) shares
can_stage w n shares is_open may few = record {
  is_open = is_open;
  apart = record { few = few; apart = may.apart };
  named = may.named;
  valued = may.valued;
  of_kinds = may.of_kinds;
  of_slots = may.of_slots;
}

-- ---- the rules

module _ (w : State) (i n : ℕ) (args : List Tree) (can : CanCall w (Some i) (numbered kinds.Zseat n) args) where
  staged_is : (m : List ℕ) (shares staged : List Share) → departures_by w (numbered kinds.Zseat n) m ≡ [] → openings_by (numbered kinds.Zseat n) m ≡ 0 → AreGiven w args (Fitting w n) shares → IsStaged w.rights.out (seat_of w n) (allocation_of w n) staged → IsRule w (Some i) (numbered kinds.Zseat n) m args (allocation_tree shares) (stage n staged ∷ [])
  staged_is m shares staged leaves opens given is = record {
    good = (is, tt);
    known = formed_grows w (after w (stage n staged)) (grows-after w (stage n staged)) (Some i) (allocation_tree shares) (formed_here w (Some i) _ (allocation_formed w (Some i) can.good 0 shares (omega arith) (rising_apart shares given.read.rising) given.read.named (read_of_kinds w can.good shares given.read.each)));
    leaves = sym leaves;
    opens = sym opens;
    acts = (can.target, tt);
    licensed = tt;
    stored = tt;
    calls = omega arith;
  }

few_is : (shares : List Share) → are_few shares ≡ Ok tt → length shares ≤ most_shares
unfolding are_few
few_is shares is = leb-true (length shares) most_shares (need_holds (nat_le (length shares) most_shares) _ tt is)

fits_each : (now shares : List Share) → can_give now shares ≡ Ok tt → each_passes (fits_slot now) shares ≡ Ok tt
unfolding can_give
fits_each now shares is = (passed _ (each_passes (fits_slot now) shares) is).1

pub increment_is : IsGoodCall kinds.Zseat (codes "incrementBy") increment_by
unfolding increment_by
increment_is w i n args can = after_known _ _ _ (λ stays. after_step _ _ _ (λ shares reads. after_known _ _ _ (λ gives. after_known _ _ _ (λ few.
    let now = shares_now w n in
    let given : AreGiven w args (Fitting w n) shares = ok_has _ _ shares reads (shares_given w (Some i) (misfits_staged w n) (Fitting w n) (fitting w n) 1 args (can.arguments 1)) in
    let are = now_are w can.good n (seat_slots w can.good i n can.target) in
    let may = gains_may w (allocation_of w n) now are can.good shares (shares_fit w n args shares given) (now_fit w n args shares given) (fits_each now shares gives) in
    staged_is w i n args can (codes "incrementBy") shares (with_gains now shares) refl refl given
    (can_stage w n (with_gains now shares) (open_there w n stays) may (few_is (with_gains now shares) few))))))

pub decrement_is : IsGoodCall kinds.Zseat (codes "decrementBy") decrement_by
unfolding decrement_by
decrement_is w i n args can = after_known _ _ _ (λ stays. after_step _ _ _ (λ shares reads. after_check _ _ _ (after_known _ _ _ (λ few.
    let now = shares_now w n in
    let given : AreGiven w args (Fitting w n) shares = ok_has _ _ shares reads (shares_given w (Some i) (misfits_staged w n) (Fitting w n) (fitting w n) 1 args (can.arguments 1)) in
    let are = now_are w can.good n (seat_slots w can.good i n can.target) in
    let may = less_may w (allocation_of w n) now are can.good shares (shares_fit w n args shares given) in
    staged_is w i n args can (codes "decrementBy") shares (with_losses now shares) refl refl given
    (can_stage w n (with_losses now shares) (open_there w n stays) may (few_is (with_losses now shares) few))))))

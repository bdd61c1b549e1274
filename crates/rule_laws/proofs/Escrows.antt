-- The rules of what goes between payments and slots are good.
use Rattle.std.specs.List.{AllByRecursion}
use Rattle.std.proofs.Common.{◌≡◌, ℕ, suc, ◌<◌, ◌≤◌, false, List, [], ◌∷◌, ◌++◌, length, Some, IfOk, codes, refl, ap, subst, arith}
use Rattle.rules.specs.proposals.Gains.{with_gains}
use Rattle.rules.specs.proposals.Losses.{with_losses}
use Rattle.rules.proofs.call_arguments.ArgumentLists.{none_twice}
use Rattle.rules.specs.call_arguments.Arguments.{arg}
use Rattle.rules.specs.call_arguments.Numbers.{AreApart}
use Rattle.world_laws.specs.host_data.Tree.{Tree, paired}
use Rattle.world_laws.specs.host_data.declared.data.ObjKind.TheVariants as kinds
use Rattle.world_laws.proofs.lemmas.ListEdits.{length_map}
use Rattle.rules.proofs.rearrange.Slots.{taken_if}
use Rattle.rules.specs.proposals.OfferSafety.{IsCovered}
use Rattle.rules.specs.proposals.declared.allocations.Share.{Share}
use Rattle.rules.specs.call_arguments.Records.{ShareData, names}
use Rattle.world_laws.proofs.refusals.Steps.{after_check, after_known, after_need, after_none_such, after_step, ok_has}
use Rattle.rules.specs.GivenPayments.{escrows_of, is_live_in}
use Rattle.rules.specs.Zcf.{deposit_to_seat, payments_for, withdraw_from_seat}
use Rattle.rules.specs.Given.{is_misfit, is_other, issuers_of}
use Rattle.world_laws.proofs.Payouts.{payouts_handed}
use Rattle.world_laws.specs.world_state.Good.{IsGoodWorld, IsValued}
use Rattle.world_laws.specs.world_state.Known.{IsFormed}
use Rattle.world_laws.specs.world_state.Rights.{all_moved}
use Rattle.world_laws.specs.world_state.Worlds.{State, after, moves, payments_tree, payout_moves, unstage}
use Rattle.rules.specs.Licence.{AreLicensed, NamesPayment}
use Rattle.rule_laws.proofs.Forms.{null_formed}
use Rattle.rule_laws.proofs.PaidShares as paid_shares
use Rattle.rule_laws.proofs.PaidShares.{ArePayments, payments_under, shares_paid, same_where_none_alone}
use Rattle.rule_laws.proofs.Records.{fields_in, fields_ordered}
use Rattle.rule_laws.proofs.SharesRead.{IsReadShare, Rising, read_of_kinds, rising_apart, rising_names, share_names}
use Rattle.rule_laws.proofs.Shown.{handed_held}
use Rattle.rule_laws.proofs.SlotLists.{can_add_all, can_take_all, each_of_all, still_safe, with_less, with_less_many, with_more, with_more_grows, with_more_many}
use Rattle.rule_laws.proofs.SlotMoves.{Pay, escrows_can, escrows_emptied, escrows_fresh, escrows_good, escrows_payments, escrows_slots, escrows_stored}
use Rattle.rule_laws.proofs.Spending.{spent_length}
use Rattle.rules.specs.States.{allocation_of, seat_of}
use Rattle.rule_laws.specs.GoodContracts.{IsGoodCall, numbered}
use Rattle.rule_laws.proofs.GivenShares.{AreGiven, IsOwn, OfBrand, all_add, all_take, gains_many, losses_many, neither, of_slot, own_is, record_at_is, room_is, shares_given, seat_slots}
use Rattle.rule_laws.proofs.Losses.{safe_less}
use Rattle.rule_laws.proofs.SeatMoves.{changes_here, payouts_can, payouts_emptied, payouts_fresh, payouts_good, payouts_payments, payouts_slots, payouts_stored}

fitting : (w : State) (i seat : ℕ) (r : ShareData) → is_misfit (issuers_of w i) (allocation_of w seat) r ≡ false → OfBrand (allocation_of w seat) r.keyword r.amount.brand
fitting w i seat r is = of_slot (allocation_of w seat) r (neither _ (is_other (allocation_of w seat) r) is).1

-- ---- payments for shares

record IsPaid (w : State) (args : List Tree) (shares : List Share) (ps : List ℕ) : Type 0 where
  pay : Pay w.rights.payments shares ps
  apart : AreApart ps
  named : AllByRecursion (NamesPayment args) ps

paid_is : (w : State) (i : ℕ) → IsGoodWorld w → (args : List Tree) (shares : List Share) (given : List (List ℕ × Tree)) → IsFormed w (Some i) (arg 3 args) → paired (fields_in (arg 3 args)) ≡ given → AllByRecursion (IsReadShare w) shares → Rising (share_names shares) → IfOk (payments_for w shares given) (IsPaid w args shares)
unfolding payments_for
paid_is w i good args shares given formed same read rising = after_none_such _ _ _ _ (λ alone. after_step _ _ _ (λ ps at. after_none_such _ _ _ _ (λ live. after_none_such _ _ _ _ (λ once. after_none_such _ _ _ _ (λ wrong.
    let payments : ArePayments w args given ps = payments_under w (Some i) 3 args given ps formed same at in
    let names_same = same_where_none_alone (share_names shares) (names given) rising (subst (λ fs. Rising (names fs)) same (rising_names (fields_in (arg 3 args)) (fields_ordered (arg 3 args) formed.ordered))) alone in
    record {
      pay = shares_paid w good shares ps read (omega (arith, payments.many, length_map (λ (r : Share). r.keyword) shares, ap (λ l. length l) names_same)) payments.made (paid_shares.each_passes (is_live_in w) ps live) wrong;
      apart = none_twice ps once;
      named = payments.named;
    })))))

licensed_escrows : (w : State) (i n seat : ℕ) (args : List Tree) → IsOwn w i seat → (shares : List Share) (ps : List ℕ) → AllByRecursion (NamesPayment args) ps → AreLicensed w (Some i) (numbered kinds.Zcf n) (codes "depositToSeat") args (escrows_of seat shares ps ++ [])
licensed_escrows w i n seat args own [] ps named = tt
licensed_escrows w i n seat args own (x ∷ xs) [] named = tt
licensed_escrows w i n seat args own (x ∷ xs) (p ∷ ps) named = (record { takes = named.0; gives = own.own }, licensed_escrows w i n seat args own xs ps named.1)

pub deposit_is : IsGoodCall kinds.Zcf (codes "depositToSeat") deposit_to_seat
unfolding deposit_to_seat
deposit_is w i n args can = after_check _ _ _ (after_step _ _ _ (λ seat at. after_step _ _ _ (λ shares reads. after_step _ _ _ (λ record_given there. after_step _ _ _ (λ ps pays. after_known _ _ _ (λ fits. after_known _ _ _ (λ room.
    let good = can.good in
    let slots = allocation_of w seat in
    let own : IsOwn w i seat = ok_has _ _ seat at (own_is w i n 1 args (can.arguments 1)) in
    let given : AreGiven w args (OfBrand slots) shares = ok_has _ _ shares reads (shares_given w (Some i) (is_misfit (issuers_of w n) slots) (OfBrand slots) (fitting w n seat) 2 args (can.arguments 2)) in
    let paid : IsPaid w args shares ps = ok_has _ _ ps pays (paid_is w i good args shares record_given (can.arguments 3) (record_at_is 3 args record_given there) given.read.each given.read.rising) in
    let has = seat_slots w good i seat own.own in
    let apart = rising_apart shares given.read.rising in
    let adds = all_add w good slots has shares given.read.each given.fit fits in
    let left = room_is w seat slots (with_gains slots shares) 0 room in
    let many = gains_many slots shares in
    let can_add = can_add_all slots shares apart adds (omega (arith, left.few, many)) in
    let made_seat : seat < length w.rights.slots = omega (arith, own.own.made, good.seats.slotted) in
    record {
      good = changes_here w good i seat own (escrows_of seat shares ps) (with_more slots shares)
          (escrows_can seat w.rights slots shares ps made_seat refl can_add paid.pay paid.apart (read_of_kinds w good shares given.read.each))
          (escrows_good seat w.seats shares ps own.is_open given.read.named)
          (escrows_emptied seat w.rights shares ps paid.pay paid.apart)
          (escrows_fresh seat (length w.rights.payments) shares ps)
          (escrows_slots seat w.rights slots shares ps made_seat refl paid.pay paid.apart)
          (still_safe (seat_of w seat).proposal slots (with_more slots shares) (with_more_grows slots shares) (good.covered.each seat own.is_open))
          (omega (arith, left.left, many, with_more_many slots shares apart, escrows_payments seat w.rights shares ps));
      known = null_formed _ (Some i);
      leaves = refl;
      opens = refl;
      acts = (own.own, (tt, tt));
      licensed = licensed_escrows w i n seat args own shares ps paid.named;
      stored = escrows_stored seat shares ps;
      calls = omega arith;
    })))))))

-- ---- payments of what slots have

licensed_payouts : (w : State) (i n seat : ℕ) (args : List Tree) → IsOwn w i seat → (shares : List Share) (first : ℕ) → length w.rights.payments ≤ first → AreLicensed w (Some i) (numbered kinds.Zcf n) (codes "withdrawFromSeat") args (payout_moves seat first shares ++ [])
licensed_payouts w i n seat args own [] first le = tt
licensed_payouts w i n seat args own (x ∷ xs) first le = (record { takes = own.own; gives = le }, licensed_payouts w i n seat args own xs (suc first) (omega (arith, le)))

all_valued : (w : State) (shares : List Share) → AllByRecursion (IsReadShare w) shares → AllByRecursion (λ (x : Share). IsValued x.amount.value) shares
all_valued w [] all = tt
all_valued w (r ∷ rs) all = (all.0.value, all_valued w rs all.1)

pub withdraw_is : IsGoodCall kinds.Zcf (codes "withdrawFromSeat") withdraw_from_seat
unfolding withdraw_from_seat
withdraw_is w i n args can = after_check _ _ _ (after_step _ _ _ (λ seat at. after_step _ _ _ (λ shares reads. after_known _ _ _ (λ takes. after_need _ _ _ _ (λ safe. after_known _ _ _ (λ room.
    let good = can.good in
    let slots = allocation_of w seat in
    let first = length w.rights.payments in
    let own : IsOwn w i seat = ok_has _ _ seat at (own_is w i n 1 args (can.arguments 1)) in
    let given : AreGiven w args (OfBrand slots) shares = ok_has _ _ shares reads (shares_given w (Some i) (is_misfit (issuers_of w n) slots) (OfBrand slots) (fitting w n seat) 2 args (can.arguments 2)) in
    let has = seat_slots w good i seat own.own in
    let apart = rising_apart shares given.read.rising in
    let covered = taken_if slots shares takes in
    let from = all_take w good slots has shares given.read.each given.fit (each_of_all (IsCovered slots) shares covered) in
    let left = room_is w seat slots (with_losses slots shares) (length shares) room in
    let many = losses_many slots shares in
    let can_take_them = can_take_all slots shares apart from (omega (arith, left.few, many)) in
    let made_seat : seat < length w.rights.slots = omega (arith, own.own.made, good.seats.slotted) in
    let ms = payout_moves seat first shares in
    let v : State = after (after w (unstage seat)) (moves ms) in
    record {
      good = changes_here w good i seat own ms (with_less slots shares)
          (payouts_can seat w.rights slots shares first refl made_seat refl can_take_them (read_of_kinds w good shares given.read.each) (all_valued w shares given.read.each))
          (payouts_good seat w.seats shares first own.is_open given.read.named)
          (payouts_emptied seat (all_moved w.rights ms).payments shares first)
          (payouts_fresh seat first shares first (omega arith))
          (payouts_slots seat w.rights slots shares first made_seat refl)
          (safe_less (seat_of w seat).proposal slots shares apart covered safe)
          (omega (arith, left.left, many, with_less_many slots shares apart, payouts_payments seat w.rights shares first refl));
      known = handed_held v (Some i) (payments_tree first shares) (payouts_handed v first shares apart given.read.named (omega (arith, spent_length ms (all_moved w.rights ms).payments, payouts_payments seat w.rights shares first refl)));
      leaves = refl;
      opens = refl;
      acts = (own.own, (tt, tt));
      licensed = licensed_payouts w i n seat args own shares first (omega arith);
      stored = payouts_stored seat shares first;
      calls = omega arith;
    }))))))

-- The rules of ZCF mints are good: minting to slots and burning of them.
use Rattle.std.specs.Prelude.{map, ◌==◌, not}
use Rattle.std.specs.List.{AllByRecursion}
use Rattle.std.proofs.Common.{◌≡◌, ℕ, ◌<◌, Bool, true, false, List, [], ◌∷◌, ◌++◌, length, Some, Ok, codes, refl, sym, ap, subst, ◌∙◌, arith}
use Rattle.std.proofs.lemmas.Bool.{eqb-true}
use Rattle.rules.specs.proposals.Gains.{with_gains}
use Rattle.rules.specs.proposals.Losses.{with_losses}
use Rattle.world_laws.specs.ertp_mint.BrandSupply.{supply_at}
use Rattle.world_laws.specs.host_data.Tree.{Tree}
use Rattle.world_laws.specs.host_data.declared.data.ObjKind.TheVariants as kinds
use Rattle.rules.specs.rearrange.Slots.{can_give, each_passes, fits_slot}
use Rattle.rules.proofs.rearrange.Slots.{taken_if}
use Rattle.rules.specs.proposals.OfferSafety.{IsCovered}
use Rattle.rules.specs.proposals.declared.allocations.Share.{Share}
use Rattle.rules.specs.call_arguments.Records.{ShareData}
use Rattle.world_laws.proofs.refusals.Steps.{after_check, after_known, after_need, after_step, ok_has}
use Rattle.rules.specs.Given.{is_other}
use Rattle.rules.specs.Zmint.{burn_losses, gain, is_not_of, loss, mint_gains, minting, of_zmint, values_of}
use Rattle.rules.specs.value_tests.Totals.{total_of}
use Rattle.world_laws.proofs.Forms.{formed_grows}
use Rattle.world_laws.proofs.Growing.{grows-after}
use Rattle.world_laws.specs.world_state.Good.{IsGoodWorld}
use Rattle.world_laws.specs.world_state.Known.{IsMadeBy}
use Rattle.world_laws.specs.world_state.Rights.{all_moved}
use Rattle.world_laws.specs.world_state.Worlds.{State, after, maker_at, moves, of_host, of_instance, unstage}
use Rattle.rules.specs.Licence.{AreLicensed}
use Rattle.rules.specs.call_arguments.Arguments.{arg}
use Rattle.rule_laws.proofs.Forms.{null_formed}
use Rattle.rule_laws.proofs.SharesRead.{read_of_kinds, rising_apart}
use Rattle.rule_laws.proofs.SlotLists.{can_add_all, can_take_all, each_of_all, still_safe, with_less, with_less_many, with_more, with_more_grows, with_more_many}
use Rattle.rule_laws.proofs.ComingOut.{comes_out}
use Rattle.rules.specs.States.{allocation_of, seat_of}
use Rattle.rule_laws.specs.GoodContracts.{IsGoodCall, numbered}
use Rattle.rule_laws.proofs.GivenShares.{AreGiven, IsOwn, OfBrand, all_add, all_take, gains_many, losses_many, neither, of_slot, own_is, passed, room_is, shares_given, seat_slots}
use Rattle.rule_laws.proofs.Losses.{safe_less}
use Rattle.rule_laws.proofs.SeatMoves.{balanced_hand, changes_here, gains_can, gains_emptied, gains_fresh, gains_good, gains_payments, gains_slots, gains_stored, losses_can, losses_emptied, losses_fresh, losses_good, losses_payments, losses_slots, losses_stored}
use Rattle.rules.specs.Obligations.{CanCall, IsGoodOutcome}
use Rattle.rules.specs.Outcomes.{Outcome}
use Rattle.rule_laws.proofs.Reading.{by_method}
use Rattle.rule_laws.proofs.InstanceIssuers as issuers

-- a share is of the mint's brand, and the slot of its keyword too
abbrev OfMint : State → ℕ → ℕ → List ℕ → ℕ → Type 0
OfMint w brand seat k b = (b ≡ brand) × OfBrand (allocation_of w seat) k b

is_not : (b : Bool) → not b ≡ false → b ≡ true
is_not true h = refl
is_not false h = absurd (cc)

of_mint : (w : State) (brand seat : ℕ) (r : ShareData) → is_not_of brand (allocation_of w seat) r ≡ false → OfMint w brand seat r.keyword r.amount.brand
of_mint w brand seat r is =
    let both = neither (not (r.amount.brand == brand)) (is_other (allocation_of w seat) r) is in
    (eqb-true r.amount.brand brand (is_not (r.amount.brand == brand) both.0), of_slot (allocation_of w seat) r both.1)

firsts : (w : State) (brand seat : ℕ) (rs : List Share) → AllByRecursion (λ (r : Share). OfMint w brand seat r.keyword r.amount.brand) rs → AllByRecursion (λ (r : Share). r.amount.brand ≡ brand) rs
firsts w brand seat [] all = tt
firsts w brand seat (r ∷ rs) all = (all.0.0, firsts w brand seat rs all.1)

seconds : (w : State) (brand seat : ℕ) (rs : List Share) → AllByRecursion (λ (r : Share). OfMint w brand seat r.keyword r.amount.brand) rs → AllByRecursion (λ (r : Share). OfBrand (allocation_of w seat) r.keyword r.amount.brand) rs
seconds w brand seat [] all = tt
seconds w brand seat (r ∷ rs) all = (all.0.1, seconds w brand seat rs all.1)

not_first : (w : State) (i b : ℕ) → IsGoodWorld w → IsMadeBy w.makers (of_instance i) b → b ≡ 0 → ⊥
not_first w i b good by z = let clash : of_instance i ≡ of_host = sym by.is ∙ ap (maker_at w.makers) z ∙ good.brands.host in cc

-- ---- the licence

module _ (w : State) (i n seat : ℕ) (args : List Tree) (made : IsMadeBy w.makers (of_instance i) n) (own : IsOwn w i seat) where
  licensed_gains : (rs : List Share) → AllByRecursion (λ (r : Share). r.amount.brand ≡ n) rs → AreLicensed w (Some i) (numbered kinds.Zmint n) (codes "mintGains") args (map (gain seat) rs ++ [])
  licensed_gains [] all = tt
  licensed_gains (r ∷ rs) all = (
    record {
      takes = (subst (IsMadeBy w.makers (of_instance i)) (sym all.0) made, record { target = record { kind_is = refl; number_is = sym all.0 }; method_is = refl });
      gives = own.own;
    },
    licensed_gains rs all.1,
  )

  licensed_losses : (rs : List Share) → AllByRecursion (λ (r : Share). r.amount.brand ≡ n) rs → AreLicensed w (Some i) (numbered kinds.Zmint n) (codes "burnLosses") args (map (loss seat) rs ++ [])
  licensed_losses [] all = tt
  licensed_losses (r ∷ rs) all = (
    record {
      takes = own.own;
      gives = (subst (IsMadeBy w.makers (of_instance i)) (sym all.0) made, record { target = record { kind_is = refl; number_is = sym all.0 }; method_is = refl });
    },
    licensed_losses rs all.1,
  )

-- ---- the rules

fits_each : (slots shares : List Share) → can_give slots shares ≡ Ok tt → each_passes (fits_slot slots) shares ≡ Ok tt
unfolding can_give
fits_each slots shares is = (passed _ (each_passes (fits_slot slots) shares) is).1

pub gains_are : IsGoodCall kinds.Zmint (codes "mintGains") mint_gains
unfolding mint_gains
gains_are w i n args can = after_check _ _ _ (after_step _ _ _ (λ seat at. after_step _ _ _ (λ shares reads. after_known _ _ _ (λ fits. after_known _ _ _ (λ gives. after_known _ _ _ (λ room.
    let good = can.good in
    let slots = allocation_of w seat in
    let own : IsOwn w i seat = ok_has _ _ seat at (own_is w i (minting w n) 2 args (can.arguments 2)) in
    let given : AreGiven w args (OfMint w n seat) shares = ok_has _ _ shares reads (shares_given w (Some i) (is_not_of n slots) (OfMint w n seat) (of_mint w n seat) 1 args (can.arguments 1)) in
    let has = seat_slots w good i seat own.own in
    let brands = firsts w n seat shares given.fit in
    let apart = rising_apart shares given.read.rising in
    let adds = all_add w good slots has shares given.read.each (seconds w n seat shares given.fit) (fits_each slots shares gives) in
    let left = room_is w seat slots (with_gains slots shares) 0 room in
    let many = gains_many slots shares in
    let can_add = can_add_all slots shares apart adds (omega (arith, left.few, many)) in
    let made_seat : seat < length w.rights.slots = omega (arith, own.own.made, good.seats.slotted) in
    record {
      good = changes_here w good i seat own (map (gain seat) shares) (with_more slots shares)
          (gains_can seat w.rights slots shares n made_seat refl can_add brands (read_of_kinds w good shares given.read.each) (comes_out (supply_at w.rights.out n) (total_of (values_of shares)) fits))
          (gains_good seat w.seats shares n own.is_open given.read.named brands (not_first w i n good can.target))
          (gains_emptied seat (all_moved w.rights (map (gain seat) shares)).payments shares)
          (gains_fresh seat (length w.rights.payments) shares)
          (gains_slots seat w.rights slots shares made_seat refl)
          (still_safe (seat_of w seat).proposal slots (with_more slots shares) (with_more_grows slots shares) (good.covered.each seat own.is_open))
          (omega (arith, left.left, many, with_more_many slots shares apart, ap (λ l. length l) (gains_payments seat w.rights shares)));
      known = formed_grows (after w (unstage seat)) (after (after w (unstage seat)) (moves (map (gain seat) shares))) (grows-after (after w (unstage seat)) (moves (map (gain seat) shares))) (Some i) (arg 2 args) (formed_grows w (after w (unstage seat)) (grows-after w (unstage seat)) (Some i) (arg 2 args) (can.arguments 2));
      leaves = refl;
      opens = refl;
      acts = (own.own, (tt, tt));
      licensed = licensed_gains w i n seat args can.target own shares brands;
      stored = gains_stored seat shares;
      calls = omega arith;
    }))))))

pub burn_is : IsGoodCall kinds.Zmint (codes "burnLosses") burn_losses
unfolding burn_losses
burn_is w i n args can = after_check _ _ _ (after_step _ _ _ (λ seat at. after_step _ _ _ (λ shares reads. after_known _ _ _ (λ takes. after_need _ _ _ _ (λ safe. after_known _ _ _ (λ room.
    let good = can.good in
    let slots = allocation_of w seat in
    let own : IsOwn w i seat = ok_has _ _ seat at (own_is w i (minting w n) 2 args (can.arguments 2)) in
    let given : AreGiven w args (OfMint w n seat) shares = ok_has _ _ shares reads (shares_given w (Some i) (is_not_of n slots) (OfMint w n seat) (of_mint w n seat) 1 args (can.arguments 1)) in
    let has = seat_slots w good i seat own.own in
    let brands = firsts w n seat shares given.fit in
    let apart = rising_apart shares given.read.rising in
    let covered = taken_if slots shares takes in
    let from = all_take w good slots has shares given.read.each (seconds w n seat shares given.fit) (each_of_all (IsCovered slots) shares covered) in
    let left = room_is w seat slots (with_losses slots shares) 0 room in
    let many = losses_many slots shares in
    let can_take_them = can_take_all slots shares apart from (omega (arith, left.few, many)) in
    let made_seat : seat < length w.rights.slots = omega (arith, own.own.made, good.seats.slotted) in
    record {
      good = changes_here w good i seat own (map (loss seat) shares) (with_less slots shares)
          (losses_can seat w.rights slots shares made_seat refl can_take_them (read_of_kinds w good shares given.read.each) (balanced_hand w good))
          (losses_good seat w.seats shares own.is_open given.read.named)
          (losses_emptied seat (all_moved w.rights (map (loss seat) shares)).payments shares)
          (losses_fresh seat (length w.rights.payments) shares)
          (losses_slots seat w.rights slots shares made_seat refl)
          (safe_less (seat_of w seat).proposal slots shares apart covered safe)
          (omega (arith, left.left, many, with_less_many slots shares apart, ap (λ l. length l) (losses_payments seat w.rights shares)));
      known = null_formed _ (Some i);
      leaves = refl;
      opens = refl;
      acts = (own.own, (tt, tt));
      licensed = licensed_losses w i n seat args can.target own shares brands;
      stored = losses_stored seat shares;
      calls = omega arith;
    }))))))

-- ---- the table of methods

module _ (w : State) (i n : ℕ) (m : List ℕ) (args : List Tree) where
  pub zmint_is : CanCall w (Some i) (numbered kinds.Zmint n) args → IsGoodOutcome w (Some i) (numbered kinds.Zmint n) m args (of_zmint w n m args)
  zmint_is can =
      let P : List ℕ → Outcome → Type 0 = λ k rule. IsGoodOutcome w (Some i) (numbered kinds.Zmint n) k args rule in
      by_method P m (codes "mintGains") _ _ (gains_are w i n args can)
      (by_method P m (codes "burnLosses") _ _ (burn_is w i n args can)
      (by_method P m (codes "getIssuerRecord") _ _ (issuers.own_is w i n args can) tt))

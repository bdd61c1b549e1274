-- Movements between the slots of one seat and outside, and from its slots to payments that they make.
use Rattle.std.specs.Prelude.{map, slice_set}
use Rattle.std.specs.List.{AllByRecursion}
use Rattle.std.proofs.Common.{◌≡◌, ℕ, suc, ◌+◌, ◌<◌, ◌≤◌, cond, List, [], ◌∷◌, length, None, inl, inr, ◌++◌, refl, sym, ap, subst, ◌∙◌, arith}
use Rattle.std.proofs.lemmas.Bool.{eq-eqb}
use Rattle.world_laws.specs.amount_math.Content.{Content, Contains, count, count-nothing, count-sum, nothing, sum}
use Rattle.world_laws.specs.amount_math.Counted.{counted-sum}
use Rattle.world_laws.specs.amount_math.ValueView.{IsValue, ValueView, bound}
use Rattle.world_laws.specs.amount_math.declared.Kind.{Kind}
use Rattle.world_laws.specs.amount_math.declared.Kind.TheVariants.{Nat}
use Rattle.world_laws.specs.ertp_mint.BrandSupply.{BrandSupply, issued, new_supply, supply_at}
use Rattle.world_laws.specs.ertp_mint.Stocks.{most_made}
use Rattle.world_laws.proofs.lemmas.ListEdits.{length_set, read_set, set_same, set_set}
use Rattle.rules.specs.holders.PaymentViews.{PaymentView}
use Rattle.rules.specs.proposals.OfferSafety.{IsOfferSafe}
use Rattle.rules.specs.proposals.Shares.{amount_under}
use Rattle.rules.specs.proposals.declared.allocations.Share.{Share}
use Rattle.world_laws.specs.rights_model.declared.Holder.TheVariants.{Outside, Payment, Slot}
use Rattle.world_laws.specs.rights_model.declared.Movement.{Movement}
use Rattle.world_laws.specs.vault_model.Lists.{amount_of}
use Rattle.world_laws.specs.vault_model.Tables.{no_hand}
use Rattle.rules.specs.Zmint.{gain, loss, values_of}
use Rattle.rules.specs.States.{changing}
use Rattle.rules.specs.value_tests.Totals.{total_of}
use Rattle.world_laws.proofs.Balanced.{WithHand, taken_with, with-moved}
use Rattle.world_laws.proofs.OfKinds.{shares_stay, same_moved, stay_same}
use Rattle.world_laws.specs.world_state.Good.{AreGood, AreNamed, AreSharesOf, HasNothing, IsFresh, IsGoodMove, IsGoodWorld, open_slots}
use Rattle.world_laws.specs.world_state.Rights.{CanMove, CanMoveAll, CanTake, HasOrOpens, IsNextOr, MayCome, Rights, TakesOrOpens, all_moved, given, kind_at, paid, shares_less, shares_more, slots_at, taken}
use Rattle.world_laws.specs.world_state.Worlds.{IsOpen, Seat, State, payout_moves, seat_at}
use Rattle.rules.specs.Licence.{IsStored}
use Rattle.rule_laws.proofs.Moving.{paid_next}
use Rattle.rule_laws.proofs.SlotLists.{CanAddAll, CanTakeAll, moved_amount, with_less, with_more}
use Rattle.rule_laws.proofs.SlotMoves.{at_seat, can_change}
use Rattle.rule_laws.proofs.ComingOut.{ComesOut}
use Rattle.rule_laws.proofs.GivenShares.{IsOwn}

-- ---- the slots of an own seat change, of which nothing is staged any more

pub changes_here : (w : State) → IsGoodWorld w → (i n : ℕ) → IsOwn w i n → (ms : List Movement) (new : List Share) → CanMoveAll w.rights no_hand ms → AllByRecursion (IsGoodMove w.seats) ms → AllByRecursion (λ (m : Movement). HasNothing (all_moved w.rights ms).payments m.from) ms → AllByRecursion (λ (m : Movement). IsFresh (length w.rights.payments) m.to) ms → (all_moved w.rights ms).slots ≡ slice_set w.rights.slots n new → IsOfferSafe (seat_at w.seats n).proposal new → length (all_moved w.rights ms).payments + open_slots w.seats w.rights.slots + length new ≤ most_made + length (slots_at w.rights.slots n) → AreGood w (changing (n ∷ []) ms)
changes_here w good i n own ms new can moves emptied fresh slots safe room = (
  tt,
  (
    can_change w.rights w.seats (slice_set w.staging n None) ms n new (omega (arith, own.own.made, good.seats.slotted)) own.is_open
        (read_set w.staging n None None (omega (arith, own.own.made, good.seats.staged)))
        can moves emptied fresh slots safe room,
    tt,
  ),
)

pub balanced_hand : (w : State) → IsGoodWorld w → WithHand w.rights no_hand
balanced_hand w good = record { each = λ e k. omega (arith, good.balanced.each e k, count-nothing k) }

-- ---- from outside

-- so much may come out of a brand
abbrev pub MayComeAll : Rights → ℕ → List Share → Type 0
MayComeAll r b shares = ComesOut (supply_at r.out b) (total_of (values_of shares))

abbrev gain_step : Rights → ℕ → Share → Rights
gain_step r s x = given (taken r Outside x.amount.brand x.amount.value) (Slot s x.keyword) x.amount.brand x.amount.value

supply_next : (out : List BrandSupply) (x b : ℕ) (c : Content) → x ≡ b → b < length out → supply_at (slice_set out x (issued (supply_at out x) c)) b ≡ issued (supply_at out b) c
supply_next out x b c same made = subst (λ e. supply_at (slice_set out e (issued (supply_at out e) c)) b ≡ issued (supply_at out b) c) (sym same) (read_set out b (issued (supply_at out b) c) (new_supply Nat) made)

module _ (s : ℕ) where
  may_come_first : (r : Rights) (b : ℕ) (x : Share) (xs : List Share) → kind_at r.out b ≡ x.amount.value.kind → MayComeAll r b (x ∷ xs) → MayCome r b x.amount.value
  may_come_first r b x xs kind may = record {
    fits = record { each = λ k. subst (λ (q : Kind). count (sum (supply_at r.out b).outstanding.content x.amount.value.content) k ≤ bound q) kind (omega (arith, may.fits.each k, count-sum (supply_at r.out b).outstanding.content x.amount.value.content k, count-sum (supply_at r.out b).outstanding.content (total_of (values_of (x ∷ xs))) k, count-sum x.amount.value.content (total_of (values_of xs)) k)) };
    minted = omega (arith, may.minted, counted-sum x.amount.value.content (total_of (values_of xs)));
  }

  may_come_rest : (r : Rights) (b : ℕ) (x : Share) (xs : List Share) → x.amount.brand ≡ b → b < length r.out → MayComeAll r b (x ∷ xs) → MayComeAll (gain_step r s x) b xs
  may_come_rest r b x xs same made may =
      let v = x.amount.value.content in
      let next = supply_next r.out x.amount.brand b v same made in
      record {
        fits = record {
          each = λ k. subst (λ (y : BrandSupply). count (sum y.outstanding.content (total_of (values_of xs))) k ≤ bound y.outstanding.kind) (sym next)
              (omega (arith, may.fits.each k, count-sum (sum (supply_at r.out b).outstanding.content v) (total_of (values_of xs)) k, count-sum (supply_at r.out b).outstanding.content v k, count-sum (supply_at r.out b).outstanding.content (total_of (values_of (x ∷ xs))) k, count-sum v (total_of (values_of xs)) k));
        };
        minted = omega (arith, may.minted, counted-sum v (total_of (values_of xs)), ap (λ (y : BrandSupply). y.minted) next);
      }

  pub gains_can : (r : Rights) (cur shares : List Share) (b : ℕ) → s < length r.slots → slots_at r.slots s ≡ cur → CanAddAll cur shares → AllByRecursion (λ (x : Share). x.amount.brand ≡ b) shares → AreSharesOf r.out shares → MayComeAll r b shares → CanMoveAll r no_hand (map (gain s) shares)
  gains_can r cur [] b made is can brands kinds may = record { each = λ e k. count-nothing k }
  gains_can r cur (x ∷ xs) b made is can brands kinds may =
      let e = x.amount.brand in
      let v = x.amount.value in
      let same = same_moved r (gain s x) in (
        record {
          brand = kinds.0.made;
          kind = kinds.0.kind;
          from = subst (λ q. MayCome r q v) (sym brands.0) (may_come_first r b x xs (subst (λ q. kind_at r.out q ≡ v.kind) brands.0 kinds.0.kind) may);
          to = record { made = made; takes = subst (λ shares. TakesOrOpens (amount_under x.keyword shares) shares e v) (sym is) can.0 };
        },
        gains_can (gain_step r s x) (shares_more x.keyword (moved_amount x) cur) xs b (omega (arith, made, length_set r.slots s (shares_more x.keyword (moved_amount x) (slots_at r.slots s)))) (at_seat s r cur x made is) can.1 brands.1
            (shares_stay r.out (gain_step r s x).out (stay_same r.out (gain_step r s x).out same) xs kinds.1)
            (may_come_rest r b x xs brands.0 (subst (λ q. q < length r.out) brands.0 kinds.0.made) may),
      )

  pub gains_slots : (r : Rights) (cur shares : List Share) → s < length r.slots → slots_at r.slots s ≡ cur → (all_moved r (map (gain s) shares)).slots ≡ slice_set r.slots s (with_more cur shares)
  gains_slots r cur [] made is = sym (ap (slice_set r.slots s) (sym is) ∙ set_same r.slots s [])
  gains_slots r cur (x ∷ xs) made is =
      let next = shares_more x.keyword (moved_amount x) (slots_at r.slots s) in
      gains_slots (gain_step r s x) (shares_more x.keyword (moved_amount x) cur) xs (omega (arith, made, length_set r.slots s next)) (at_seat s r cur x made is)
      ∙ set_set r.slots s next (with_more cur (x ∷ xs))

  pub gains_payments : (r : Rights) (shares : List Share) → (all_moved r (map (gain s) shares)).payments ≡ r.payments
  gains_payments r [] = refl
  gains_payments r (x ∷ xs) = gains_payments (gain_step r s x) xs

  pub gains_good : (seats : List Seat) (shares : List Share) (b : ℕ) → IsOpen (seat_at seats s) → AreNamed shares → AllByRecursion (λ (x : Share). x.amount.brand ≡ b) shares → (b ≡ 0 → ⊥) → AllByRecursion (IsGoodMove seats) (map (gain s) shares)
  gains_good seats [] b is named brands not_first = tt
  gains_good seats (x ∷ xs) b is named brands not_first = (record { brings = λ e z. not_first (sym brands.0 ∙ z); from_named = tt; to_named = named.0; from = tt; to = is }, gains_good seats xs b is named.1 brands.1 not_first)

  pub gains_emptied : (ps : List PaymentView) (shares : List Share) → AllByRecursion (λ (m : Movement). HasNothing ps m.from) (map (gain s) shares)
  gains_emptied ps [] = tt
  gains_emptied ps (x ∷ xs) = (tt, gains_emptied ps xs)

  pub gains_fresh : (made : ℕ) (shares : List Share) → AllByRecursion (λ (m : Movement). IsFresh made m.to) (map (gain s) shares)
  gains_fresh made [] = tt
  gains_fresh made (x ∷ xs) = (tt, gains_fresh made xs)

  pub gains_stored : (shares : List Share) → AllByRecursion IsStored (map (gain s) shares ++ [])
  gains_stored [] = tt
  gains_stored (x ∷ xs) = (inr tt, gains_stored xs)

  -- ---- to outside

  abbrev loss_step : Rights → Share → Rights
  loss_step r x = given (taken r (Slot s x.keyword) x.amount.brand x.amount.value) Outside x.amount.brand x.amount.value

  pub less_at : (r : Rights) (cur : List Share) (x : Share) → s < length r.slots → slots_at r.slots s ≡ cur → slots_at (slice_set r.slots s (shares_less x.keyword (moved_amount x) (slots_at r.slots s))) s ≡ shares_less x.keyword (moved_amount x) cur
  less_at r cur x made is = read_set r.slots s (shares_less x.keyword (moved_amount x) (slots_at r.slots s)) [] made ∙ ap (shares_less x.keyword (moved_amount x)) is

  -- what a slot has is out
  is_out : (r : Rights) (b : ℕ) (k : List ℕ) (v : ValueView) → b < length r.out → WithHand r no_hand → CanTake r no_hand (Slot s k) b v → Contains (supply_at r.out b).outstanding.content v.content
  is_out r b k v made is can = record {
    each = λ q. omega (
      arith,
      (taken_with r no_hand b v is (Slot s k) made can).each b q,
      ap (λ t. count (cond t (sum nothing v.content) nothing) q) (eq-eqb b b refl),
      count-sum nothing v.content q,
    );
  }

  pub losses_can : (r : Rights) (cur shares : List Share) → s < length r.slots → slots_at r.slots s ≡ cur → CanTakeAll cur shares → AreSharesOf r.out shares → WithHand r no_hand → CanMoveAll r no_hand (map (loss s) shares)
  losses_can r cur [] made is can kinds hand = record { each = λ e k. count-nothing k }
  losses_can r cur (x ∷ xs) made is can kinds hand =
      let b = x.amount.brand in
      let v = x.amount.value in
      let from : CanTake r no_hand (Slot s x.keyword) b v = record { made = made; has = subst (λ shares. HasOrOpens (amount_under x.keyword shares) shares b v) (sym is) can.0 } in
      let first : CanMove r no_hand (loss s x) = record { brand = kinds.0.made; kind = kinds.0.kind; from = from; to = record { has = is_out r b x.keyword v kinds.0.made hand from } } in
      let same = same_moved r (loss s x) in (
        first,
        losses_can (loss_step r x) (shares_less x.keyword (moved_amount x) cur) xs (omega (arith, made, length_set r.slots s (shares_less x.keyword (moved_amount x) (slots_at r.slots s)))) (less_at r cur x made is) can.1
            (shares_stay r.out (loss_step r x).out (stay_same r.out (loss_step r x).out same) xs kinds.1)
            (with-moved r no_hand (loss s x) first hand),
      )

  pub losses_slots : (r : Rights) (cur shares : List Share) → s < length r.slots → slots_at r.slots s ≡ cur → (all_moved r (map (loss s) shares)).slots ≡ slice_set r.slots s (with_less cur shares)
  losses_slots r cur [] made is = sym (ap (slice_set r.slots s) (sym is) ∙ set_same r.slots s [])
  losses_slots r cur (x ∷ xs) made is =
      let next = shares_less x.keyword (moved_amount x) (slots_at r.slots s) in
      losses_slots (loss_step r x) (shares_less x.keyword (moved_amount x) cur) xs (omega (arith, made, length_set r.slots s next)) (less_at r cur x made is)
      ∙ set_set r.slots s next (with_less cur (x ∷ xs))

  pub losses_payments : (r : Rights) (shares : List Share) → (all_moved r (map (loss s) shares)).payments ≡ r.payments
  losses_payments r [] = refl
  losses_payments r (x ∷ xs) = losses_payments (loss_step r x) xs

  pub losses_good : (seats : List Seat) (shares : List Share) → IsOpen (seat_at seats s) → AreNamed shares → AllByRecursion (IsGoodMove seats) (map (loss s) shares)
  losses_good seats [] is named = tt
  losses_good seats (x ∷ xs) is named = (record { brings = λ e. cc; from_named = named.0; to_named = tt; from = is; to = tt }, losses_good seats xs is named.1)

  pub losses_emptied : (ps : List PaymentView) (shares : List Share) → AllByRecursion (λ (m : Movement). HasNothing ps m.from) (map (loss s) shares)
  losses_emptied ps [] = tt
  losses_emptied ps (x ∷ xs) = (tt, losses_emptied ps xs)

  pub losses_fresh : (made : ℕ) (shares : List Share) → AllByRecursion (λ (m : Movement). IsFresh made m.to) (map (loss s) shares)
  losses_fresh made [] = tt
  losses_fresh made (x ∷ xs) = (tt, losses_fresh made xs)

  pub losses_stored : (shares : List Share) → AllByRecursion IsStored (map (loss s) shares ++ [])
  losses_stored [] = tt
  losses_stored (x ∷ xs) = (inl tt, losses_stored xs)

  -- ---- to payments

  abbrev payout_step : Rights → ℕ → Share → Rights
  payout_step r n x = given (taken r (Slot s x.keyword) x.amount.brand x.amount.value) (Payment n) x.amount.brand x.amount.value

  paid_length : (ps : List PaymentView) (n : ℕ) (x : Share) → n ≡ length ps → length (paid ps n (amount_of x.amount.brand x.amount.value)) ≡ length ps + 1
  paid_length ps n x is = subst (λ m. length (paid ps m (amount_of x.amount.brand x.amount.value)) ≡ length ps + 1) (sym is) (paid_next ps (amount_of x.amount.brand x.amount.value))

  pub payouts_can : (r : Rights) (cur shares : List Share) (n : ℕ) → n ≡ length r.payments → s < length r.slots → slots_at r.slots s ≡ cur → CanTakeAll cur shares → AreSharesOf r.out shares → AllByRecursion (λ (x : Share). IsValue x.amount.value.kind x.amount.value.content) shares → CanMoveAll r no_hand (payout_moves s n shares)
  payouts_can r cur [] n next made is can kinds values = record { each = λ e k. count-nothing k }
  payouts_can r cur (x ∷ xs) n next made is can kinds values =
      let b = x.amount.brand in
      let v = x.amount.value in (
        record {
          brand = kinds.0.made;
          kind = kinds.0.kind;
          from = record { made = made; has = subst (λ shares. HasOrOpens (amount_under x.keyword shares) shares b v) (sym is) can.0 };
          to = subst (λ t. IsNextOr t (taken r (Slot s x.keyword) b v) n b v) (sym (eq-eqb n (length r.payments) next)) values.0;
        },
        payouts_can (payout_step r n x) (shares_less x.keyword (moved_amount x) cur) xs (suc n) (omega (arith, next, paid_length r.payments n x next)) (omega (arith, made, length_set r.slots s (shares_less x.keyword (moved_amount x) (slots_at r.slots s)))) (less_at r cur x made is) can.1 kinds.1 values.1,
      )

  pub payouts_slots : (r : Rights) (cur shares : List Share) (n : ℕ) → s < length r.slots → slots_at r.slots s ≡ cur → (all_moved r (payout_moves s n shares)).slots ≡ slice_set r.slots s (with_less cur shares)
  payouts_slots r cur [] n made is = sym (ap (slice_set r.slots s) (sym is) ∙ set_same r.slots s [])
  payouts_slots r cur (x ∷ xs) n made is =
      let next = shares_less x.keyword (moved_amount x) (slots_at r.slots s) in
      payouts_slots (payout_step r n x) (shares_less x.keyword (moved_amount x) cur) xs (suc n) (omega (arith, made, length_set r.slots s next)) (less_at r cur x made is)
      ∙ set_set r.slots s next (with_less cur (x ∷ xs))

  pub payouts_payments : (r : Rights) (shares : List Share) (n : ℕ) → n ≡ length r.payments → length (all_moved r (payout_moves s n shares)).payments ≡ length r.payments + length shares
  payouts_payments r [] n next = omega arith
  payouts_payments r (x ∷ xs) n next = omega (arith, payouts_payments (payout_step r n x) xs (suc n) (omega (arith, next, paid_length r.payments n x next)), paid_length r.payments n x next)

  pub payouts_good : (seats : List Seat) (shares : List Share) (n : ℕ) → IsOpen (seat_at seats s) → AreNamed shares → AllByRecursion (IsGoodMove seats) (payout_moves s n shares)
  payouts_good seats [] n is named = tt
  payouts_good seats (x ∷ xs) n is named = (record { brings = λ e. cc; from_named = named.0; to_named = tt; from = is; to = tt }, payouts_good seats xs (suc n) is named.1)

  pub payouts_emptied : (ps : List PaymentView) (shares : List Share) (n : ℕ) → AllByRecursion (λ (m : Movement). HasNothing ps m.from) (payout_moves s n shares)
  payouts_emptied ps [] n = tt
  payouts_emptied ps (x ∷ xs) n = (tt, payouts_emptied ps xs (suc n))

  pub payouts_fresh : (made : ℕ) (shares : List Share) (n : ℕ) → made ≤ n → AllByRecursion (λ (m : Movement). IsFresh made m.to) (payout_moves s n shares)
  payouts_fresh made [] n le = tt
  payouts_fresh made (x ∷ xs) n le = (le, payouts_fresh made xs (suc n) (omega (arith, le)))

  pub payouts_stored : (shares : List Share) (n : ℕ) → AllByRecursion IsStored (payout_moves s n shares ++ [])
  payouts_stored [] n = tt
  payouts_stored (x ∷ xs) n = (inl tt, payouts_stored xs (suc n))

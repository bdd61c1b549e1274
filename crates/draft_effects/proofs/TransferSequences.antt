-- Movements that can be made together in the world, each of which stands by itself, can be made one after
-- another in a draft.
use Rattle.std.specs.Prelude.{IsNone, cond, is_some, slice_set, unwrap_or}
use Rattle.std.specs.List.{AllByRecursion}
use Rattle.std.proofs.Common.{◌≡◌, ℕ, zero, suc, ◌+◌, ◌<◌, ◌≤◌, Bool, true, false, List, [], ◌∷◌, ◌++◌, None, Option, Some, length, map, refl, sym, ◌∙◌, ap, subst, arith}
use Rattle.draft_reads.specs.amount_math.Amount.{Meet, holding}
use Rattle.draft_reads.specs.amount_math.Content.{Content, Contains, Contains-refl, Contains-trans, count-nothing, nothing, nothing-sum, same_content, sum}
use Rattle.draft_reads.specs.amount_math.Counted.{counted}
use Rattle.draft_reads.specs.amount_math.ValueView.{Fits, IsValue, ValueView, minted_bound}
use Rattle.draft_reads.specs.amount_math.declared.Amount.{Amount}
use Rattle.draft_reads.specs.ertp_mint.BrandSupply.{BrandSupply, issued, new_supply, supply_at}
use Rattle.draft_reads.specs.amount_math.declared.Kind.TheVariants.{Nat}
use Rattle.draft_reads.specs.ertp_mint.Stocks.{empty_amount, most_made, no_amount}
use Rattle.draft_reads.proofs.lemmas.ListEdits.{keeps, length_map, length_push, length_set, map_set, read_map, read_set, set_same}
use Rattle.draft_reads.specs.holders.PaymentViews.{PaymentView, live_payment, payment_view_at, spent_payment}
use Rattle.draft_reads.specs.proposals.Shares.{amount_under, most_shares, keyed_share}
use Rattle.draft_reads.specs.proposals.declared.allocations.Share.{Share}
use Rattle.draft_reads.specs.rights_model.declared.Holder.{Holder}
use Rattle.draft_reads.specs.rights_model.declared.Holder.TheVariants.{Purse, Payment, Slot, Hand, Outside}
use Rattle.draft_reads.specs.rights_model.declared.Movement.{Movement}
use Rattle.draft_reads.specs.vault_model.Lists.{CanGive, CanTake, Lists, amount_of, purse_at, slot_of, with_new_slot}
use Rattle.draft_reads.specs.vault_model.Lists as lists
use Rattle.draft_reads.specs.vault_model.Seats.{IsOpenSeat, KeptSeat, kept_seat_at, no_kept_seat, with_slots}
use Rattle.draft_reads.specs.vault_model.Tables.{IsSound, hand_minus, hand_plus, no_hand}
use Rattle.draft_reads.proofs.vault_model.SlotShares.{pushed_there}
use Rattle.draft_reads.proofs.vault_model.Sound.{hand_is_out, in_and_out, plus_has, sound_alike, sound_given, sound_new_slot, sound_taken}
use Rattle.draft_reads.specs.world_laws.Views.{CanAllByHand, CanByHand, all_by_hand, by_hand, rights_of, seat_of, seats_of, slots_held, source_of, taken_by_hand, with_slot_for}
use Rattle.draft_reads.specs.world_laws.Views as views
use Rattle.draft_reads.proofs.world_laws.Together.{one_together, source_views, with_payment_views}
use Rattle.draft_reads.proofs.world_laws.Views.{slots_read}
use Rattle.draft_reads.specs.vault.Drafts.{IsOfBrand, MayPut}
use Rattle.draft_reads.specs.vault.Asked.{MayOpenSlot}
use Rattle.draft_reads.specs.world_state.Good.{CanMoveTogether, HasNothing, HoldsNothing, IsAtOpen, IsGoodMove, open_slots}
use Rattle.draft_reads.specs.world_state.Rights.{CanGive as WorldGives, CanMove, CanMoveAll, CanTake as WorldTakes, HasOrOpens, PaymentHas, Rights, TakesOrOpens, all_moved, all_spent, given, hand_after, hand_in, hand_out, kind_at, moved, lessened_payment, shares_less, shares_more, slots_at, spent_from, taken}
use Rattle.draft_reads.specs.world_state.Worlds.{IsOpen, Seat, seat_at}
use Rattle.draft_reads.proofs.Undoing.{owed_is}
use Rattle.draft_reads.specs.world_state.Shapes.{AreMovements, IsNoHand, IsTakenOnce}
use Rattle.draft_effects.proofs.MovementsApart.{GoesToHolder, StandAlone, made_with}
use Rattle.draft_effects.proofs.LoneTransfers.{stand_alone}
use Rattle.draft_effects.specs.Steps.{CanMoveByHand, CanMoveEach, MayArrive, MayLeave, MayReach, SlotLeaves, moved_amount}
use Rattle.draft_effects.proofs.Measures.{all_grow, given_grows, made_or_owed, open_grows_more, shares_longer}
use Rattle.draft_effects.proofs.MovedPayments.{NotAt, in_alike, in_before, made_more, moved_long, out_apart, out_long, paid_next, payment_whole, pay_in, pay_out, pays_moved, pays_taken, spent_apart, stays_all}

-- ---- seats stay as they were opened

pub seats_set : (seats : List KeptSeat) (n : ℕ) (x : KeptSeat) → seat_of x ≡ seat_of (kept_seat_at seats n) → map seat_of (slice_set seats n x) ≡ map seat_of seats
seats_set seats n x same = map_set seat_of seats n x ∙ ap (slice_set (map seat_of seats) n) (same ∙ sym (read_map seat_of seats n no_kept_seat)) ∙ set_same (map seat_of seats) n (seat_of no_kept_seat)

pub seats_taken : (s : Lists) (h : Holder) (b : ℕ) (w : ValueView) → seats_of (lists.taken s h b w) ≡ seats_of s
seats_taken s (Purse n) b w = refl
seats_taken s (Payment n) b w = refl
seats_taken s (Slot n k) b w = seats_set s.seats n _ refl
seats_taken s Hand b w = refl
seats_taken s Outside b w = refl

pub seats_given : (s : Lists) (h : Holder) (b : ℕ) (w : ValueView) → seats_of (lists.given s h b w) ≡ seats_of s
seats_given s (Purse n) b w = refl
seats_given s (Payment n) b w = refl
seats_given s (Slot n k) b w = seats_set s.seats n _ refl
seats_given s Hand b w = refl
seats_given s Outside b w = refl

pub seats_slot_for : (s : Lists) (h : Holder) (a : Amount) → seats_of (with_slot_for s h a) ≡ seats_of s
seats_slot_for s (Purse n) a = refl
seats_slot_for s (Payment n) a = refl
seats_slot_for s (Slot n k) a = by (is_some (amount_under k (kept_seat_at s.seats n).slots))
  where
    by : (t : Bool) → seats_of (cond t s (with_new_slot s n k a.brand a.value.kind)) ≡ seats_of s
    by true = refl
    by false = seats_set s.seats n _ refl
seats_slot_for s Hand a = refl
seats_slot_for s Outside a = refl

seats_out : (s : Lists) (m : Movement) → seats_of (taken_by_hand s m) ≡ seats_of s
seats_out s m = seats_taken (source_of s m) m.from m.brand m.value ∙ seats_slot_for s m.from (moved_amount m)

pub seats_by_hand : (s : Lists) (m : Movement) → seats_of (by_hand s m) ≡ seats_of s
seats_by_hand s m =
    seats_given (with_slot_for (taken_by_hand s m) m.to (moved_amount m)) m.to m.brand m.value
    ∙ seats_slot_for (taken_by_hand s m) m.to (moved_amount m)
    ∙ seats_out s m

pub seats_all : (s : Lists) (ms : List Movement) → seats_of (all_by_hand s ms) ≡ seats_of s
seats_all s [] = refl
seats_all s (m ∷ ms) = seats_all (by_hand s m) ms ∙ seats_by_hand s m

-- an open seat of the world is one of the lists
pub open_here : (s : Lists) (n : ℕ) → n < length s.seats → IsOpen (seat_at (seats_of s) n) → IsOpenSeat (kept_seat_at s.seats n)
open_here s n made is = ap (λ o. is_some o) (ap (λ (x : Seat). x.last) (sym read) ∙ is)
  where
    read : seat_at (seats_of s) n ≡ seat_of (kept_seat_at s.seats n)
    read = there s.seats n made
      where
        there : (seats : List KeptSeat) (n : ℕ) → n < length seats → seat_at (map seat_of seats) n ≡ seat_of (kept_seat_at seats n)
        there [] n lt = absurd (omega (arith, lt))
        there (x ∷ xs) zero lt = refl
        there (x ∷ xs) (suc n) lt = there xs n (omega (arith, lt))

-- ---- all adds up after each

source_slot : (s : Lists) (m : Movement) (n : ℕ) (k : List ℕ) (made : n < length s.seats) → (IsNone (amount_under k (kept_seat_at s.seats n).slots) → IsOpenSeat (kept_seat_at s.seats n)) → (b : ℕ) (w : ValueView) → IsSound s no_hand → IsSound (with_slot_for s (Slot n k) (amount_of b w)) no_hand
source_slot s m n k made opens b w sound = by (is_some (amount_under k (kept_seat_at s.seats n).slots)) refl
  where
    by : (t : Bool) → is_some (amount_under k (kept_seat_at s.seats n).slots) ≡ t → IsSound (cond t s (with_new_slot s n k b w.kind)) no_hand
    by true is = sound
    by false is = sound_new_slot s no_hand n k b w.kind made (opens is) sound

sound_source : (s : Lists) (m : Movement) (h : Holder) (b : ℕ) (w : ValueView) → MayLeave s h b w → IsSound s no_hand → IsSound (with_slot_for s h (amount_of b w)) no_hand
sound_source s m (Purse n) b w may sound = sound
sound_source s m (Payment n) b w may sound = sound
sound_source s m (Slot n k) b w may sound = source_slot s m n k may.made (λ none. (may.opens none).slot.is_open) b w sound
sound_source s m Hand b w may sound = absurd may
sound_source s m Outside b w may sound = sound

pub sound_target : (s : Lists) (hand : ℕ → Content) (h : Holder) (a : Amount) → MayArrive s h a → IsSound s hand → IsSound (with_slot_for s h a) hand
sound_target s hand (Purse n) a may sound = sound
sound_target s hand (Payment n) a may sound = sound
sound_target s hand (Slot n k) a may sound = by (is_some (amount_under k (kept_seat_at s.seats n).slots))
  where
    by : (t : Bool) → IsSound (cond t s (with_new_slot s n k a.brand a.value.kind)) hand
    by true = sound
    by false = sound_new_slot s hand n k a.brand a.value.kind may.put.made may.put.is_open sound
sound_target s hand Hand a may sound = absurd may
sound_target s hand Outside a may sound = sound

pub new_there : (s : Lists) (n : ℕ) (k : List ℕ) (a : Amount) → n < length s.seats → IsNone (amount_under k (kept_seat_at s.seats n).slots) → amount_under k (kept_seat_at (with_new_slot s n k a.brand a.value.kind).seats n).slots ≡ Some (empty_amount a.brand a.value.kind)
new_there s n k a made none =
    ap (λ (x : KeptSeat). amount_under k x.slots) (read_set s.seats n _ no_kept_seat made)
    ∙ pushed_there k (kept_seat_at s.seats n).slots (empty_amount a.brand a.value.kind) none

-- what arrives can be given
pub arrives_give : (s : Lists) (h : Holder) (a : Amount) → MayArrive s h a → IsOfBrand s a.brand a.value → Contains (supply_at s.out a.brand).outstanding.content a.value.content → CanGive (with_slot_for s h a) h a.brand a.value
arrives_give s (Purse n) a may brand out = record { made = may.put.made; meet = may.put.meet; value = may.value }
arrives_give s (Payment n) a may brand out = may.put.next
arrives_give s (Slot n k) a may brand out = by (is_some (amount_under k (kept_seat_at s.seats n).slots)) refl
  where
    wider : Lists
    wider = with_new_slot s n k a.brand a.value.kind

    by : (t : Bool) → is_some (amount_under k (kept_seat_at s.seats n).slots) ≡ t → CanGive (cond t s wider) (Slot n k) a.brand a.value
    by true is = record {
      slot = record { made = may.put.made; there = is };
      meet = may.put.meet is;
      value = subst (λ kind. IsValue kind (sum (slot_of s n k).value.content a.value.content)) (sym (may.put.meet is).kind) may.value;
    }
    by false is = record {
      slot = record {
        made = omega (arith, may.put.made, length_set s.seats n (with_slots (kept_seat_at s.seats n) ((kept_seat_at s.seats n).slots ++ keyed_share k (empty_amount a.brand a.value.kind) ∷ [])));
        there = ap is_some (new_there s n k a may.put.made is);
      };
      meet = subst (λ (x : Amount). Meet x a) (sym at) (record { brand = refl; kind = refl });
      value = subst (λ (x : Amount). IsValue x.value.kind (sum x.value.content a.value.content)) (sym at)
          (subst (λ (o : Option Amount). IsValue a.value.kind (sum (unwrap_or o no_amount).value.content a.value.content)) (none_is (amount_under k (kept_seat_at s.seats n).slots) is) may.value);
    }
      where
        at : slot_of wider n k ≡ empty_amount a.brand a.value.kind
        at = ap (λ o. unwrap_or o no_amount) (new_there s n k a may.put.made is)

        none_is : (o : Option Amount) → is_some o ≡ false → o ≡ None
        none_is None none = refl
        none_is (Some x) none = absurd cc
arrives_give s Hand a may brand out = absurd may
arrives_give s Outside a may brand out = record { made = brand.made; kind = brand.kind; has = out }

-- ---- what is out keeps its kinds

kinds_taken : (s : Lists) (h : Holder) (b : ℕ) (w v : ValueView) (e : ℕ) → IsOfBrand s e v → IsOfBrand (lists.taken s h b w) e v
kinds_taken s (Purse n) b w v e is = record { made = is.made; kind = is.kind }
kinds_taken s (Payment n) b w v e is = record { made = is.made; kind = is.kind }
kinds_taken s (Slot n k) b w v e is = record { made = is.made; kind = is.kind }
kinds_taken s Hand b w v e is = record { made = is.made; kind = is.kind }
kinds_taken s Outside b w v e is = record {
  made = omega (arith, is.made, length_set s.out b (issued (supply_at s.out b) w.content));
  kind = keeps (λ (x : BrandSupply). x.outstanding.kind) s.out b (issued (supply_at s.out b) w.content) (new_supply Nat) refl e ∙ is.kind;
}

kinds_slot_for : (s : Lists) (h : Holder) (a : Amount) (v : ValueView) (e : ℕ) → IsOfBrand s e v → IsOfBrand (with_slot_for s h a) e v
kinds_slot_for s (Purse n) a v e is = is
kinds_slot_for s (Payment n) a v e is = is
kinds_slot_for s (Slot n k) a v e is = by (is_some (amount_under k (kept_seat_at s.seats n).slots))
  where
    by : (t : Bool) → IsOfBrand (cond t s (with_new_slot s n k a.brand a.value.kind)) e v
    by true = is
    by false = record { made = is.made; kind = is.kind }
kinds_slot_for s Hand a v e is = is
kinds_slot_for s Outside a v e is = is

pub brand_out : (s : Lists) (m : Movement) → IsOfBrand s m.brand m.value → IsOfBrand (taken_by_hand s m) m.brand m.value
brand_out s m is = kinds_taken (source_of s m) m.from m.brand m.value m.value m.brand (kinds_slot_for s m.from (moved_amount m) m.value m.brand is)

module _ (s : Lists) (m : Movement) (sound : IsSound s no_hand) (can : CanMoveByHand s m) where
  abbrev c : Content
  c = m.value.content

  sound_out : IsSound (taken_by_hand s m) (hand_plus no_hand m.brand c)
  sound_out = sound_taken (source_of s m) no_hand m.brand m.value (sound_source s m m.from m.brand m.value can.leaves sound) m.from can.take

  out_has : Contains (supply_at (taken_by_hand s m).out m.brand).outstanding.content c
  out_has = Contains-trans _ (hand_plus no_hand m.brand c m.brand) c (hand_is_out (taken_by_hand s m) (hand_plus no_hand m.brand c) sound_out m.brand) (plus_has no_hand m.brand c)

  pub sound_by_hand : IsSound (by_hand s m) no_hand
  sound_by_hand = sound_alike (by_hand s m) (hand_minus (hand_plus no_hand m.brand c) m.brand c) no_hand (in_and_out no_hand m.brand c)
      (sound_given (with_slot_for (taken_by_hand s m) m.to (moved_amount m)) (hand_plus no_hand m.brand c) m.brand m.value
      (sound_target (taken_by_hand s m) (hand_plus no_hand m.brand c) m.to (moved_amount m) can.arrives sound_out) m.to
      (arrives_give (taken_by_hand s m) m.to (moved_amount m) can.arrives (brand_out s m can.brand) out_has)
      (plus_has no_hand m.brand c))

-- ---- what a draft can make, it can make by way of the hand

arrives_put : (s : Lists) (h : Holder) (a : Amount) → MayArrive s h a → views.MayPut s h
arrives_put s (Purse n) a may = may.put.made
arrives_put s (Payment n) a may = may.put.next
arrives_put s (Slot n k) a may = may.put.made
arrives_put s Hand a may = absurd may
arrives_put s Outside a may = tt

pub by_hand_can : (s : Lists) (m : Movement) → CanMoveByHand s m → CanByHand s m
by_hand_can s m can = record { take = can.take; put = arrives_put (taken_by_hand s m) m.to (moved_amount m) can.arrives }

pub all_by_hand_can : (s : Lists) (ms : List Movement) → CanMoveEach s ms → CanAllByHand s ms
all_by_hand_can s [] can = tt
all_by_hand_can s (m ∷ ms) can = (by_hand_can s m can.0, all_by_hand_can (by_hand s m) ms can.1)

-- ---- the world's running rights beside the lists: all is as there, but that no payment is spent yet

pub record IsBeside (r : Rights) (s : Lists) : Type 0 where
  pub rest : with_payment_views r s.payments ≡ rights_of s
  pub long : length r.payments ≡ length s.payments

-- of the payments, those that are still taken from are as there
abbrev pub SamePayment : List PaymentView → List PaymentView → Holder → Type 0
SamePayment ps qs (Payment n) = payment_view_at ps n ≡ payment_view_at qs n
SamePayment ps qs (Purse n) = Unit {0}
SamePayment ps qs (Slot n k) = Unit {0}
SamePayment ps qs Hand = Unit {0}
SamePayment ps qs Outside = Unit {0}

abbrev pub SamePayments : Rights → Lists → List Movement → Type 0
SamePayments r s ms = AllByRecursion (λ (m : Movement). SamePayment r.payments s.payments m.from) ms

-- the next payment and the next slot are not too many
abbrev NotTooMany : List Seat → Rights → Rights → Type 0
NotTooMany seats r after = made_or_owed seats r < made_or_owed seats after → made_or_owed seats r < most_made

module _ (r : Rights) (s : Lists) (beside : IsBeside r s) where
  same_purses : r.purses ≡ s.purses
  same_purses = ap (λ (x : Rights). x.purses) beside.rest

  same_slots : r.slots ≡ map slots_held s.seats
  same_slots = ap (λ (x : Rights). x.slots) beside.rest

  same_out : r.out ≡ s.out
  same_out = ap (λ (x : Rights). x.out) beside.rest

  shares_at : (n : ℕ) → slots_at r.slots n ≡ (kept_seat_at s.seats n).slots
  shares_at n = ap (λ l. slots_at l n) same_slots ∙ slots_read s.seats n

  seat_made : (n : ℕ) → n < length r.slots → n < length s.seats
  seat_made n lt = omega (arith, lt, ap length same_slots, length_map slots_held s.seats)

  -- what is owed is what the world counts
  module _ (seats : List Seat) (hand : ℕ → Content) (seated : seats_of s ≡ seats) (sound : IsSound s hand) where
    pub counted_so : length s.payments + s.owed ≡ made_or_owed seats r
    counted_so =
        let there : open_slots (seats_of s) (map slots_held s.seats) ≡ open_slots seats r.slots = (λ i. open_slots (seated i) (map slots_held s.seats)) ∙ ap (λ l. open_slots seats l) (sym same_slots) in
        omega (arith, beside.long, sound.owed, owed_is s.seats, there)

    -- a slot that isn't there may be opened in an open seat
    may_open : (n : ℕ) (k : List ℕ) (more : Rights) → n < length r.slots → IsOpen (seat_at seats n) → IsNone (amount_under k (slots_at r.slots n)) → length (slots_at r.slots n) < most_shares → made_or_owed seats r < most_made → MayOpenSlot s n k
    may_open n k more made is none few room = record {
      made = seat_made n made;
      is_open = open_here s n (seat_made n made) (subst (λ l. IsOpen (seat_at l n)) (sym seated) is);
      free = subst (λ l. IsNone (amount_under k l)) (shares_at n) none;
      few = subst (λ (l : List Share). length l < most_shares) (shares_at n) few;
      left = omega (arith, counted_so, room);
    }

    -- ---- where a movement comes from

    module _ (b : ℕ) (w : ValueView) (brand : IsOfBrand s b w) where
      source_slot_can : (n : ℕ) (k : List ℕ) → WorldTakes r no_hand (Slot n k) b w → IsOpen (seat_at seats n) → made_or_owed seats (taken r (Slot n k) b w) ≤ most_made → SlotLeaves s n k w × CanTake (with_slot_for s (Slot n k) (amount_of b w)) (Slot n k) b w
      source_slot_can n k takes is room = by (amount_under k shares) refl (subst (λ l. HasOrOpens (amount_under k l) l b w) (shares_at n) takes.has)
        where
          shares : List Share
          shares = (kept_seat_at s.seats n).slots

          made : n < length s.seats
          made = seat_made n takes.made

          wide : Lists
          wide = with_new_slot s n k b w.kind

          by : (o : Option Amount) → amount_under k shares ≡ o → HasOrOpens o shares b w → SlotLeaves s n k w × CanTake (cond (is_some (amount_under k shares)) s wide) (Slot n k) b w
          by (Some a) found has = (
            record { made = made; opens = λ none. absurd (some_not_none (sym (ap is_some found) ∙ none)) },
            subst (λ t. CanTake (cond t s wide) (Slot n k) b w) (sym (ap is_some found)) (record {
              slot = record { made = made; there = ap is_some found };
              brand = ap (λ (x : Amount). x.brand) at ∙ has.brand;
              kind = ap (λ (x : Amount). x.value.kind) at ∙ has.kind;
              has = subst (λ (x : Amount). Contains x.value.content w.content) (sym at) has.has;
            }),
          )
            where
              at : slot_of s n k ≡ a
              at = ap (λ o. unwrap_or o no_amount) found

              some_not_none : true ≡ false → ⊥
              some_not_none e = cc
          by None found has = (
            record { made = made; opens = λ none. record { empty = empty; slot = may_open n k (taken r (Slot n k) b w) takes.made is none_there few_there (omega (arith, grows, room)) } },
            subst (λ t. CanTake (cond t s wide) (Slot n k) b w) (sym (ap is_some found)) (record {
              slot = record { made = omega (arith, made, length_set s.seats n (with_slots (kept_seat_at s.seats n) (shares ++ keyed_share k (empty_amount b w.kind) ∷ []))); there = ap is_some there };
              brand = ap (λ (x : Amount). x.brand) at;
              kind = ap (λ (x : Amount). x.value.kind) at;
              has = subst (λ (x : Amount). Contains x.value.content w.content) (sym at) (subst (λ x. Contains nothing x) (sym empty) (Contains-refl nothing));
            }),
          )
            where
              empty : w.content ≡ nothing
              empty = same_content w.content nothing (λ q. has.0.each q ∙ sym (count-nothing q))

              none_there : IsNone (amount_under k (slots_at r.slots n))
              none_there = ap (λ l. is_some (amount_under k l)) (shares_at n) ∙ ap is_some found

              few_there : length (slots_at r.slots n) < most_shares
              few_there = subst (λ (l : List Share). length l < most_shares) (sym (shares_at n)) has.1

              grows : made_or_owed seats r < made_or_owed seats (taken r (Slot n k) b w)
              grows = omega (arith, open_grows_more seats r.slots n (shares_less k (amount_of b w) (slots_at r.slots n)) (omega (arith, made, length_map seat_of s.seats, ap length seated)) takes.made is (shares_longer k (λ had. lists.less had w.content) (holding (amount_of b w) nothing) (slots_at r.slots n) none_there))

              there : amount_under k (kept_seat_at wide.seats n).slots ≡ Some (empty_amount b w.kind)
              there = new_there s n k (amount_of b w) made (ap is_some found)

              at : slot_of wide n k ≡ empty_amount b w.kind
              at = ap (λ o. unwrap_or o no_amount) there

      source_can : (h : Holder) → IsNoHand h → WorldTakes r no_hand h b w → IsAtOpen seats h → ((n : ℕ) → h ≡ Payment n → CanTake s (Payment n) b w) → made_or_owed seats (taken r h b w) ≤ most_made → MayLeave s h b w × CanTake (with_slot_for s h (amount_of b w)) h b w
      source_can (Purse n) comes takes is whole room = (
        tt,
        record {
          made = subst (λ (l : List Amount). n < length l) same_purses takes.made;
          brand = subst (λ l. (purse_at l n).brand ≡ b) same_purses takes.has.brand;
          kind = subst (λ l. (purse_at l n).value.kind ≡ w.kind) same_purses takes.has.kind;
          has = subst (λ l. Contains (purse_at l n).value.content w.content) same_purses takes.has.has;
        },
      )
      source_can (Payment n) comes takes is whole room = (tt, whole n refl)
      source_can (Slot n k) comes takes is whole room = source_slot_can n k takes is room
      source_can Hand comes takes is whole room = absurd comes
      source_can Outside comes takes is whole room = (
        tt,
        record {
          made = brand.made;
          kind = brand.kind;
          fits = subst (λ l. Fits w.kind (sum (supply_at l b).outstanding.content w.content)) same_out takes.fits;
          minted = subst (λ l. (supply_at l b).minted + counted w.content ≤ minted_bound) same_out takes.minted;
        },
      )

      -- ---- and where it goes

      arrives_slot_can : (n : ℕ) (k : List ℕ) → WorldGives r (Slot n k) b w → IsOpen (seat_at seats n) → made_or_owed seats (given r (Slot n k) b w) ≤ most_made → MayReach s (Slot n k) (amount_of b w)
      arrives_slot_can n k gives is room = by (amount_under k shares) refl (subst (λ l. TakesOrOpens (amount_under k l) l b w) (shares_at n) gives.takes)
        where
          shares : List Share
          shares = (kept_seat_at s.seats n).slots

          made : n < length s.seats
          made = seat_made n gives.made

          open_seat : IsOpenSeat (kept_seat_at s.seats n)
          open_seat = open_here s n made (subst (λ l. IsOpen (seat_at l n)) (sym seated) is)

          clash : true ≡ false → ⊥
          clash e = cc

          by : (o : Option Amount) → amount_under k shares ≡ o → TakesOrOpens o shares b w → MayReach s (Slot n k) (amount_of b w)
          by (Some a) there takes = record {
            put = record {
              made = made;
              is_open = open_seat;
              meet = λ has. record { brand = ap (λ (x : Amount). x.brand) at ∙ takes.brand; kind = ap (λ (x : Amount). x.value.kind) at ∙ takes.kind };
              few = λ none. absurd (clash (sym (ap is_some there) ∙ none));
              left = λ none. absurd (clash (sym (ap is_some there) ∙ none));
            };
            value = subst (λ (x : Amount). IsValue w.kind (sum x.value.content w.content)) (sym at) takes.value;
          }
            where
              at : slot_of s n k ≡ a
              at = ap (λ o. unwrap_or o no_amount) there
          by None there takes = record {
            put = record {
              made = made;
              is_open = open_seat;
              meet = λ has. absurd (clash (sym has ∙ ap is_some there));
              few = λ none. takes.1;
              left = λ none. omega (arith, counted_so, grows, room);
            };
            value = subst (λ x. IsValue w.kind x) (sym (ap (λ (o : Option Amount). sum (unwrap_or o no_amount).value.content w.content) there ∙ nothing-sum w.content)) takes.0;
          }
            where
              none_there : IsNone (amount_under k (slots_at r.slots n))
              none_there = ap (λ l. is_some (amount_under k l)) (shares_at n) ∙ ap is_some there

              grows : made_or_owed seats r < made_or_owed seats (given r (Slot n k) b w)
              grows = omega (arith, open_grows_more seats r.slots n (shares_more k (amount_of b w) (slots_at r.slots n)) (omega (arith, made, length_map seat_of s.seats, ap length seated)) gives.made is (shares_longer k (λ had. lists.more had w.content) (amount_of b w) (slots_at r.slots n) none_there))

      pub arrives_can : (h : Holder) → GoesToHolder (length r.payments) h → WorldGives r h b w → IsAtOpen seats h → made_or_owed seats (given r h b w) ≤ most_made → MayArrive s h (amount_of b w)
      arrives_can (Purse n) goes gives is room = record {
        put = record {
          made = subst (λ (l : List Amount). n < length l) same_purses gives.made;
          meet = record {
            brand = subst (λ l. (purse_at l n).brand ≡ b) same_purses gives.takes.brand;
            kind = subst (λ l. (purse_at l n).value.kind ≡ w.kind) same_purses gives.takes.kind;
          };
        };
        value = subst (λ l. IsValue (purse_at l n).value.kind (sum (purse_at l n).value.content w.content)) same_purses
            (subst (λ kind. IsValue kind (sum (purse_at r.purses n).value.content w.content)) (sym gives.takes.kind) gives.takes.value);
      }
      arrives_can (Payment n) goes gives is room = record {
        put = record {
          next = goes ∙ beside.long;
          left = omega (arith, counted_so, room, ap length (paid_next r.payments n (amount_of b w) goes), length_push r.payments (live_payment (amount_of b w)));
        };
        value = tt;
      }
      arrives_can (Slot n k) goes gives is room = arrives_slot_can n k gives is room
      arrives_can Hand goes gives is room = absurd goes
      arrives_can Outside goes gives is room = tt

-- ---- what stays beside the lists

taken_else : (r : Rights) (ps qs : List PaymentView) (h : Holder) (b : ℕ) (w : ValueView) → with_payment_views (taken (with_payment_views r ps) h b w) qs ≡ with_payment_views (taken r h b w) qs
taken_else r ps qs (Purse n) b w = refl
taken_else r ps qs (Payment n) b w = refl
taken_else r ps qs (Slot n k) b w = refl
taken_else r ps qs Hand b w = refl
taken_else r ps qs Outside b w = refl

given_else : (r : Rights) (ps qs : List PaymentView) (h : Holder) (b : ℕ) (w : ValueView) → with_payment_views (given (with_payment_views r ps) h b w) qs ≡ with_payment_views (given r h b w) qs
given_else r ps qs (Purse n) b w = refl
given_else r ps qs (Payment n) b w = refl
given_else r ps qs (Slot n k) b w = refl
given_else r ps qs Hand b w = refl
given_else r ps qs Outside b w = refl

pub spent_long : (h : Holder) (ps : List PaymentView) → length (spent_from h ps) ≡ length ps
spent_long (Payment n) ps = length_set ps n _
spent_long (Purse n) ps = refl
spent_long (Slot n k) ps = refl
spent_long Hand ps = refl
spent_long Outside ps = refl

module _ (r : Rights) (s : Lists) (m : Movement) (beside : IsBeside r s) where
  alike_taken : (qs : List PaymentView) → with_payment_views (taken r m.from m.brand m.value) qs ≡ with_payment_views (taken (rights_of s) m.from m.brand m.value) qs
  alike_taken qs = sym (taken_else r s.payments qs m.from m.brand m.value) ∙ ap (λ x. with_payment_views (taken x m.from m.brand m.value) qs) beside.rest

  alike_moved : (qs : List PaymentView) → with_payment_views (moved r m) qs ≡ with_payment_views (moved (rights_of s) m) qs
  alike_moved qs =
      sym (given_else (taken r m.from m.brand m.value) qs qs m.to m.brand m.value)
      ∙ ap (λ x. with_payment_views (given x m.to m.brand m.value) qs) (alike_taken qs)
      ∙ given_else (taken (rights_of s) m.from m.brand m.value) qs qs m.to m.brand m.value

  pub beside_out : CanTake (source_of s m) m.from m.brand m.value → IsBeside (taken r m.from m.brand m.value) (taken_by_hand s m)
  beside_out can = record {
    rest = alike_taken (taken_by_hand s m).payments ∙ ap (λ x. with_payment_views x (taken_by_hand s m).payments) (sym views_out);
    long =
        ap length (pays_taken r m.from m.brand m.value)
        ∙ out_long m.value r.payments m.from
        ∙ beside.long
        ∙ sym (out_long m.value s.payments m.from)
        ∙ ap length (sym (pays_taken (rights_of s) m.from m.brand m.value))
        ∙ sym (spent_long m.from (taken (rights_of s) m.from m.brand m.value).payments)
        ∙ ap (λ (x : Rights). length x.payments) (sym views_out);
  }
    where
      views_out : rights_of (taken_by_hand s m) ≡ with_payment_views (taken (rights_of s) m.from m.brand m.value) (spent_from m.from (taken (rights_of s) m.from m.brand m.value).payments)
      views_out = source_views s m.from m.brand m.value can

  module _ (can : CanMoveByHand s m) (goes : GoesToHolder (length r.payments) m.to) where
    abbrev w : ValueView
    w = m.value

    views_moved : rights_of (by_hand s m) ≡ with_payment_views (moved (rights_of s) m) (spent_from m.from (moved (rights_of s) m).payments)
    views_moved = one_together s m (by_hand_can s m can)

    goes_there : GoesToHolder (length s.payments) m.to
    goes_there = subst (λ n. GoesToHolder n m.to) beside.long goes

    pub beside_moved : IsBeside (moved r m) (by_hand s m)
    beside_moved = record {
      rest = alike_moved (by_hand s m).payments ∙ ap (λ x. with_payment_views x (by_hand s m).payments) (sym views_moved);
      long =
          moved_long r m goes
          ∙ ap (λ n. made_with n m.to) beside.long
          ∙ sym (moved_long (rights_of s) m goes_there)
          ∙ sym (spent_long m.from (moved (rights_of s) m).payments)
          ∙ ap (λ (x : Rights). length x.payments) (sym views_moved);
    }

    payment_stays : (k : ℕ) → NotAt k m.from → payment_view_at r.payments k ≡ payment_view_at s.payments k → payment_view_at (moved r m).payments k ≡ payment_view_at (by_hand s m).payments k
    payment_stays k apart same =
        ap (λ l. payment_view_at l k) (pays_moved r m)
        ∙ in_alike (moved_amount m) (length r.payments) (pay_out r.payments m.from w) (pay_out s.payments m.from w) m.to k
        (sym (out_long w r.payments m.from)) (beside.long ∙ sym (out_long w s.payments m.from)) goes
        (out_apart w r.payments m.from k apart ∙ same ∙ sym (out_apart w s.payments m.from k apart))
        ∙ sym (ap (λ l. payment_view_at l k) (pays_moved (rights_of s) m))
        ∙ sym (spent_apart (moved (rights_of s) m).payments m.from k apart)
        ∙ sym (ap (λ (x : Rights). payment_view_at x.payments k) views_moved)

    not_at : (h : Holder) (q : Movement) (k : ℕ) → IsTakenOnce h q → q.from ≡ Payment k → NotAt k h
    not_at (Purse n) q k once at = λ e. cc
    not_at (Payment n) q k once at = λ e. once (at ∙ sym e)
    not_at (Slot n j) q k once at = λ e. cc
    not_at Hand q k once at = λ e. cc
    not_at Outside q k once at = λ e. cc

    same_payment_view : (h : Holder) → ((k : ℕ) → h ≡ Payment k → NotAt k m.from) → SamePayment r.payments s.payments h → SamePayment (moved r m).payments (by_hand s m).payments h
    same_payment_view (Purse n) apart same = tt
    same_payment_view (Payment n) apart same = payment_stays n (apart n refl) same
    same_payment_view (Slot n j) apart same = tt
    same_payment_view Hand apart same = tt
    same_payment_view Outside apart same = tt

    pub payments_stay : (ms : List Movement) → AllByRecursion (IsTakenOnce m.from) ms → SamePayments r s ms → SamePayments (moved r m) (by_hand s m) ms
    payments_stay [] once same = tt
    payments_stay (q ∷ qs) once same = (same_payment_view q.from (λ k at. not_at m.from q k once.0 at) same.0, payments_stay qs once.1 same.1)

-- ---- a payment is taken whole

module _ (r : Rights) (s : Lists) (m : Movement) (ms : List Movement) (beside : IsBeside r s) (alone : StandAlone (length r.payments) (m ∷ ms)) (takes : WorldTakes r no_hand m.from m.brand m.value) (gone : HasNothing (all_moved (moved r m) ms).payments m.from) (same : SamePayment r.payments s.payments m.from) where
  whole : (n : ℕ) → m.from ≡ Payment n → CanTake s (Payment n) m.brand m.value
  whole n at = record {
    made = omega (arith, has.made, beside.long);
    is = sym (subst (SamePayment r.payments s.payments) at same) ∙ payment_whole (payment_view_at r.payments n) m.brand m.value has.has (subst HoldsNothing left (subst (HasNothing (all_moved (moved r m) ms).payments) at gone));
  }
    where
      has : PaymentHas r n m.brand m.value
      has = subst (λ h. WorldTakes r no_hand h m.brand m.value) at takes

      out : List PaymentView
      out = slice_set r.payments n (lessened_payment (payment_view_at r.payments n) m.value.content)

      made_then : n < length (moved r m).payments
      made_then = subst (λ q. n < q) (sym (moved_long r m alone.0.to)) (made_more (length r.payments) m.to n has.made)

      left : payment_view_at (all_moved (moved r m) ms).payments n ≡ lessened_payment (payment_view_at r.payments n) m.value.content
      left =
          stays_all (moved r m) ms n (subst (λ q. StandAlone q ms) (sym (moved_long r m alone.0.to)) alone.1) made_then (subst (λ h. AllByRecursion (IsTakenOnce h) ms) at alone.0.once)
          ∙ ap (λ l. payment_view_at l n) (pays_moved r m ∙ ap (λ h. pay_in (pay_out r.payments h m.value) m.to (moved_amount m)) at)
          ∙ in_before (moved_amount m) (length r.payments) out m.to n (sym (length_set r.payments n _)) alone.0.to (omega (arith, has.made, length_set r.payments n (lessened_payment (payment_view_at r.payments n) m.value.content)))
          ∙ read_set r.payments n (lessened_payment (payment_view_at r.payments n) m.value.content) (spent_payment 0) has.made

-- ---- each

hand_same : (made : ℕ) (m : Movement) → IsNoHand m.from → GoesToHolder made m.to → hand_after no_hand m ≡ no_hand
hand_same made m comes goes = ap (λ h. hand_in h m.to m.brand m.value.content) (from m.from comes) ∙ to m.to goes
  where
    from : (h : Holder) → IsNoHand h → hand_out no_hand h m.brand m.value.content ≡ no_hand
    from (Purse n) here = refl
    from (Payment n) here = refl
    from (Slot n k) here = refl
    from Hand here = absurd here
    from Outside here = refl

    to : (h : Holder) → GoesToHolder made h → hand_in no_hand h m.brand m.value.content ≡ no_hand
    to (Purse n) here = refl
    to (Payment n) here = refl
    to (Slot n k) here = refl
    to Hand here = absurd here
    to Outside here = refl

module _ (seats : List Seat) where
  one_can : (r : Rights) (s : Lists) (m : Movement) (ms : List Movement) → seats_of s ≡ seats → IsSound s no_hand → IsBeside r s → SamePayment r.payments s.payments m.from → StandAlone (length r.payments) (m ∷ ms) → CanMove r no_hand m → IsGoodMove seats m → HasNothing (all_moved (moved r m) ms).payments m.from → made_or_owed seats (all_moved (moved r m) ms) ≤ most_made → CanMoveByHand s m
  one_can r s m ms seated sound beside same alone can good gone room = record { brand = brand; leaves = from.0; take = from.1; arrives = to }
    where
      brand : IsOfBrand s m.brand m.value
      brand = record {
        made = subst (λ (l : List BrandSupply). m.brand < length l) (same_out r s beside) can.brand;
        kind = subst (λ l. kind_at l m.brand ≡ m.value.kind) (same_out r s beside) can.kind;
      }

      out : Rights
      out = taken r m.from m.brand m.value

      from : MayLeave s m.from m.brand m.value × CanTake (source_of s m) m.from m.brand m.value
      from = source_can r s beside seats no_hand seated sound m.brand m.value brand m.from alone.0.from can.from good.from (whole r s m ms beside alone can.from gone same)
          (omega (arith, room, given_grows seats out m.to m.brand m.value, all_grow seats (moved r m) ms))

      sound_then : IsSound (taken_by_hand s m) (hand_plus no_hand m.brand m.value.content)
      sound_then = sound_taken (source_of s m) no_hand m.brand m.value (sound_source s m m.from m.brand m.value from.0 sound) m.from from.1

      long_then : length out.payments ≡ length r.payments
      long_then = ap length (pays_taken r m.from m.brand m.value) ∙ out_long m.value r.payments m.from

      to : MayArrive (taken_by_hand s m) m.to (moved_amount m)
      to = arrives_can out (taken_by_hand s m) (beside_out r s m beside from.1) seats (hand_plus no_hand m.brand m.value.content) (seats_out s m ∙ seated) sound_then m.brand m.value (brand_out s m brand) m.to
          (subst (λ n. GoesToHolder n m.to) (sym long_then) alone.0.to) can.to good.to
          (omega (arith, room, all_grow seats (moved r m) ms))

  each_can : (r : Rights) (s : Lists) (ms : List Movement) → seats_of s ≡ seats → IsSound s no_hand → IsBeside r s → SamePayments r s ms → StandAlone (length r.payments) ms → CanMoveAll r no_hand ms → AllByRecursion (IsGoodMove seats) ms → AllByRecursion (λ (m : Movement). HasNothing (all_moved r ms).payments m.from) ms → made_or_owed seats (all_moved r ms) ≤ most_made → CanMoveEach s ms
  each_can r s [] seated sound beside same alone can good gone room = tt
  each_can r s (m ∷ ms) seated sound beside same alone can good gone room = (
    first,
    each_can (moved r m) (by_hand s m) ms (seats_by_hand s m ∙ seated) (sound_by_hand s m sound first) (beside_moved r s m beside first alone.0.to)
        (payments_stay r s m beside first alone.0.to ms alone.0.once same.1)
        (subst (λ n. StandAlone n ms) (sym (moved_long r m alone.0.to)) alone.1)
        (subst (λ hand. CanMoveAll (moved r m) hand ms) (hand_same (length r.payments) m alone.0.from alone.0.to) can.1)
        good.1 gone.1 room,
  )
    where
      first : CanMoveByHand s m
      first = one_can r s m ms seated sound beside same.0 alone can.0 good.0 gone.0 room

-- at the start the lists are the world's
same_all : (r : Rights) (s : Lists) (ms : List Movement) → r.payments ≡ s.payments → SamePayments r s ms
same_all r s [] same = tt
same_all r s (m ∷ ms) same = (at m.from, same_all r s ms same)
  where
    at : (h : Holder) → SamePayment r.payments s.payments h
    at (Purse n) = tt
    at (Payment n) = ap (λ l. payment_view_at l n) same
    at (Slot n k) = tt
    at Hand = tt
    at Outside = tt

pub all_spent_long : (ms : List Movement) (ps : List PaymentView) → length (all_spent ms ps) ≡ length ps
all_spent_long [] ps = refl
all_spent_long (m ∷ ms) ps = all_spent_long ms (spent_from m.from ps) ∙ spent_long m.from ps

pub together_each : (s : Lists) (staging : List (Option (List Share))) (ms : List Movement) → IsSound s no_hand → AreMovements ms → CanMoveTogether (rights_of s) (seats_of s) staging ms → CanMoveEach s ms
together_each s staging ms sound shape can = each_can (seats_of s) (rights_of s) s ms refl sound (record { rest = refl; long = refl }) (same_all (rights_of s) s ms refl) (stand_alone (rights_of s) no_hand ms shape can.can can.fresh) can.can can.good can.emptied
    (omega (arith, can.room.left, all_spent_long ms (all_moved (rights_of s) ms).payments))

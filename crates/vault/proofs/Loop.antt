-- A step worked backwards in memory: it can be, and what is left stands.
use Rattle.std.proofs.Common.{◌≡◌, ℕ, ◌<◌, ◌==◌, Bool, true, false, cond, List, ◌∷◌, length, refl, sym, ◌∙◌, ap, subst, arith}
use Rattle.std.proofs.lemmas.Bool.{eq-eqb}
use Rattle.vault_model.specs.amount_math.Content.{Content, Contains, count-sum, difference, difference-sum, sum, sum-difference}
use Rattle.vault_model.specs.amount_math.Held.{HasRoom, more_room}
use Rattle.vault_model.specs.amount_math.ValueView.{Fits, ValueView, keys_of}
use Rattle.vault_model.specs.amount_math.declared.Kind.TheVariants.{Nat}
use Rattle.vault_model.specs.ertp_mint.BrandSupply.{BrandSupply, new_supply, supply_at}
use Rattle.vault_model.specs.ertp_mint.Circulating.{circulation_at, unretired}
use Rattle.vault_model.proofs.lemmas.ListEdits.{length_map, length_set, read_set}
use Rattle.vault_model.specs.holders.Purses.{room_at}
use Rattle.vault_model.specs.declared.Undo.{Undo}
use Rattle.vault_model.specs.declared.Undo.TheVariants.{Moves}
use Rattle.vault_model.specs.Backwards.{CanAllBack, CanBack, CanUngive, CanUntake, HandHas, Rooms, all_back, from_hand, in_hand, retired_by, to_hand, to_outside}
use Rattle.vault_model.specs.Lists.{Lists, amount_of, back, kind_of, purse_at, slot_of, ungiven, untaken}
use Rattle.vault_model.specs.Seats.{HasSlotOf}
use Rattle.vault_model.proofs.SlotShares.{slot_was}
use Rattle.seats.specs.Store.{slot_store}
use Rattle.vault_model.proofs.Sound.{at_or_else}
use Rattle.vault_model.specs.rights_model.declared.Holder.{Holder}
use Rattle.vault_model.specs.rights_model.declared.Holder.TheVariants.{Purse, Payment, Slot, Hand, Outside}
use Rattle.vault_model.specs.rights_model.declared.Movement.{Movement}
use Rattle.transit.specs.Transit.{IsOnItsWay, held_at}
use Rattle.vault.specs.Memory.{CanUngiveHere, CanUntakeHere, IsBack, IsHalf, amount_in, kept_of, kept_ungiven, lists_of, store_of, store_ungiven, store_untaken, supply_of}
use Rattle.vault.specs.Working.{IsWorking}
use Rattle.vault.specs.declared.stores.Stores.{Stores}
use Rattle.vault.proofs.Halves.{supply_read}

-- ---- what the hand's store has

module _ (b : ℕ) (c : Content) where
  store_after_ungive : (h : Holder) (S X Y : ℕ → Content) (e : ℕ) → S e ≡ cond (b == e) (to_hand h (X e) c) (Y e) → store_ungiven S h b c e ≡ cond (b == e) (X e) (Y e)
  store_after_ungive Hand S X Y e is = elim (b == e) as (λ t. S e ≡ cond t (sum (X e) c) (Y e) → cond t (difference (S e) c) (S e) ≡ cond t (X e) (Y e)) [
    | true ↦ λ eq. ap (λ x. difference x c) eq ∙ difference-sum (X e) c
    | false ↦ λ eq. eq
  ] is
  store_after_ungive (Purse n) S X Y e is = is
  store_after_ungive (Payment n) S X Y e is = is
  store_after_ungive (Slot v j) S X Y e is = is
  store_after_ungive Outside S X Y e is = is

  same_either : (t : Bool) (x : Content) → cond t x x ≡ x
  same_either true x = refl
  same_either false x = refl

  store_after_untake : (h : Holder) (S Y : ℕ → Content) (e : ℕ) → HandHas h (Y b) c → S e ≡ cond (b == e) (from_hand h (Y e) c) (Y e) → store_untaken S h b c e ≡ Y e
  store_after_untake Hand S Y e has is = at_or_else (λ q t. S q ≡ cond t (difference (Y q) c) (Y q) → cond t (sum (S q) c) (S q) ≡ Y q) b e
      (λ eq. ap (λ x. sum x c) eq ∙ sum-difference (Y b) c has)
      (λ differs eq. eq) is
  store_after_untake (Purse n) S Y e has is = is ∙ same_either (b == e) (Y e)
  store_after_untake (Payment n) S Y e has is = is ∙ same_either (b == e) (Y e)
  store_after_untake (Slot v j) S Y e has is = is ∙ same_either (b == e) (Y e)
  store_after_untake Outside S Y e has is = is ∙ same_either (b == e) (Y e)

  -- what is kept
  kept_after_ungive : (h : Holder) (S X : ℕ → Content) (e : ℕ) → S e ≡ cond (b == e) (to_outside h (X e) c) (X e) → kept_ungiven S h b c e ≡ X e
  kept_after_ungive Outside S X e is = elim (b == e) as (λ t. S e ≡ cond t (sum (X e) c) (X e) → cond t (difference (S e) c) (S e) ≡ X e) [
    | true ↦ λ eq. ap (λ x. difference x c) eq ∙ difference-sum (X e) c
    | false ↦ λ eq. eq
  ] is
  kept_after_ungive (Purse n) S X e is = is ∙ same_either (b == e) (X e)
  kept_after_ungive (Payment n) S X e is = is ∙ same_either (b == e) (X e)
  kept_after_ungive (Slot v j) S X e is = is ∙ same_either (b == e) (X e)
  kept_after_ungive Hand S X e is = is ∙ same_either (b == e) (X e)

-- ---- lengths and kinds stay

purses_long : (s : Lists) (h : Holder) (b : ℕ) (w : ValueView) → length (ungiven s h b w).purses ≡ length s.purses
purses_long s (Purse n) b w = length_set s.purses n _
purses_long s (Payment n) b w = refl
purses_long s (Slot v j) b w = refl
purses_long s Hand b w = refl
purses_long s Outside b w = refl

outs_long : (s : Lists) (h : Holder) (b : ℕ) (w : ValueView) → length (ungiven s h b w).out ≡ length s.out
outs_long s (Purse n) b w = refl
outs_long s (Payment n) b w = refl
outs_long s (Slot v j) b w = refl
outs_long s Hand b w = refl
outs_long s Outside b w = length_set s.out b _

untaken_purses : (s : Lists) (h : Holder) (b : ℕ) (w : ValueView) → length (untaken s h b w).purses ≡ length s.purses
untaken_purses s (Purse n) b w = length_set s.purses n _
untaken_purses s (Payment n) b w = refl
untaken_purses s (Slot v j) b w = refl
untaken_purses s Hand b w = refl
untaken_purses s Outside b w = refl

untaken_outs : (s : Lists) (h : Holder) (b : ℕ) (w : ValueView) → length (untaken s h b w).out ≡ length s.out
untaken_outs s (Purse n) b w = refl
untaken_outs s (Payment n) b w = refl
untaken_outs s (Slot v j) b w = refl
untaken_outs s Hand b w = refl
untaken_outs s Outside b w = length_set s.out b _

kind_stays : (s : Lists) (h : Holder) (b : ℕ) (w : ValueView) → b < length s.out → kind_of (ungiven s h b w) b ≡ kind_of s b
kind_stays s (Purse n) b w lt = refl
kind_stays s (Payment n) b w lt = refl
kind_stays s (Slot v j) b w lt = refl
kind_stays s Hand b w lt = refl
kind_stays s Outside b w lt = ap (λ (x : BrandSupply). x.outstanding.kind) (read_set s.out b (unretired (supply_at s.out b) w.content) (new_supply Nat) lt)

-- a slot that is there was there

ungiven_slots : (s : Lists) (h : Holder) (b : ℕ) (w : ValueView) (v : ℕ) (j : List ℕ) → HasSlotOf (ungiven s h b w).seats v j → HasSlotOf s.seats v j
ungiven_slots s (Purse n) b w v j has = has
ungiven_slots s (Payment n) b w v j has = has
ungiven_slots s (Slot n k) b w v j has = slot_was s.seats n v k j _ has
ungiven_slots s Hand b w v j has = has
ungiven_slots s Outside b w v j has = has

untaken_slots : (s : Lists) (h : Holder) (b : ℕ) (w : ValueView) (v : ℕ) (j : List ℕ) → HasSlotOf (untaken s h b w).seats v j → HasSlotOf s.seats v j
untaken_slots s (Purse n) b w v j has = has
untaken_slots s (Payment n) b w v j has = has
untaken_slots s (Slot n k) b w v j has = slot_was s.seats n v k j _ has
untaken_slots s Hand b w v j has = has
untaken_slots s Outside b w v j has = has

-- ---- one movement

module _ (R : Rooms) (kept : Lists) (p : Stores) (m : Movement) (ks : List Undo) (ms : List Movement) (is : IsWorking R kept p (Moves ∷ ks) (m ∷ ms)) where
  abbrev b : ℕ
  b = m.brand

  abbrev w : ValueView
  w = m.value

  abbrev s : Lists
  s = lists_of p

  can : CanBack R s m ms
  can = is.can.0

  brand_here : b < length p.transit.out
  brand_here = omega (arith, can.made, length_map supply_of p.transit.out)

  store_now : store_of p b ≡ to_hand m.to (from_hand m.from (in_hand ms b) w.content) w.content
  store_now = is.hand b brand_here ∙ ap (λ t. cond t (to_hand m.to (from_hand m.from (in_hand ms b) w.content) w.content) (in_hand ms b)) (eq-eqb b b refl)

  kind_now : (circulation_at p.transit.out b).supply.outstanding.kind ≡ w.kind
  kind_now = ap (λ (x : BrandSupply). x.outstanding.kind) (sym (supply_read p.transit.out b)) ∙ can.kind

  kept_now : kept_of p b ≡ to_outside m.to (retired_by ms b) w.content
  kept_now = is.retired b brand_here ∙ ap (λ t. cond t (to_outside m.to (retired_by ms b) w.content) (retired_by ms b)) (eq-eqb b b refl)

  pub can_ungive : CanUngiveHere p m.to b w
  can_ungive = at m.to store_now kept_now can.ungive
    where
      at : (h : Holder) → store_of p b ≡ to_hand h (from_hand m.from (in_hand ms b) w.content) w.content → kept_of p b ≡ to_outside h (retired_by ms b) w.content → CanUngive R s h b w → CanUngiveHere p h b w
      at (Purse n) has keeps may = may
      at (Payment n) has keeps may = may
      at (Slot v j) has keeps may = may
      at Hand has keeps may = record {
        made = brand_here;
        kind = kind_now;
        has = subst (λ x. Contains x w.content) (sym has) (record { each = λ k. omega (arith, count-sum (from_hand m.from (in_hand ms b) w.content) w.content k) });
      }
      at Outside has keeps may = record {
        made = brand_here;
        can = record {
          kind = kind_now;
          kept = subst (λ x. Contains x w.content) (sym keeps) (record { each = λ k. omega (arith, count-sum (retired_by ms b) w.content k) });
          fits = subst (λ (x : BrandSupply). Fits x.outstanding.kind (sum x.outstanding.content w.content)) (supply_read p.transit.out b) may.fits;
        };
      }

  module _ (q : Stores) (half : IsHalf p q (ungiven s m.to b w) (store_ungiven (store_of p) m.to b w.content) (kept_ungiven (kept_of p) m.to b w.content)) where
    long_out : length q.transit.out ≡ length p.transit.out
    long_out = omega (arith, length_map supply_of q.transit.out, length_map supply_of p.transit.out, ap (λ (l : Lists). length l.out) half.lists, outs_long s m.to b w)

    long_purses : length q.purses ≡ length p.purses
    long_purses = omega (arith, length_map amount_in q.purses, length_map amount_in p.purses, ap (λ (l : Lists). length l.purses) half.lists, purses_long s m.to b w)

    slots_before : (v : ℕ) (j : List ℕ) → HasSlotOf (lists_of q).seats v j → HasSlotOf s.seats v j
    slots_before v j has = ungiven_slots s m.to b w v j (subst (λ (l : Lists). HasSlotOf l.seats v j) half.lists has)

    brand_there : b < length q.transit.out
    brand_there = omega (arith, brand_here, long_out)

    -- at each brand the store has what the hand had, less the half that is left
    store_half : (e : ℕ) → e < length q.transit.out → store_of q e ≡ cond (b == e) (from_hand m.from (in_hand ms e) w.content) (in_hand ms e)
    store_half e lt = half.hand e ∙ store_after_ungive b w.content m.to (store_of p) (λ x. from_hand m.from (in_hand ms x) w.content) (in_hand ms) e (is.hand e (omega (arith, lt, long_out)))

    store_there : store_of q b ≡ from_hand m.from (in_hand ms b) w.content
    store_there = store_half b brand_there ∙ ap (λ t. cond t (from_hand m.from (in_hand ms b) w.content) (in_hand ms b)) (eq-eqb b b refl)

    supply_there : supply_at (ungiven s m.to b w).out b ≡ (circulation_at q.transit.out b).supply
    supply_there = ap (λ (l : Lists). supply_at l.out b) (sym half.lists) ∙ supply_read q.transit.out b

    on_its_way : IsOnItsWay q.transit (amount_of b w)
    on_its_way = record {
      made = brand_there;
      kind = ap (λ (x : BrandSupply). x.outstanding.kind) (sym supply_there) ∙ kind_stays s m.to b w can.made ∙ can.kind;
      has = subst (λ (x : BrandSupply). Contains x.outstanding.content (sum (store_of q b) w.content)) supply_there
          (subst (λ (x : Content). Contains (supply_at (ungiven s m.to b w).out b).outstanding.content (sum x w.content)) (sym store_there) can.out);
    }

    pub can_untake : CanUntakeHere q m.from (amount_of b w)
    can_untake = at m.from store_there can.has (subst (λ (l : Lists). CanUntake R l m.from b w) (sym half.lists) can.untake)
      where
        at : (h : Holder) → store_of q b ≡ from_hand h (in_hand ms b) w.content → HandHas h (in_hand ms b) w.content → CanUntake R (lists_of q) h b w → CanUntakeHere q h (amount_of b w)
        at (Purse n) has kept may =
            let lt : n < length q.purses = omega (arith, may.made, length_map amount_in q.purses) in
            record {
              made = may.made;
              goes = record {
                meet = may.goes.meet;
                value = may.goes.value;
                room = more_room (purse_at (lists_of q).purses n).value.kind _ (R.purses n) (room_at q.purses n) (omega (arith, is.rooms.purses n (omega (arith, lt, long_purses)), half.rooms.purses n)) may.goes.room;
              };
            }
        at (Payment n) has kept may = record { made = may.made; spent = may.spent; vacancy = omega (arith, may.vacancy, is.rooms.capacity, half.rooms.capacity) }
        at (Slot v j) has kept may = record {
          slot = may.slot;
          goes = record {
            meet = may.goes.meet;
            value = may.goes.value;
            room = more_room (slot_of (lists_of q) v j).value.kind _ (R.slots v j) (slot_store v j q.seats).room (omega (arith, is.rooms.slots v j (slots_before v j may.slot), half.rooms.slots v j)) may.goes.room;
          };
        }
        at Hand has kept may = record {
          way = on_its_way;
          room = subst (λ x. HasRoom w.kind (keys_of x) (held_at q.transit.hand b).room) (sym (ap (λ x. sum x w.content) has ∙ sum-difference (in_hand ms b) w.content kept))
              (more_room w.kind (keys_of (in_hand ms b)) (R.hand b) (held_at q.transit.hand b).room (omega (arith, is.rooms.hand b brand_here, half.rooms.hand b)) can.room);
        }
        at Outside has kept may = on_its_way

    module _ (r : Stores) (other : IsHalf q r (untaken (lists_of q) m.from b w) (store_untaken (store_of q) m.from b w.content) (kept_of q)) where
      lists_back : lists_of r ≡ back s m
      lists_back = other.lists ∙ ap (λ (l : Lists). untaken l m.from b w) half.lists

      last_long : length r.transit.out ≡ length q.transit.out
      last_long = omega (arith, length_map supply_of r.transit.out, length_map supply_of q.transit.out, ap (λ (l : Lists). length l.out) other.lists, untaken_outs (lists_of q) m.from b w)

      last_purses : length r.purses ≡ length q.purses
      last_purses = omega (arith, length_map amount_in r.purses, length_map amount_in q.purses, ap (λ (l : Lists). length l.purses) other.lists, untaken_purses (lists_of q) m.from b w)

      pub moved_back : IsWorking R kept r ks ms
      moved_back = record {
        kept_is = ap (λ (l : Lists). all_back l ks ms) lists_back ∙ is.kept_is;
        can = subst (λ (l : Lists). CanAllBack R l ks ms) (sym lists_back) is.can.1;
        rooms = record {
          purses = λ n lt. omega (arith, is.rooms.purses n (omega (arith, lt, last_purses, long_purses)), half.rooms.purses n, other.rooms.purses n);
          slots = λ v j has.
              let there : HasSlotOf (lists_of q).seats v j = untaken_slots (lists_of q) m.from b w v j (subst (λ (l : Lists). HasSlotOf l.seats v j) other.lists has) in
              omega (arith, is.rooms.slots v j (slots_before v j there), half.rooms.slots v j, other.rooms.slots v j);
          capacity = omega (arith, is.rooms.capacity, half.rooms.capacity, other.rooms.capacity);
          hand = λ e lt. omega (arith, is.rooms.hand e (omega (arith, lt, last_long, long_out)), half.rooms.hand e, other.rooms.hand e);
        };
        retired = λ e lt. other.kept e ∙ half.kept e ∙ kept_after_ungive b w.content m.to (kept_of p) (retired_by ms) e (is.retired e (omega (arith, lt, last_long, long_out)));
        hand = λ e lt. other.hand e ∙ store_after_untake b w.content m.from (store_of q) (in_hand ms) e can.has (store_half e (omega (arith, lt, last_long)));
      }

-- ---- what opened or closed

pub stepped_back : (R : Rooms) (kept : Lists) (p q : Stores) (k : Undo) (s : Lists) (ks : List Undo) (ms : List Movement) → IsWorking R kept p (k ∷ ks) ms → IsBack p q s → all_back s ks ms ≡ kept → CanAllBack R s ks ms → IsWorking R kept q ks ms
stepped_back R kept p q k s ks ms is back kept_is can = record {
  kept_is = ap (λ (l : Lists). all_back l ks ms) back.lists ∙ kept_is;
  can = subst (λ (l : Lists). CanAllBack R l ks ms) (sym back.lists) can;
  rooms = back.rooms R is.rooms;
  hand = λ b lt. back.hand b lt ∙ is.hand b (omega (arith, lt, back.brands));
  retired = λ b lt. back.kept b lt ∙ is.retired b (omega (arith, lt, back.brands));
}

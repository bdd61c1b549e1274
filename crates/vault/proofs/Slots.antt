-- Halves at a slot of a seat: what the seats' store makes of the lists, and that it can be worked backwards.
use Rattle.std.proofs.Common.{◌≡◌, ℕ, ◌+◌, ◌<◌, ◌≤◌, cond, List, [], ◌∷◌, ◌++◌, length, map, Some, None, Option, refl, sym, ◌∙◌, ap, subst, arith}
use Rattle.std.specs.Prelude.{IsNone, is_some, slice_set, unwrap_or}
use Rattle.std.specs.Option.{option_map_or}
use Rattle.std.proofs.lemmas.Bool.{le-ltb}
use Rattle.vault_model.specs.amount_math.Content.{Content, Contains, nothing, sum}
use Rattle.vault_model.specs.amount_math.Amount.{Meet}
use Rattle.vault_model.specs.amount_math.Held.{Held}
use Rattle.vault_model.specs.amount_math.KindLaws.{value_of_sum}
use Rattle.vault_model.specs.amount_math.ValueView.{Fits, HasFew, IsPutRefusal, IsValue, ValueView}
use Rattle.vault_model.specs.amount_math.declared.Amount.{Amount}
use Rattle.vault_model.specs.amount_math.declared.PutFault.{PutFault}
use Rattle.vault_model.specs.ertp_mint.Balances.{ComesOut, GoesIn, HasRoomFor, BalanceView, empty_store, held_in, with_put, with_taken}
use Rattle.vault_model.specs.ertp_mint.Stocks.{no_amount}
use Rattle.vault_model.proofs.lemmas.ListEdits.{map_push, set_same}
use Rattle.vault_model.specs.holders.PaymentViews.{PaymentBook}
use Rattle.vault_model.specs.proposals.Shares.{amount_under, content_under, keyed_share}
use Rattle.vault_model.specs.proposals.declared.allocations.Share.{Share}
use Rattle.vault_model.specs.Backwards.{SlotTakesBack}
use Rattle.vault_model.specs.Lists.{Lists, SlotGivesUp, amount_of, less, more, slot_of, with_new_slot, with_seats, with_slot_of}
use Rattle.vault_model.specs.Seats.{HasShare, HasSlotOf, KeptSeat, amount_at, kept_seat_at, no_kept_seat, with_amount, with_slot, with_slots}
use Rattle.vault_model.proofs.SlotShares.{pushed_there, slot_stays}
use Rattle.vault_model.proofs.SlotShares.{slot_there as slot_written_there}
use Rattle.vault_model.specs.rights_model.declared.Holder.TheVariants.{Slot}
use Rattle.seats.specs.Seats.{SeatView, put_in, stored_in, sum_with, with_further, with_less, with_more, with_room, with_stored}
use Rattle.seats.specs.Slots.{HasSlot, place_of, shares_in}
use Rattle.seats.specs.Slots as slots
use Rattle.seats.specs.Store.{HasSlotIn, SeatsView, at_seat, seat_in, slot_store}
use Rattle.vault.specs.Asked.{IsSlotFor, IsSlotOf, MayOpenSlot}
use Rattle.vault.specs.Memory.{HasBecome, IsGiven, IsGivenFurther, IsHalf, IsRoomed, IsTaken, kept_of, kept_seat, lists_of, rooms_of, store_of}
use Rattle.vault.specs.declared.stores.Stores.{Stores}
use Rattle.vault.proofs.Halves.{forward, grown_twice}
use Rattle.vault.proofs.SeatReads.{changed_kept, changed_long, changed_read, changed_rooms, changed_twice, further_rooms, kept_roomed, made_there, no_slot_there, seat_read, kept_written, seats_made, slot_read, slot_rooms, slot_there, slot_written, stored_pushed, stored_there, written_rooms}

module _ (p : Stores) where
  pub seats_half : (l : SeatsView) (m : List KeptSeat) → map kept_seat l.seats ≡ m → ((q : ℕ) (j : List ℕ) → (slot_store q j p.seats).room ≤ (slot_store q j l).room) → IsHalf p (record p { seats = l }) (with_seats (lists_of p) m) (store_of p) (kept_of p)
  seats_half l m is grown = record {
    lists = ap (with_seats (lists_of p)) is;
    hand = λ b. refl;
    kept = λ b. refl;
    rooms = record { purses = λ n. omega arith; slots = grown; capacity = omega arith; hand = λ b. omega arith };
  }

  -- ---- one slot written

  module _ (n : ℕ) (k : List ℕ) where
    abbrev stored : BalanceView
    stored = slot_store n k p.seats

    abbrev slot : Amount
    slot = slot_of (lists_of p) n k

    pub slot_is : slot ≡ stored.amount
    slot_is = slot_read p.seats.seats n k

    pub half_written : (l : SeatsView) (x : BalanceView) (a : Amount) → l ≡ at_seat n (with_stored k x) p.seats → x.amount ≡ a → stored.room ≤ x.room → IsHalf p (record p { seats = l }) (with_slot_of (lists_of p) n k a) (store_of p) (kept_of p)
    half_written l x a is same le = seats_half l (with_slot (lists_of p).seats n k a)
        (ap (λ (v : SeatsView). map kept_seat v.seats) is ∙ slot_written n k x p.seats.seats ∙ ap (with_slot (lists_of p).seats n k) same)
        (λ q j. subst (λ (v : SeatsView). (slot_store q j p.seats).room ≤ (slot_store q j v).room) (sym is) (written_rooms n k x p.seats.seats le q j))

    pub half_slot_less : (l : SeatsView) (c : Content) → l ≡ at_seat n (with_less k c) p.seats → IsHalf p (record p { seats = l }) (with_slot_of (lists_of p) n k (less slot c)) (store_of p) (kept_of p)
    half_slot_less l c is = half_written l (with_taken stored c) (less slot c) is (ap (λ a. less a c) (sym slot_is)) (omega arith)

    pub half_slot_more : (l : SeatsView) (c : Content) → l ≡ at_seat n (with_more k c) p.seats → IsHalf p (record p { seats = l }) (with_slot_of (lists_of p) n k (more slot c)) (store_of p) (kept_of p)
    half_slot_more l c is = half_written l (with_put stored c) (more slot c) is (ap (λ a. more a c) (sym slot_is)) (omega arith)

    -- what is asked of a slot, as the seats' store asks it
    pub slot_gives : (b : ℕ) (w : ValueView) → SlotGivesUp (lists_of p) n k b w → ComesOut stored w
    slot_gives b w can = record {
      kind = ap (λ (a : Amount). a.value.kind) (sym slot_is) ∙ can.kind;
      has = subst (λ (a : Amount). Contains a.value.content w.content) slot_is can.has;
    }

    pub slot_takes : (a : Amount) → SlotTakesBack (rooms_of p) (lists_of p) n k a.brand a.value → GoesIn stored a
    slot_takes a can = subst (λ (x : Amount). GoesIn (record { amount = x; room = stored.room }) a) slot_is can.goes

    pub seat_is_made : HasSlotOf (lists_of p).seats n k → n < length p.seats.seats
    seat_is_made has = seats_made p.seats.seats n has.made

    pub slot_is_there : HasSlotOf (lists_of p).seats n k → HasSlotIn n k p.seats
    slot_is_there has = slot_there p.seats.seats n k has

-- a slot that is there still is, however it is written
module _ (p : Stores) (n : ℕ) (k : List ℕ) (a : Amount) (q : Stores) (is : lists_of q ≡ with_slot_of (lists_of p) n k a) (has : HasSlotOf (lists_of p).seats n k) where
  pub still_slot : HasSlotOf (lists_of q).seats n k
  still_slot = subst (λ (s : Lists). HasSlotOf s.seats n k) (sym is) (slot_stays (lists_of p).seats n k a has)

  -- and it gives up what it took
  pub gives_back : (b : ℕ) (w : ValueView) → a.brand ≡ b → ComesOut (slot_store n k q.seats) w → SlotGivesUp (lists_of q) n k b w
  gives_back b w brand out = record {
    slot = still_slot;
    brand = ap (λ (s : Lists). (slot_of s n k).brand) is ∙ ap (λ (x : Amount). x.brand) (slot_written_there (lists_of p).seats n k has a) ∙ brand;
    kind = ap (λ (x : Amount). x.value.kind) (slot_is q n k) ∙ out.kind;
    has = subst (λ (x : Amount). Contains x.value.content w.content) (sym (slot_is q n k)) out.has;
  }

-- a slot once taken from can take that back, and once put to can give that
module _ (p : Stores) (n : ℕ) (k : List ℕ) (l : SeatsView) (w : ValueView) (has : HasSlotOf (lists_of p).seats n k) where
  abbrev q : Stores
  q = record p { seats = l }

  pub taken_of_slot : (a : Amount) → l ≡ at_seat n (with_less k w.content) p.seats → a ≡ record { brand = (slot_store n k p.seats).amount.brand; value = w } → GoesIn (slot_store n k l) a → IsTaken p q (Slot n k) (slot_of (lists_of p) n k).brand w
  taken_of_slot a is made goes =
      let half = half_slot_less p n k l w.content is in
      record {
        half = forward p q _ _ _ half refl (ap (λ (v : SeatsView). v.staging) is);
        back = record {
          slot = still_slot p n k _ q half.lists has;
          goes = subst (λ (x : Amount). GoesIn (record { amount = x; room = (slot_store n k l).room }) (amount_of (slot_of (lists_of p) n k).brand w)) (sym (slot_is q n k))
              (subst (λ x. GoesIn (slot_store n k l) x) (made ∙ (λ i. record { brand = (sym (slot_is p n k) i).brand; value = w })) goes);
        };
      }

  pub given_to_slot : (b : ℕ) → l ≡ at_seat n (with_more k w.content) p.seats → (slot_of (lists_of p) n k).brand ≡ b → ComesOut (slot_store n k l) w → IsGiven p q (Slot n k) b w
  given_to_slot b is brand out =
      let half = half_slot_more p n k l w.content is in
      record {
        half = forward p q _ _ _ half refl (ap (λ (v : SeatsView). v.staging) is);
        back = gives_back p n k (more (slot_of (lists_of p) n k) w.content) q half.lists has b w brand out;
      }

-- room alone
module _ (p : Stores) (n : ℕ) (k : List ℕ) (l : SeatsView) where
  pub slot_roomed : (room : ℕ) → l ≡ at_seat n (with_room k room) p.seats → (slot_store n k p.seats).room ≤ room → IsRoomed p (record p { seats = l })
  slot_roomed room is le = forward p (record p { seats = l }) _ _ _
      (seats_half p l (lists_of p).seats
      (ap (λ (v : SeatsView). map kept_seat v.seats) is ∙ changed_kept n (with_room k room) (λ s. s) p.seats.seats (kept_roomed k room (seat_in n p.seats)) ∙ same_seat)
      (λ q j. subst (λ (v : SeatsView). (slot_store q j p.seats).room ≤ (slot_store q j v).room) (sym is) (written_rooms n k (record (slot_store n k p.seats) { room = room }) p.seats.seats le q j)))
      refl (ap (λ (v : SeatsView). v.staging) is)
    where
      same_seat : slice_set (lists_of p).seats n (kept_seat_at (lists_of p).seats n) ≡ (lists_of p).seats
      same_seat = set_same (lists_of p).seats n no_kept_seat

-- a half after room was made
pub given_then : (p r q : Stores) (n : ℕ) (k : List ℕ) (b : ℕ) (w : ValueView) → IsRoomed p r → IsGiven r q (Slot n k) b w → IsGiven p q (Slot n k) b w
given_then p r q n k b w roomed gave = record {
  half = record {
    lists = gave.half.lists ∙ ap (λ (s : Lists). with_slot_of s n k (more (slot_of s n k) w.content)) roomed.lists;
    staging = gave.half.staging ∙ roomed.staging;
    given_up = gave.half.given_up ∙ roomed.given_up;
    kept = λ e. gave.half.kept e ∙ roomed.kept e;
    rooms = grown_twice (rooms_of p) (rooms_of r) (rooms_of q) roomed.rooms gave.half.rooms;
  };
  back = gave.back;
}

-- ---- a further slot

module _ (p : Stores) (n : ℕ) (k : List ℕ) (a : Amount) (may : MayOpenSlot (lists_of p) n k) where
  seat_made : n < length p.seats.seats
  seat_made = seats_made p.seats.seats n may.made

  pub none_here : length (seat_in n p.seats).slots ≤ place_of k (seat_in n p.seats).slots
  none_here = no_slot_there k (seat_in n p.seats).slots (subst (λ (s : KeptSeat). IsNone (amount_under k s.slots)) (seat_read p.seats.seats n) may.free)

  abbrev further : SeatsView
  further = at_seat n (with_further k a) p.seats

  abbrev between : PaymentBook → Stores
  between book = record p { payments = book; seats = further }

  shares_further : kept_seat (with_further k a (seat_in n p.seats)) ≡ with_slots (kept_seat (seat_in n p.seats)) ((kept_seat (seat_in n p.seats)).slots ++ keyed_share k (empty_store a.brand a.value.kind).amount ∷ [])
  shares_further = ap (with_slots (kept_seat (seat_in n p.seats))) (map_push slots.share_in (seat_in n p.seats).slots (slots.slot_of k (empty_store a.brand a.value.kind)))

  seats_further : map kept_seat further.seats ≡ (with_new_slot (lists_of p) n k a.brand a.value.kind).seats
  seats_further = changed_kept n (with_further k a) (λ s. with_slots s (s.slots ++ keyed_share k (empty_store a.brand a.value.kind).amount ∷ [])) p.seats.seats shares_further

  pub opened_further : (book : PaymentBook) → book ≡ record p.payments { slots = p.payments.slots + 1 } → HasBecome p (between book) (with_new_slot (lists_of p) n k a.brand a.value.kind)
  opened_further book is = record {
    lists = λ i. record { purses = (lists_of p).purses; payments = (is i).views; seats = seats_further i; owed = (is i).slots; out = (lists_of p).out };
    staging = refl;
    given_up = refl;
    kept = λ b. refl;
    rooms = record {
      purses = λ m. omega arith;
      slots = λ m j. changed_rooms n (with_further k a) p.seats.seats (λ i. further_rooms (seat_in n p.seats).slots _ i) m j;
      capacity = omega (arith, ap (λ (x : PaymentBook). x.capacity) is);
      hand = λ b. omega arith;
    };
  }

  -- the slot is there then, with nothing
  slot_new : (shares : List Share) → IsNone (amount_under k shares) → amount_under k (shares ++ keyed_share k (empty_store a.brand a.value.kind).amount ∷ []) ≡ Some (empty_store a.brand a.value.kind).amount
  slot_new shares none = pushed_there k shares (empty_store a.brand a.value.kind).amount none

  seat_new : (book : PaymentBook) → kept_seat_at (lists_of (between book)).seats n ≡ with_slots (kept_seat (seat_in n p.seats)) ((kept_seat (seat_in n p.seats)).slots ++ keyed_share k (empty_store a.brand a.value.kind).amount ∷ [])
  seat_new book = seat_read further.seats n ∙ ap kept_seat (changed_read n (with_further k a) p.seats.seats seat_made) ∙ shares_further

  free_here : IsNone (amount_under k (shares_in (seat_in n p.seats).slots))
  free_here = subst (λ (s : KeptSeat). IsNone (amount_under k s.slots)) (seat_read p.seats.seats n) may.free

  pub there_now : (book : PaymentBook) → HasSlotOf (lists_of (between book)).seats n k
  there_now book = record {
    made = made_there further.seats n (omega (arith, seat_made, changed_long n (with_further k a) p.seats.seats));
    there = subst (λ (s : KeptSeat). HasShare k s.slots) (sym (seat_new book)) (ap is_some (slot_new (shares_in (seat_in n p.seats).slots) free_here));
  }

  pub nothing_now : (book : PaymentBook) → slot_of (lists_of (between book)) n k ≡ (empty_store a.brand a.value.kind).amount
  nothing_now book = ap (λ (s : KeptSeat). amount_at k s.slots) (seat_new book) ∙ ap (λ o. unwrap_or o no_amount) (slot_new (shares_in (seat_in n p.seats).slots) free_here)

  room_new : (slot_store n k further).room ≡ 0
  room_new = ap (λ (s : SeatView). (stored_in k s).room) (changed_read n (with_further k a) p.seats.seats seat_made) ∙ ap (λ (x : BalanceView). x.room) (stored_pushed k (empty_store a.brand a.value.kind) (seat_in n p.seats).slots none_here)

  module _ (book : PaymentBook) (owed : book ≡ record p.payments { slots = p.payments.slots + 1 }) (l : SeatsView) (room : ℕ) (put : l ≡ at_seat n (put_in k a room) p.seats) (out : ComesOut (slot_store n k l) a.value) where
    abbrev c : Content
    c = a.value.content

    abbrev then : Stores
    then = record p { payments = book; seats = l }

    abbrev write : SeatView → SeatView
    write s = with_room k room (with_more k c s)

    put_is : put_in k a room (seat_in n p.seats) ≡ write (with_further k a (seat_in n p.seats))
    put_is = ap (λ t. write (record (seat_in n p.seats) { slots = cond t (seat_in n p.seats).slots (with_further k a (seat_in n p.seats)).slots })) (le-ltb (place_of k (seat_in n p.seats).slots) (length (seat_in n p.seats).slots) none_here)

    put_then : l ≡ at_seat n write further
    put_then = put ∙ ap (λ (xs : List SeatView). record p.seats { seats = xs })
        (ap (slice_set p.seats.seats n) put_is ∙ sym (changed_twice n (with_further k a) write p.seats.seats seat_made))

    abbrev s0 : SeatView
    s0 = seat_in n further

    abbrev x : BalanceView
    x = with_put (stored_in k s0) c

    kept_put : kept_seat (write s0) ≡ with_slots (kept_seat s0) (with_amount k x.amount (kept_seat s0).slots)
    kept_put = kept_roomed k room (with_more k c s0) ∙ kept_written k x s0

    seats_put : map kept_seat l.seats ≡ with_slot (lists_of (between book)).seats n k (more (slot_of (lists_of (between book)) n k) c)
    seats_put =
        ap (λ (v : SeatsView). map kept_seat v.seats) put_then
        ∙ changed_kept n write (λ s. with_slots s (with_amount k x.amount s.slots)) further.seats kept_put
        ∙ ap (λ y. with_slot (lists_of (between book)).seats n k (more y c)) (sym (slot_is (between book) n k))

    there_before : HasSlot k s0.slots
    there_before = slot_there further.seats n k (there_now book)

    room_after : (stored_in k (with_more k c s0)).room ≤ room
    room_after = omega (arith, ap (λ (y : BalanceView). y.room) (stored_there k x s0.slots there_before), room_new)

    grows : (j : List ℕ) → (stored_in j s0).room ≤ (stored_in j (write s0)).room
    grows j = omega (
      arith,
      slot_rooms k x s0.slots (omega arith) j,
      slot_rooms k (record (stored_in k (with_more k c s0)) { room = room }) (with_more k c s0).slots room_after j,
    )

    half_put : IsHalf (between book) then (with_slot_of (lists_of (between book)) n k (more (slot_of (lists_of (between book)) n k) c)) (store_of (between book)) (kept_of (between book))
    half_put = seats_half (between book) l _ seats_put (λ m j. subst (λ (v : SeatsView). (slot_store m j further).room ≤ (slot_store m j v).room) (sym put_then) (changed_rooms n write further.seats grows m j))

    pub given_further : IsGivenFurther p then n k a
    given_further = record {
      between = between book;
      slotted = opened_further book owed;
      gave = record {
        half = forward (between book) then _ _ _ half_put refl (ap (λ (v : SeatsView). v.staging) put_then);
        back = gives_back (between book) n k (more (slot_of (lists_of (between book)) n k) c) then half_put.lists (there_now book) a.brand a.value (ap (λ (y : Amount). y.brand) (nothing_now book)) out;
      };
    }

-- what stands under a keyword, read two ways
pub same_content : (k : List ℕ) (shares : List Share) → content_under k shares ≡ (amount_at k shares).value.content
same_content k shares = by (amount_under k shares)
  where
    by : (o : Option Amount) → option_map_or (λ (a : Amount). a.value.content) o nothing ≡ (unwrap_or o no_amount).value.content
    by None = refl
    by (Some a) = refl

pub same_sum : (p : Stores) (n : ℕ) (k : List ℕ) (a : Amount) → sum_with k a (seat_in n p.seats) ≡ sum (slot_of (lists_of p) n k).value.content a.value.content
same_sum p n k a = ap (λ c. sum c a.value.content) (same_content k (shares_in (seat_in n p.seats).slots) ∙ ap (λ (s : KeptSeat). (amount_at k s.slots).value.content) (sym (seat_read p.seats.seats n)))

pub further_value : (p : Stores) (n : ℕ) (k : List ℕ) (a : Amount) → IsValue a.value.kind (sum_with k a (seat_in n p.seats)) → IsValue a.value.kind (sum (slot_of (lists_of p) n k).value.content a.value.content)
further_value p n k a value = subst (IsValue a.value.kind) (same_sum p n k a) value

pub further_refused : (p : Stores) (n : ℕ) (k : List ℕ) (a : Amount) (fault : PutFault) → IsPutRefusal a.value.kind (sum_with k a (seat_in n p.seats)) fault → IsPutRefusal a.value.kind (sum (slot_of (lists_of p) n k).value.content a.value.content) fault
further_refused p n k a fault refused = subst (λ c. IsPutRefusal a.value.kind c fault) (same_sum p n k a) refused

-- ---- what the calls ask of a slot, and what they give

module _ (p : Stores) (n : ℕ) (k : List ℕ) where
  pub slot_parcel : (b : ℕ) (w : ValueView) (a : Amount) → (slot_of (lists_of p) n k).brand ≡ b → a ≡ record { brand = (slot_store n k p.seats).amount.brand; value = w } → a ≡ amount_of b w
  slot_parcel b w a brand is = is ∙ ap (λ x. amount_of x w) (ap (λ (x : Amount). x.brand) (sym (slot_is p n k)) ∙ brand)

  pub slot_kind : (w : ValueView) → (slot_of (lists_of p) n k).value.kind ≡ w.kind → (slot_store n k p.seats).amount.value.kind ≡ w.kind
  slot_kind w kind = ap (λ (x : Amount). x.value.kind) (sym (slot_is p n k)) ∙ kind

  pub slot_comes_out : (w : ValueView) → IsSlotOf (lists_of p) n k w → Contains (slot_of (lists_of p) n k).value.content w.content → ComesOut (slot_store n k p.seats) w
  slot_comes_out w source has = record { kind = slot_kind w source.kind; has = subst (λ (x : Amount). Contains x.value.content w.content) (slot_is p n k) has }

  module _ (h : Held) (is : h ≡ held_in (slot_store n k p.seats)) where
    pub held_kind : (w : ValueView) → (slot_of (lists_of p) n k).value.kind ≡ w.kind → h.value.kind ≡ w.kind
    held_kind w kind = ap (λ (x : Held). x.value.kind) is ∙ slot_kind w kind

    pub held_content : h.value.content ≡ (slot_of (lists_of p) n k).value.content
    held_content = ap (λ (x : Held). x.value.content) is ∙ ap (λ (x : Amount). x.value.content) (sym (slot_is p n k))

    pub held_refused : (w : ValueView) (fault : PutFault) → (slot_of (lists_of p) n k).value.kind ≡ w.kind → IsPutRefusal h.value.kind (sum h.value.content w.content) fault → IsPutRefusal w.kind (sum (slot_of (lists_of p) n k).value.content w.content) fault
    held_refused w fault kind refused = subst (λ x. IsPutRefusal w.kind (sum x w.content) fault) held_content (subst (λ x. IsPutRefusal x (sum h.value.content w.content) fault) (held_kind w kind) refused)

    pub held_value : (w : ValueView) → (slot_of (lists_of p) n k).value.kind ≡ w.kind → IsValue h.value.kind h.value.content → IsValue w.kind w.content → Fits h.value.kind (sum h.value.content w.content) → HasFew h.value.kind (sum h.value.content w.content) → IsValue w.kind (sum (slot_of (lists_of p) n k).value.content w.content)
    held_value w kind value also fits few = subst (λ x. IsValue w.kind (sum x w.content)) held_content
        (value_of_sum w.kind h.value.content w.content
        (subst (λ x. IsValue x h.value.content) (held_kind w kind) value) also
        (subst (λ x. Fits x (sum h.value.content w.content)) (held_kind w kind) fits)
        (subst (λ x. HasFew x (sum h.value.content w.content)) (held_kind w kind) few))

-- a parcel goes in once room was made for it
module _ (p r : Stores) (n : ℕ) (k : List ℕ) (a : Amount) (roomed : IsRoomed p r) (target : IsSlotFor (lists_of p) n k a) where
  pub slot_roomy : HasSlotOf (lists_of r).seats n k
  slot_roomy = subst (λ (s : Lists). HasSlotOf s.seats n k) (sym roomed.lists) target.slot

  pub goes_in_slot : (w : ValueView) → w ≡ a.value → IsValue w.kind (sum (slot_of (lists_of p) n k).value.content w.content) → HasRoomFor (slot_store n k r.seats) w.content → GoesIn (slot_store n k r.seats) a
  goes_in_slot w same value room =
      let slot : slot_of (lists_of p) n k ≡ (slot_store n k r.seats).amount = ap (λ (s : Lists). slot_of s n k) (sym roomed.lists) ∙ slot_is r n k in
      let met : Meet (slot_store n k r.seats).amount a = subst (λ (x : Amount). Meet x a) slot target.meet in
      record {
        meet = met;
        value = subst (λ x. IsValue x (sum (slot_store n k r.seats).amount.value.content a.value.content)) (sym met.kind)
            (subst (λ (x : Amount). IsValue a.value.kind (sum x.value.content a.value.content)) slot (subst (λ (x : ValueView). IsValue x.kind (sum (slot_of (lists_of p) n k).value.content x.content)) same value));
        room = subst (λ (x : ValueView). HasRoomFor (slot_store n k r.seats) x.content) same room;
      }

  pub given_after_room : (l : SeatsView) → l ≡ at_seat n (with_more k a.value.content) r.seats → ComesOut (slot_store n k l) a.value → IsGiven p (record r { seats = l }) (Slot n k) a.brand a.value
  given_after_room l is out = given_then p r (record r { seats = l }) n k a.brand a.value roomed
      (given_to_slot r n k l a.value slot_roomy a.brand is (ap (λ (s : Lists). (slot_of s n k).brand) roomed.lists ∙ target.meet.brand) out)

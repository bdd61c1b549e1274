-- What opens and closes, worked forwards and back: what it makes of the lists, and what room is left.
use Rattle.std.proofs.Common.{◌≡◌, ℕ, zero, suc, ◌+◌, ◌-◌, ◌<◌, ◌≤◌, inr, Bool, length-append, true, false, cond, List, [], ◌∷◌, ◌++◌, length, take, map, Some, None, Option, refl, sym, ◌∙◌, ap, subst, arith}
use Rattle.std.specs.Prelude.{IsNone, IsSome, slice_index_or, is_none}
use Rattle.vault_model.specs.amount_math.Content.{nothing}
use Rattle.vault_model.specs.amount_math.Held.{Held}
use Rattle.vault_model.specs.amount_math.declared.Amount.{Amount}
use Rattle.vault_model.specs.amount_math.declared.Kind.TheVariants.{Nat}
use Rattle.vault_model.specs.ertp_mint.Balances.{BalanceView, no_store}
use Rattle.vault_model.specs.ertp_mint.BrandSupply.{BrandSupply}
use Rattle.vault_model.specs.ertp_mint.Circulating.{CirculationView, circulation_at, new_circulation}
use Rattle.vault_model.proofs.lemmas.ListEdits.{length_map, length_taken, map_push, map_take, read_map, read_take}
use Rattle.vault_model.specs.holders.PaymentViews.{PaymentBook, made_and_open}
use Rattle.vault_model.specs.ertp_mint.Stocks.{most_made}
use Rattle.vault_model.specs.proposals.Slots.{emptied, in_byte_order, is_upto, placed, slots_of}
use Rattle.vault_model.specs.proposals.declared.allocations.Share.{Share}
use Rattle.vault_model.specs.proposals.declared.offers.Proposal.{Proposal}
use Rattle.vault_model.specs.holders.Purses.{content_at, room_at}
use Rattle.vault_model.specs.Backwards.{HasEmptyLast, HasEmptySlot, HasFreshLast, HasNewLast}
use Rattle.vault_model.specs.Lists.{with_closed_seat, with_new_seat, with_outs, with_purses, with_reopened_seat, without_last_brand, without_last_purse, without_last_seat, without_last_slot_of}
use Rattle.vault_model.specs.Seats.{HasEmptyShare, HasShare, HasSlotOf, KeptSeat, kept_seat_at, new_kept_seat, no_kept_seat, empty_share, with_slots}
use Rattle.seats.specs.Seats.{SeatView, closed_seat, new_seat, open_slots_in, reopened_seat, stored_in, without_last_slot}
use Rattle.seats.specs.Slots.{HasSlot, empty_slot, no_slot, share_in, shares_in}
use Rattle.seats.specs.Slots as slots
use Rattle.seats.specs.Staging.{without_staged}
use Rattle.seats.specs.Store.{IsNew, SeatsView, at_seat, changed_at, no_seat, seat_at, seat_in, slot_store, with_closed, without_last}
use Rattle.transit.specs.Transit.{TransitView, empty_hand, held_at}
use Rattle.vault.specs.Asked.{IsSeatTooMany}
use Rattle.vault.specs.Memory.{HasBecome, IsBack, IsForward, amount_in, kept_of, kept_seat, lists_of, staged_of, supply_of}
use Rattle.vault.specs.declared.stores.Stores.{Stores}
use Rattle.vault.proofs.Halves.{purse_read, supply_read}
use Rattle.vault.proofs.SeatReads.{changed_kept, changed_read, changed_rooms, seat_read, left_after, seats_made, taken_has, taken_slots}

shorter : {X : Type 0} (xs : List X) (n q : ℕ) → q < length (take n xs) → q < length xs
shorter xs n q lt = omega (arith, lt, length_taken xs n)

-- ---- a purse and a brand

module _ (p : Stores) where
  pub purse_is_empty : HasEmptyLast (lists_of p) → (0 < length p.purses) × (content_at p.purses (length p.purses - 1) ≡ nothing)
  purse_is_empty is = (
    omega (arith, is.some, length_map amount_in p.purses),
    ap (λ n. content_at p.purses (n - 1)) (sym (length_map amount_in p.purses)) ∙ ap (λ (a : Amount). a.value.content) (sym (purse_read p.purses (length (lists_of p).purses - 1))) ∙ is.empty,
  )

  pub purse_closed : (l : List BalanceView) → l ≡ take (length p.purses - 1) p.purses → IsBack p (record p { purses = l }) (without_last_purse (lists_of p))
  purse_closed l new = record {
    lists = ap (with_purses (lists_of p)) (ap (map amount_in) new ∙ map_take amount_in p.purses (length p.purses - 1) ∙ ap (λ n. take (n - 1) (map amount_in p.purses)) (sym (length_map amount_in p.purses)));
    brands = omega arith;
    hand = λ b lt. refl;
    kept = λ b lt. refl;
    rooms = λ R has. record {
      purses = λ n lt.
          let there : n < length (take (length p.purses - 1) p.purses) = omega (arith, lt, ap length new) in
          omega (
            arith,
            has.purses n (shorter p.purses (length p.purses - 1) n there),
            ap (λ m. room_at m n) new,
            ap (λ (x : BalanceView). x.room) (read_take p.purses (length p.purses - 1) n no_store there),
          );
      slots = has.slots;
      capacity = has.capacity;
      hand = has.hand;
    };
  }

  pub brand_is_fresh : HasFreshLast (lists_of p) → (0 < length p.transit.out) × ((circulation_at p.transit.out (length p.transit.out - 1)).supply.minted ≡ 0)
  brand_is_fresh is = (
    omega (arith, is.some, length_map supply_of p.transit.out),
    ap (λ n. (circulation_at p.transit.out (n - 1)).supply.minted) (sym (length_map supply_of p.transit.out)) ∙ ap (λ (x : BrandSupply). x.minted) (sym (supply_read p.transit.out (length (lists_of p).out - 1))) ∙ is.fresh,
  )

  pub brand_removed : (t : TransitView) → t.out ≡ take (length p.transit.out - 1) p.transit.out → t.hand ≡ take (length p.transit.out - 1) p.transit.hand → length t.hand ≡ length t.out → IsBack p (record p { transit = t }) (without_last_brand (lists_of p))
  brand_removed t new also same =
      let there : (e : ℕ) → e < length t.out → e < length (take (length p.transit.out - 1) p.transit.out) = λ e lt. omega (arith, lt, ap length new) in
      let held : (e : ℕ) → e < length t.out → held_at t.hand e ≡ held_at p.transit.hand e = λ e lt.
      ap (λ l. held_at l e) also ∙ read_take p.transit.hand (length p.transit.out - 1) e (empty_hand Nat) (omega (arith, lt, same, ap length also))
      in
      record {
        lists = ap (with_outs (lists_of p)) (ap (map supply_of) new ∙ map_take supply_of p.transit.out (length p.transit.out - 1) ∙ ap (λ k. take (k - 1) (map supply_of p.transit.out)) (sym (length_map supply_of p.transit.out)));
        brands = omega (arith, ap length new, length_taken p.transit.out (length p.transit.out - 1));
        hand = λ e lt. ap (λ (h : Held). h.value.content) (held e lt);
        kept = λ e lt. ap (λ l. (circulation_at l e).kept) new ∙ ap (λ (x : CirculationView). x.kept) (read_take p.transit.out (length p.transit.out - 1) e (new_circulation Nat) (there e lt));
        rooms = λ R has. record {
          purses = has.purses;
          slots = has.slots;
          capacity = has.capacity;
          hand = λ e lt. omega (arith, has.hand e (shorter p.transit.out (length p.transit.out - 1) e (there e lt)), ap (λ (h : Held). h.room) (held e lt));
        };
      }

  -- ---- seats: forwards

  pub seats_forward : (book : PaymentBook) (l : SeatsView) (m : List KeptSeat) (owed : ℕ) (staged : List (ℕ × List Share)) → book.views ≡ p.payments.views → p.payments.capacity ≤ book.capacity → book.slots ≡ owed
      → map kept_seat l.seats ≡ m → l.staging ≡ staged → ((q : ℕ) (j : List ℕ) → (slot_store q j p.seats).room ≤ (slot_store q j l).room)
      → IsForward p (record p { payments = book; seats = l }) (record (lists_of p) { seats = m; owed = owed }) staged (kept_of p)
  seats_forward book l m owed staged views capacity slots is staging grown = record {
    lists = λ i. record { purses = (lists_of p).purses; payments = views i; seats = is i; owed = slots i; out = (lists_of p).out };
    staging = staging;
    given_up = refl;
    kept = λ b. refl;
    rooms = record { purses = λ n. omega arith; slots = grown; capacity = capacity; hand = λ b. omega arith };
  }

  -- and back
  pub seats_back : (book : PaymentBook) (l : SeatsView) (m : List KeptSeat) (owed : ℕ) → book.views ≡ p.payments.views → p.payments.capacity ≤ book.capacity → book.slots ≡ owed → map kept_seat l.seats ≡ m
      → ((q : ℕ) (j : List ℕ) → HasSlotOf m q j → (HasSlotOf (lists_of p).seats q j) × (slot_store q j l ≡ slot_store q j p.seats))
      → IsBack p (record p { payments = book; seats = l }) (record (lists_of p) { seats = m; owed = owed })
  seats_back book l m owed views capacity slots is left = record {
    lists = λ i. record { purses = (lists_of p).purses; payments = views i; seats = is i; owed = slots i; out = (lists_of p).out };
    brands = omega arith;
    hand = λ b lt. refl;
    kept = λ b lt. refl;
    rooms = λ R has. record {
      purses = has.purses;
      slots = λ q j there.
          let same : (HasSlotOf (lists_of p).seats q j) × (slot_store q j l ≡ slot_store q j p.seats) = left q j (subst (λ (x : List KeptSeat). HasSlotOf x q j) is there) in
          omega (arith, has.slots q j same.0, ap (λ (x : BalanceView). x.room) same.1);
      capacity = omega (arith, has.capacity, capacity);
      hand = has.hand;
    };
  }

-- ---- a seat opened

shares_empty : (rs : List Share) → shares_in (map empty_slot rs) ≡ map emptied rs
shares_empty [] = refl
shares_empty (r ∷ rs) = ap (λ l. emptied r ∷ l) (shares_empty rs)

kept_new : (instance : ℕ) (proposal : Proposal) → kept_seat (new_seat instance proposal) ≡ new_kept_seat instance proposal
kept_new instance proposal = ap (with_slots (new_kept_seat instance proposal)) (shares_empty (slots_of proposal))

length_placed : (r : Share) (rs : List Share) → length (placed r rs) ≡ suc (length rs)
length_placed r [] = refl
length_placed r (x ∷ xs) = by (is_upto r.keyword x.keyword) (length_placed r xs)
  where
    by : (t : Bool) → length (placed r xs) ≡ suc (length xs) → length (cond t (r ∷ x ∷ xs) (x ∷ placed r xs)) ≡ suc (length (x ∷ xs))
    by true later = refl
    by false later = ap suc later

length_ordered : (rs : List Share) → length (in_byte_order rs) ≡ length rs
length_ordered [] = refl
length_ordered (r ∷ rs) = length_placed r (in_byte_order rs) ∙ ap suc (length_ordered rs)

pub slots_counted : (p : Proposal) → length (slots_of p) ≡ length p.give + length p.want
unfolding slots_of
slots_counted p = omega (arith, length-append (in_byte_order p.give) (map emptied (in_byte_order p.want)), length_map emptied (in_byte_order p.want), length_ordered p.give, length_ordered p.want)

module _ (p : Stores) (book : PaymentBook) (l : SeatsView) where
  pub seat_opened : (instance : ℕ) (proposal : Proposal) (k : ℕ) → book ≡ record p.payments { slots = p.payments.slots + k } → k ≡ length proposal.give + length proposal.want
      → l ≡ record p.seats { seats = p.seats.seats ++ new_seat instance proposal ∷ [] } → HasBecome p (record p { payments = book; seats = l }) (with_new_seat (lists_of p) instance proposal)
  seat_opened instance proposal k reserved counted is = seats_forward p book l (with_new_seat (lists_of p) instance proposal).seats _ (staged_of p)
      (ap (λ (b : PaymentBook). b.views) reserved)
      (omega (arith, ap (λ (b : PaymentBook). b.capacity) reserved))
      (ap (λ (b : PaymentBook). b.slots) reserved ∙ ap (λ n. p.payments.slots + n) (counted ∙ sym (slots_counted proposal)))
      (ap (λ (v : SeatsView). map kept_seat v.seats) is ∙ map_push kept_seat p.seats.seats (new_seat instance proposal) ∙ ap (λ s. map kept_seat p.seats.seats ++ s ∷ []) (kept_new instance proposal))
      (ap (λ (v : SeatsView). v.staging) is)
      (λ q j. subst (λ (v : SeatsView). (slot_store q j p.seats).room ≤ (slot_store q j v).room) (sym is) (pushed_rooms p.seats.seats (new_seat instance proposal) q j))
    where
      pushed_rooms : (xs : List SeatView) (x : SeatView) (q : ℕ) (j : List ℕ) → (stored_in j (seat_at xs q)).room ≤ (stored_in j (seat_at (xs ++ x ∷ []) q)).room
      pushed_rooms [] x q j = omega arith
      pushed_rooms (y ∷ ys) x zero j = omega arith
      pushed_rooms (y ∷ ys) x (suc q) j = pushed_rooms ys x q j

  -- payments no longer owed
  pub slots_after : (k : ℕ) → p.payments ≡ record book { slots = book.slots + k } → (book.views ≡ p.payments.views) × ((p.payments.capacity ≤ book.capacity) × (book.slots ≡ p.payments.slots - k))
  slots_after k is = (
    sym (ap (λ (b : PaymentBook). b.views) is),
    (omega (arith, ap (λ (b : PaymentBook). b.capacity) is), omega (arith, ap (λ (b : PaymentBook). b.slots) is)),
  )

  -- ---- the last seat taken away

  pub seat_unopened : (k : ℕ) → k ≡ length (kept_seat_at (lists_of p).seats (length (lists_of p).seats - 1)).slots → p.payments ≡ record book { slots = book.slots + k } → l ≡ without_last p.seats → IsBack p (record p { payments = book; seats = l }) (without_last_seat (lists_of p))
  seat_unopened k counted owed is =
      let after = slots_after k owed in
      seats_back p book l (without_last_seat (lists_of p)).seats _ after.0 after.1.0 (after.1.1 ∙ ap (λ n. p.payments.slots - n) counted)
      (ap (λ (v : SeatsView). map kept_seat v.seats) is ∙ map_take kept_seat p.seats.seats (length p.seats.seats - 1) ∙ ap (λ n. take (n - 1) (map kept_seat p.seats.seats)) (sym (length_map kept_seat p.seats.seats)))
      (λ q j has.
      let short : q < length (take (length (lists_of p).seats - 1) (lists_of p).seats) = has.made in
      let within : q < length (take (length p.seats.seats - 1) p.seats.seats) = omega (arith, short, length_map kept_seat (take (length p.seats.seats - 1) p.seats.seats), ap length (map_take kept_seat p.seats.seats (length p.seats.seats - 1) ∙ ap (λ n. take (n - 1) (map kept_seat p.seats.seats)) (sym (length_map kept_seat p.seats.seats)))) in (
        record {
          made = shorter (lists_of p).seats (length (lists_of p).seats - 1) q short;
          there = subst (λ (s : KeptSeat). HasShare j s.slots) (read_take (lists_of p).seats (length (lists_of p).seats - 1) q no_kept_seat short) has.there;
        },
        ap (λ (v : SeatsView). slot_store q j v) is ∙ ap (stored_in j) (read_take p.seats.seats (length p.seats.seats - 1) q no_seat within),
      ))

  -- ---- the last slot of a seat taken away

  pub slot_unopened : (n : ℕ) → n < length p.seats.seats → p.payments ≡ record book { slots = book.slots + 1 } → l ≡ at_seat n without_last_slot p.seats → IsBack p (record p { payments = book; seats = l }) (without_last_slot_of n (lists_of p))
  slot_unopened n lt owed is =
      let after = slots_after 1 owed in
      seats_back p book l (without_last_slot_of n (lists_of p)).seats _ after.0 after.1.0 after.1.1
      (ap (λ (v : SeatsView). map kept_seat v.seats) is ∙ listed)
      (λ q j has.
      let same = left_after n without_last_slot p.seats.seats lt fewer q j (subst (λ (x : List KeptSeat). HasSlotOf x q j) (sym listed) has) in
      (same.0, ap (λ (v : SeatsView). slot_store q j v) is ∙ same.1))
    where
      listed : map kept_seat (changed_at n without_last_slot p.seats.seats) ≡ (without_last_slot_of n (lists_of p)).seats
      listed = changed_kept n without_last_slot (λ s. with_slots s (take (length s.slots - 1) s.slots)) p.seats.seats
          (ap (with_slots (kept_seat (seat_in n p.seats))) (map_take share_in (seat_in n p.seats).slots (length (seat_in n p.seats).slots - 1) ∙ ap (λ m. take (m - 1) (shares_in (seat_in n p.seats).slots)) (sym (length_map share_in (seat_in n p.seats).slots))))

      fewer : (j : List ℕ) → HasSlot j (without_last_slot (seat_in n p.seats)).slots → HasSlot j (seat_in n p.seats).slots × (stored_in j (without_last_slot (seat_in n p.seats)) ≡ stored_in j (seat_in n p.seats))
      fewer j has = (taken_has (length (seat_in n p.seats).slots - 1) (seat_in n p.seats).slots j has, taken_slots (length (seat_in n p.seats).slots - 1) (seat_in n p.seats).slots j has)

  -- ---- a seat closed, and opened again

  pub seat_closed : (n k : ℕ) → k ≡ length (kept_seat_at (lists_of p).seats n).slots → p.payments ≡ record book { slots = book.slots + k } → l ≡ with_closed n p.seats → IsForward p (record p { payments = book; seats = l }) (with_closed_seat (lists_of p) n) (without_staged n (staged_of p)) (kept_of p)
  seat_closed n k counted owed is =
      let after = slots_after k owed in
      seats_forward p book l (with_closed_seat (lists_of p) n).seats _ (without_staged n (staged_of p)) after.0 after.1.0 (after.1.1 ∙ ap (λ m. p.payments.slots - m) counted)
      (ap (λ (v : SeatsView). map kept_seat v.seats) is ∙ changed_kept n closed_seat (λ s. record s { last = Some s.slots }) p.seats.seats refl)
      (ap (λ (v : SeatsView). v.staging) is)
      (λ q j. subst (λ (v : SeatsView). (slot_store q j p.seats).room ≤ (slot_store q j v).room) (sym is) (changed_rooms n closed_seat p.seats.seats (λ i. omega arith) q j))

  pub seat_reopened : (n k : ℕ) → n < length p.seats.seats → k ≡ length (kept_seat_at (lists_of p).seats n).slots → book ≡ record p.payments { slots = p.payments.slots + k } → l ≡ at_seat n reopened_seat p.seats → IsBack p (record p { payments = book; seats = l }) (with_reopened_seat n (lists_of p))
  seat_reopened n k lt counted reserved is =
      seats_back p book l (with_reopened_seat n (lists_of p)).seats _
      (ap (λ (b : PaymentBook). b.views) reserved)
      (omega (arith, ap (λ (b : PaymentBook). b.capacity) reserved))
      (ap (λ (b : PaymentBook). b.slots) reserved ∙ ap (λ m. p.payments.slots + m) counted)
      (ap (λ (v : SeatsView). map kept_seat v.seats) is ∙ listed)
      (λ q j has.
      let same = left_after n reopened_seat p.seats.seats lt (λ i there. (there, refl)) q j (subst (λ (x : List KeptSeat). HasSlotOf x q j) (sym listed) has) in
      (same.0, ap (λ (v : SeatsView). slot_store q j v) is ∙ same.1))
    where
      listed : map kept_seat (changed_at n reopened_seat p.seats.seats) ≡ (with_reopened_seat n (lists_of p)).seats
      listed = changed_kept n reopened_seat (λ s. record s { last = None }) p.seats.seats refl

-- ---- what the seats' store is asked for

module _ (p : Stores) where
  pub seat_made : (n : ℕ) → n < length (lists_of p).seats → n < length p.seats.seats
  seat_made n lt = seats_made p.seats.seats n lt

  pub open_count : (n : ℕ) → IsNone (seat_in n p.seats).last → open_slots_in (seat_in n p.seats) ≡ length (kept_seat_at (lists_of p).seats n).slots
  open_count n is =
      counts (seat_in n p.seats).last is
      ∙ sym (ap (λ (s : KeptSeat). length s.slots) (seat_read p.seats.seats n) ∙ length_map share_in (seat_in n p.seats).slots)
    where
      counts : (o : Option (List Share)) → IsNone o → cond (is_none o) (length (seat_in n p.seats).slots) 0 ≡ length (seat_in n p.seats).slots
      counts None none = refl
      counts (Some x) none = absurd cc

  pub reopened_count : (n : ℕ) (l : SeatsView) → n < length p.seats.seats → l ≡ at_seat n reopened_seat p.seats → open_slots_in (seat_in n l) ≡ length (kept_seat_at (lists_of p).seats n).slots
  reopened_count n l lt is =
      ap (λ (v : SeatsView). open_slots_in (seat_in n v)) is
      ∙ ap open_slots_in (changed_read n reopened_seat p.seats.seats lt)
      ∙ sym (ap (λ (s : KeptSeat). length s.slots) (seat_read p.seats.seats n) ∙ length_map share_in (seat_in n p.seats).slots)

  pub is_open_here : (n : ℕ) → IsNone (kept_seat_at (lists_of p).seats n).last → IsNone (seat_in n p.seats).last
  is_open_here n is = subst (λ (s : KeptSeat). IsNone s.last) (seat_read p.seats.seats n) is

  pub is_closed_here : (n : ℕ) → IsSome (kept_seat_at (lists_of p).seats n).last → IsSome (seat_in n p.seats).last
  is_closed_here n is = subst (λ (s : KeptSeat). IsSome s.last) (seat_read p.seats.seats n) is

  last_number : length (lists_of p).seats - 1 ≡ length p.seats.seats - 1
  last_number = ap (λ n. n - 1) (length_map kept_seat p.seats.seats)

  pub last_is_new : HasNewLast (lists_of p) → IsNew (seat_in (length p.seats.seats - 1) p.seats)
  last_is_new is =
      let seat : kept_seat (seat_in (length p.seats.seats - 1) p.seats) ≡ new_kept_seat is.new.1 is.new.0 =
      sym (seat_read p.seats.seats (length p.seats.seats - 1)) ∙ ap (λ n. kept_seat_at (lists_of p).seats n) (sym last_number) ∙ is.new.2
      in
      record {
        is_open = subst (λ (s : KeptSeat). IsNone s.last) (sym seat) refl;
        empty = ap (λ (s : KeptSeat). s.slots) seat ∙ ap (λ (s : KeptSeat). map emptied (slots_of s.proposal)) (sym seat);
      }

  pub last_is_empty : (n : ℕ) → HasEmptySlot n (lists_of p) → slots.HasEmptyLast (seat_in n p.seats).slots
  last_is_empty n is =
      let shares : (kept_seat_at (lists_of p).seats n).slots ≡ shares_in (seat_in n p.seats).slots = ap (λ (s : KeptSeat). s.slots) (seat_read p.seats.seats n) in
      let many : length (shares_in (seat_in n p.seats).slots) ≡ length (seat_in n p.seats).slots = length_map share_in (seat_in n p.seats).slots in
      let empty : HasEmptyShare (shares_in (seat_in n p.seats).slots) = subst HasEmptyShare shares is.empty in
      record {
        some = omega (arith, empty.some, many);
        empty = ap (λ (r : Share). r.amount.value.content) (sym (read_map share_in (seat_in n p.seats).slots (length (seat_in n p.seats).slots - 1) no_slot)) ∙ ap (λ m. (slice_index_or (shares_in (seat_in n p.seats).slots) (m - 1) empty_share).amount.value.content) (sym many) ∙ empty.empty;
      }

-- no room for the payments of so many slots
pub too_many_slots : (p : Stores) (proposal : Proposal) (k : ℕ) → k ≡ length proposal.give + length proposal.want → most_made < made_and_open p.payments + k → IsSeatTooMany (lists_of p) proposal
too_many_slots p proposal k counted over = inr (omega (arith, over, counted, slots_counted proposal))

-- What a seat's slots are as shares, how a write of one shows there, and what room is left for each.
use Rattle.std.proofs.Common.{◌≡◌, inl, inr, ℕ, zero, suc, ◌<◌, ◌≤◌, Bool, true, false, cond, List, [], ◌∷◌, ◌++◌, length, take, map, Some, refl, sym, ◌∙◌, ap, subst, arith}
use Rattle.std.specs.Prelude.{IsNone, IsSome, is_some, slice_set, unwrap_or}
use Rattle.std.specs.Str.{bytes_eq}
use Rattle.std.proofs.lemmas.Bool.{cases_eq}
use Rattle.std.proofs.lemmas.Slice.Eq.{bytes_eq-Decides}
use Rattle.vault_model.specs.ertp_mint.Balances.{BalanceView}
use Rattle.vault_model.specs.ertp_mint.Stocks.{no_amount}
use Rattle.vault_model.proofs.lemmas.ListEdits.{length_map, length_set, map_set, read_map, read_other, read_set, set_set}
use Rattle.vault_model.specs.proposals.Shares.{amount_under, keyed_share}
use Rattle.vault_model.specs.proposals.declared.allocations.Share.{Share}
use Rattle.vault_model.specs.Seats.{HasShare, HasSlotOf, KeptSeat, amount_at, kept_seat_at, slot_at, with_amount, with_slot, with_slots}
use Rattle.vault_model.proofs.SlotShares.{write_same}
use Rattle.seats.specs.Seats.{SeatView, stored_in, with_room, with_stored}
use Rattle.seats.specs.Slots.{HasSlot, SlotView, no_slot, place_of, share_in, shares_in, stored_at, stored_under}
use Rattle.seats.specs.Slots as slots
use Rattle.seats.specs.Store.{changed_at, no_seat, seat_at}
use Rattle.vault.specs.Memory.{kept_seat}

-- ---- one seat's slots

pub share_read : (k : List ℕ) (l : List SlotView) → amount_at k (shares_in l) ≡ (stored_under k l).amount
share_read k [] = refl
share_read k (s ∷ ss) = by (bytes_eq k s.keyword) (share_read k ss)
  where
    by : (t : Bool) → amount_at k (shares_in ss) ≡ (stored_under k ss).amount → unwrap_or (cond t (Some s.stored.amount) (amount_under k (shares_in ss))) no_amount ≡ (slots.slot_at (s ∷ ss) (cond t 0 (suc (place_of k ss)))).stored.amount
    by true later = refl
    by false later = later

pub shares_written : (k : List ℕ) (x : BalanceView) (l : List SlotView) → shares_in (stored_at (place_of k l) x l) ≡ with_amount k x.amount (shares_in l)
shares_written k x [] = refl
shares_written k x (s ∷ ss) = by (bytes_eq k s.keyword) (shares_written k x ss)
  where
    by : (t : Bool) → shares_in (stored_at (place_of k ss) x ss) ≡ with_amount k x.amount (shares_in ss) → shares_in (stored_at (cond t 0 (suc (place_of k ss))) x (s ∷ ss)) ≡ cond t (keyed_share s.keyword x.amount ∷ shares_in ss) (share_in s ∷ with_amount k x.amount (shares_in ss))
    by true later = refl
    by false later = ap (λ (r : List Share). share_in s ∷ r) later

pub has_slot : (k : List ℕ) (l : List SlotView) → HasShare k (shares_in l) → HasSlot k l
has_slot k [] has = absurd cc
has_slot k (s ∷ ss) has = by (bytes_eq k s.keyword) (has_slot k ss) has
  where
    by : (t : Bool) → (HasShare k (shares_in ss) → HasSlot k ss) → IsSome (cond t (Some s.stored.amount) (amount_under k (shares_in ss))) → cond t 0 (suc (place_of k ss)) < length (s ∷ ss)
    by true later here = omega arith
    by false later here = omega (arith, later here)

pub has_share : (k : List ℕ) (l : List SlotView) → HasSlot k l → HasShare k (shares_in l)
has_share k [] has = absurd (omega (arith, has))
has_share k (s ∷ ss) has = by (bytes_eq k s.keyword) (has_share k ss) has
  where
    by : (t : Bool) → (HasSlot k ss → HasShare k (shares_in ss)) → cond t 0 (suc (place_of k ss)) < length (s ∷ ss) → IsSome (cond t (Some s.stored.amount) (amount_under k (shares_in ss)))
    by true later here = refl
    by false later here = later (omega (arith, here))

pub no_slot_there : (k : List ℕ) (l : List SlotView) → IsNone (amount_under k (shares_in l)) → length l ≤ place_of k l
no_slot_there k [] none = omega arith
no_slot_there k (s ∷ ss) none = by (bytes_eq k s.keyword) (no_slot_there k ss) none
  where
    by : (t : Bool) → (IsNone (amount_under k (shares_in ss)) → length ss ≤ place_of k ss) → IsNone (cond t (Some s.stored.amount) (amount_under k (shares_in ss))) → length (s ∷ ss) ≤ cond t 0 (suc (place_of k ss))
    by true later here = absurd cc
    by false later here = omega (arith, later here)

pub place_stays : (j : List ℕ) (n : ℕ) (x : BalanceView) (l : List SlotView) → place_of j (stored_at n x l) ≡ place_of j l
place_stays j n x [] = refl
place_stays j zero x (s ∷ ss) = refl
place_stays j (suc n) x (s ∷ ss) = ap (λ m. cond (bytes_eq j s.keyword) 0 (suc m)) (place_stays j n x ss)

pub stored_there : (k : List ℕ) (x : BalanceView) (l : List SlotView) → HasSlot k l → stored_under k (stored_at (place_of k l) x l) ≡ x
stored_there k x l there =
    ap (λ n. (slots.slot_at (stored_at (place_of k l) x l) n).stored) (place_stays k (place_of k l) x l)
    ∙ ap (λ (s : SlotView). s.stored) (read_set l (place_of k l) (slots.slot_of (slots.slot_at l (place_of k l)).keyword x) no_slot there)

-- ---- rooms of slots

room_written : (l : List SlotView) (n : ℕ) (x : BalanceView) → (slots.slot_at l n).stored.room ≤ x.room → (q : ℕ) → (slots.slot_at l q).stored.room ≤ (slots.slot_at (stored_at n x l) q).stored.room
room_written [] n x le q = omega arith
room_written (z ∷ zs) zero x le zero = le
room_written (z ∷ zs) zero x le (suc q) = omega arith
room_written (z ∷ zs) (suc n) x le zero = omega arith
room_written (z ∷ zs) (suc n) x le (suc q) = room_written zs n x le q

pub slot_rooms : (k : List ℕ) (x : BalanceView) (l : List SlotView) → (stored_under k l).room ≤ x.room → (j : List ℕ) → (stored_under j l).room ≤ (stored_under j (stored_at (place_of k l) x l)).room
slot_rooms k x l le j = subst (λ n. (slots.slot_at l (place_of j l)).stored.room ≤ (slots.slot_at (stored_at (place_of k l) x l) n).stored.room) (sym (place_stays j (place_of k l) x l)) (room_written l (place_of k l) x le (place_of j l))

pub further_rooms : (l : List SlotView) (z : SlotView) (j : List ℕ) → (stored_under j l).room ≤ (stored_under j (l ++ z ∷ [])).room
further_rooms [] z j = omega arith
further_rooms (s ∷ ss) z j = by (bytes_eq j s.keyword) (further_rooms ss z j)
  where
    by : (t : Bool) → (stored_under j ss).room ≤ (stored_under j (ss ++ z ∷ [])).room → (slots.slot_at (s ∷ ss) (cond t 0 (suc (place_of j ss)))).stored.room ≤ (slots.slot_at ((s ∷ ss) ++ z ∷ []) (cond t 0 (suc (place_of j (ss ++ z ∷ []))))).stored.room
    by true later = omega arith
    by false later = later

pub stored_pushed : (k : List ℕ) (x : BalanceView) (l : List SlotView) → length l ≤ place_of k l → stored_under k (l ++ slots.slot_of k x ∷ []) ≡ x
stored_pushed k x [] past = ap (λ t. (slots.slot_at (slots.slot_of k x ∷ []) (cond t 0 1)).stored) ((bytes_eq-Decides k k).1 refl)
stored_pushed k x (s ∷ ss) past = by (bytes_eq k s.keyword) (stored_pushed k x ss) past
  where
    by : (t : Bool) → (length ss ≤ place_of k ss → stored_under k (ss ++ slots.slot_of k x ∷ []) ≡ x) → length (s ∷ ss) ≤ cond t 0 (suc (place_of k ss))
        → (slots.slot_at ((s ∷ ss) ++ slots.slot_of k x ∷ []) (cond t 0 (suc (place_of k (ss ++ slots.slot_of k x ∷ []))))).stored ≡ x
    by true later past = absurd (omega arith)
    by false later past = later (omega arith)

pub taken_slots : (n : ℕ) (l : List SlotView) (j : List ℕ) → HasSlot j (take n l) → stored_under j (take n l) ≡ stored_under j l
taken_slots zero [] j has = refl
taken_slots (suc n) [] j has = refl
taken_slots zero (s ∷ ss) j has = absurd (omega (arith, has))
taken_slots (suc n) (s ∷ ss) j has = by (bytes_eq j s.keyword) (taken_slots n ss j) has
  where
    by : (t : Bool) → (HasSlot j (take n ss) → stored_under j (take n ss) ≡ stored_under j ss) → cond t 0 (suc (place_of j (take n ss))) < length (s ∷ take n ss)
        → (slots.slot_at (s ∷ take n ss) (cond t 0 (suc (place_of j (take n ss))))).stored ≡ (slots.slot_at (s ∷ ss) (cond t 0 (suc (place_of j ss)))).stored
    by true later here = refl
    by false later here = later (omega (arith, here))

pub taken_has : (n : ℕ) (l : List SlotView) (j : List ℕ) → HasSlot j (take n l) → HasSlot j l
taken_has zero [] j has = has
taken_has (suc n) [] j has = has
taken_has zero (s ∷ ss) j has = absurd (omega (arith, has))
taken_has (suc n) (s ∷ ss) j has = by (bytes_eq j s.keyword) (taken_has n ss j) has
  where
    by : (t : Bool) → (HasSlot j (take n ss) → HasSlot j ss) → cond t 0 (suc (place_of j (take n ss))) < length (s ∷ take n ss) → cond t 0 (suc (place_of j ss)) < length (s ∷ ss)
    by true later here = omega arith
    by false later here = omega (arith, later (omega (arith, here)))

-- ---- one seat

pub kept_written : (k : List ℕ) (x : BalanceView) (s : SeatView) → kept_seat (with_stored k x s) ≡ with_slots (kept_seat s) (with_amount k x.amount (shares_in s.slots))
kept_written k x s = ap (with_slots (kept_seat s)) (shares_written k x s.slots)

pub kept_roomed : (k : List ℕ) (room : ℕ) (s : SeatView) → kept_seat (with_room k room s) ≡ kept_seat s
kept_roomed k room s =
    kept_written k (record (stored_in k s) { room = room }) s
    ∙ ap (λ a. with_slots (kept_seat s) (with_amount k a (shares_in s.slots))) (sym (share_read k s.slots))
    ∙ ap (with_slots (kept_seat s)) (write_same k (shares_in s.slots))

-- ---- all seats

pub seat_read : (all : List SeatView) (n : ℕ) → kept_seat_at (map kept_seat all) n ≡ kept_seat (seat_at all n)
seat_read all n = read_map kept_seat all n no_seat

pub slot_read : (all : List SeatView) (n : ℕ) (k : List ℕ) → slot_at (map kept_seat all) n k ≡ (stored_in k (seat_at all n)).amount
slot_read all n k = ap (λ (s : KeptSeat). amount_at k s.slots) (seat_read all n) ∙ share_read k (seat_at all n).slots

pub changed_kept : (n : ℕ) (f : SeatView → SeatView) (g : KeptSeat → KeptSeat) (all : List SeatView) → kept_seat (f (seat_at all n)) ≡ g (kept_seat (seat_at all n)) → map kept_seat (changed_at n f all) ≡ slice_set (map kept_seat all) n (g (kept_seat_at (map kept_seat all) n))
changed_kept n f g all is = map_set kept_seat all n (f (seat_at all n)) ∙ ap (slice_set (map kept_seat all) n) (is ∙ ap g (sym (seat_read all n)))

pub slot_written : (n : ℕ) (k : List ℕ) (x : BalanceView) (all : List SeatView) → map kept_seat (changed_at n (with_stored k x) all) ≡ with_slot (map kept_seat all) n k x.amount
slot_written n k x all = changed_kept n (with_stored k x) (λ s. with_slots s (with_amount k x.amount s.slots)) all (kept_written k x (seat_at all n))

pub seats_made : (all : List SeatView) (n : ℕ) → n < length (map kept_seat all) → n < length all
seats_made all n lt = omega (arith, lt, length_map kept_seat all)

pub made_there : (all : List SeatView) (n : ℕ) → n < length all → n < length (map kept_seat all)
made_there all n lt = omega (arith, lt, length_map kept_seat all)

pub changed_long : (n : ℕ) (f : SeatView → SeatView) (all : List SeatView) → length (changed_at n f all) ≡ length all
changed_long n f all = length_set all n (f (seat_at all n))

pub changed_read : (n : ℕ) (f : SeatView → SeatView) (all : List SeatView) → n < length all → seat_at (changed_at n f all) n ≡ f (seat_at all n)
changed_read n f all lt = read_set all n (f (seat_at all n)) no_seat lt

pub changed_twice : (n : ℕ) (f g : SeatView → SeatView) (all : List SeatView) → n < length all → changed_at n g (changed_at n f all) ≡ changed_at n (λ s. g (f s)) all
changed_twice n f g all lt = set_set all n (f (seat_at all n)) (g (seat_at (changed_at n f all) n)) ∙ ap (λ s. slice_set all n (g s)) (changed_read n f all lt)

pub slot_there : (all : List SeatView) (n : ℕ) (k : List ℕ) → HasSlotOf (map kept_seat all) n k → HasSlot k (seat_at all n).slots
slot_there all n k has = has_slot k (seat_at all n).slots (subst (λ (s : KeptSeat). HasShare k s.slots) (seat_read all n) has.there)

-- ---- rooms of all

seat_rooms : (l : List SeatView) (n : ℕ) (y : SeatView) → ((j : List ℕ) → (stored_in j (seat_at l n)).room ≤ (stored_in j y).room) → (q : ℕ) (j : List ℕ) → (stored_in j (seat_at l q)).room ≤ (stored_in j (seat_at (slice_set l n y) q)).room
seat_rooms [] n y le q j = omega arith
seat_rooms (z ∷ zs) zero y le zero j = le j
seat_rooms (z ∷ zs) zero y le (suc q) j = omega arith
seat_rooms (z ∷ zs) (suc n) y le zero j = omega arith
seat_rooms (z ∷ zs) (suc n) y le (suc q) j = seat_rooms zs n y le q j

pub changed_rooms : (n : ℕ) (f : SeatView → SeatView) (all : List SeatView) → ((j : List ℕ) → (stored_in j (seat_at all n)).room ≤ (stored_in j (f (seat_at all n))).room) → (q : ℕ) (j : List ℕ) → (stored_in j (seat_at all q)).room ≤ (stored_in j (seat_at (changed_at n f all) q)).room
changed_rooms n f all le q j = seat_rooms all n (f (seat_at all n)) le q j

pub written_rooms : (n : ℕ) (k : List ℕ) (x : BalanceView) (all : List SeatView) → (stored_in k (seat_at all n)).room ≤ x.room → (q : ℕ) (j : List ℕ) → (stored_in j (seat_at all q)).room ≤ (stored_in j (seat_at (changed_at n (with_stored k x) all) q)).room
written_rooms n k x all le q j = changed_rooms n (with_stored k x) all (slot_rooms k x (seat_at all n).slots le) q j

-- a slot that is there in a list of seats, told by the list
pub slot_listed : (all : List SeatView) (n : ℕ) (k : List ℕ) → n < length all → HasSlot k (seat_at all n).slots → HasSlotOf (map kept_seat all) n k
slot_listed all n k lt has = record { made = made_there all n lt; there = subst (λ (s : KeptSeat). HasShare k s.slots) (sym (seat_read all n)) (has_share k (seat_at all n).slots has) }

-- of a seat that is changed to one whose slots are there, and of all others
pub left_after : (n : ℕ) (f : SeatView → SeatView) (all : List SeatView) → n < length all
    → ((j : List ℕ) → HasSlot j (f (seat_at all n)).slots → HasSlot j (seat_at all n).slots × (stored_in j (f (seat_at all n)) ≡ stored_in j (seat_at all n)))
    → (q : ℕ) (j : List ℕ) → HasSlotOf (map kept_seat (changed_at n f all)) q j → HasSlotOf (map kept_seat all) q j × (stored_in j (seat_at (changed_at n f all) q) ≡ stored_in j (seat_at all q))
left_after n f all lt there q j has = elim (cases_eq n q) [
  | inl same ↦ subst (λ x. HasSlotOf (map kept_seat all) x j × (stored_in j (seat_at (changed_at n f all) x) ≡ stored_in j (seat_at all x))) same
      (at (subst (λ x. HasSlot j (seat_at (changed_at n f all) x).slots) (sym same) (slot_there (changed_at n f all) q j has)))
  | inr apart ↦
      let one : seat_at (changed_at n f all) q ≡ seat_at all q = read_other all n q (f (seat_at all n)) no_seat apart in (
        slot_listed all q j (omega (arith, seats_made (changed_at n f all) q has.made, changed_long n f all)) (subst (λ (s : SeatView). HasSlot j s.slots) one (slot_there (changed_at n f all) q j has)),
        ap (stored_in j) one,
      )
]
  where
    at : HasSlot j (seat_at (changed_at n f all) n).slots → HasSlotOf (map kept_seat all) n j × (stored_in j (seat_at (changed_at n f all) n) ≡ stored_in j (seat_at all n))
    at here =
        let had = there j (subst (λ (s : SeatView). HasSlot j s.slots) (changed_read n f all lt) here) in
        (slot_listed all n j lt had.0, ap (stored_in j) (changed_read n f all lt) ∙ had.1)

-- whether a keyword has a slot, told by the list
pub slot_told : (all : List SeatView) (n : ℕ) (k : List ℕ) (t : Bool) → n < length all → (t ≡ true → HasSlot k (seat_at all n).slots) → (HasSlot k (seat_at all n).slots → t ≡ true) → t ≡ is_some (amount_under k (kept_seat_at (map kept_seat all) n).slots)
slot_told all n k true lt there back = sym (slot_listed all n k lt (there refl)).there
slot_told all n k false lt there back = by (is_some (amount_under k (kept_seat_at (map kept_seat all) n).slots)) refl
  where
    by : (u : Bool) → is_some (amount_under k (kept_seat_at (map kept_seat all) n).slots) ≡ u → false ≡ u
    by false is = refl
    by true is = back (slot_there all n k (record { made = made_there all n lt; there = is }))

-- The row that opens a seat tells the slots that the seat has: those of give in byte order, then those of want.
use Rattle.std.specs.Prelude.{◌≡◌, ◌==◌, ◌+◌, ℕ, suc, Bool, true, false, cond, List, [], ◌∷◌, ◌++◌, Some, None, is_some, length, map, refl}
use Rattle.std.specs.Cmp.Lexicographic.{slice_cmp}
use Rattle.std.specs.FinMap.{nat_cmp-IsAntisymmetric, slice_cmp-IsAntisymmetric}
use Rattle.std.specs.List.{AllByRecursion}
use Rattle.std.specs.Ordering.{is_le, match_ordering, nat_cmp}
use Rattle.std.specs.Str.{bytes_eq}
use Rattle.std.specs.declared.cmp.Ordering.{Ordering}
use Rattle.std.specs.declared.cmp.Ordering.TheVariants.{Equal, Greater, Less}
use Rattle.std.proofs.Common.{append_assoc, sym, ◌∙◌, ap, subst, arith, if◌then◌else◌}
use Rattle.std.proofs.lemmas.Bool.{ne_eqb}
use Rattle.std.proofs.lemmas.List.{append-nil}
use Rattle.std.proofs.lemmas.Slice.Eq.{bytes_eq-Decides}
use Rattle.delivery_laws.specs.proposals.Shares.{AreApart, AreShares, amount_under}
use Rattle.delivery_laws.specs.proposals.Slots.{FitsSeat, emptied, in_byte_order, is_upto, placed, slots_of}
use Rattle.delivery_laws.specs.proposals.declared.allocations.Share.{Share}
use Rattle.delivery_laws.specs.proposals.declared.offers.Proposal.{Proposal}
use Rattle.delivery_laws.specs.turn_records.Printed.{printed_share, printed_shares}
use Rattle.fair_rows.specs.turn_rows.Order.{put_amount}
use Rattle.fair_rows.specs.turn_rows.Turns.{KeywordAmount}
use Rattle.fair_rows.specs.Seats as told
use Rattle.fair_rows.specs.Seats.{SlotName, brand_under, with_amounts, with_slot}
use Rattle.delivery_laws.proofs.world_laws.Seated.{empty_slots_are}
use Rattle.delivery_laws.specs.world_state.Worlds.{Seat, empty_slots, new_seat}
use Rattle.fair_laws.specs.Places.{opening_told, seat_told, seats_from, slot_name}
use Rattle.fair_laws.proofs.EffectSeats.{brand_told, told_brand}

-- ---- names apart

abbrev pub amount_name : KeywordAmount → SlotName
amount_name a = record { keyword = a.keyword; brand = a.brand }

-- none stands twice
abbrev pub AreApartNames : List SlotName → Type 0
AreApartNames [] = Unit {0}
AreApartNames (n ∷ ns) = (brand_under n.keyword ns ≡ None) × AreApartNames ns

pub apart_names : (rs : List Share) → AreApart rs → AreApartNames (map slot_name rs)
apart_names [] a = tt
apart_names (r ∷ rs) a = (brand_told r.keyword rs ∙ ap told_brand a.0, apart_names rs a.1)

other_way : (k q : List ℕ) → bytes_eq k q ≡ false → bytes_eq q k ≡ false
other_way k q e = by (bytes_eq q k) refl
  where
    by : (b : Bool) → bytes_eq q k ≡ b → b ≡ false
    by false is = refl
    by true is = let clash : true ≡ false = sym ((bytes_eq-Decides k q).1 (sym ((bytes_eq-Decides q k).0 is))) ∙ e in clash

none_there : (k : List ℕ) (ds : List SlotName) (n : SlotName) (ns : List SlotName) → brand_under k (ds ++ n ∷ ns) ≡ None → bytes_eq k n.keyword ≡ false
none_there k [] n ns h = by (bytes_eq k n.keyword) h
  where
    by : (t : Bool) → cond t (Some n.brand) (brand_under k ns) ≡ None → t ≡ false
    by true h = absurd cc
    by false h = refl
none_there k (d ∷ ds) n ns h = by (bytes_eq k d.keyword) (none_there k ds n ns) h
  where
    by : (t : Bool) → (brand_under k (ds ++ n ∷ ns) ≡ None → bytes_eq k n.keyword ≡ false) → cond t (Some d.brand) (brand_under k (ds ++ n ∷ ns)) ≡ None → bytes_eq k n.keyword ≡ false
    by true later h = absurd cc
    by false later h = later h

-- one that stands behind others isn't one of them
apart_behind : (ds : List SlotName) (n : SlotName) (ns : List SlotName) → AreApartNames (ds ++ n ∷ ns) → brand_under n.keyword ds ≡ None
apart_behind [] n ns a = refl
apart_behind (d ∷ ds) n ns a =
    ap (λ t. cond t (Some d.brand) (brand_under n.keyword ds)) (other_way d.keyword n.keyword (none_there d.keyword ds n ns a.0)) ∙ apart_behind ds n ns a.1

found : (ds : List SlotName) (n : SlotName) (ns : List SlotName) → brand_under n.keyword ds ≡ None → brand_under n.keyword (ds ++ n ∷ ns) ≡ Some n.brand
found [] n ns none = ap (λ t. cond t (Some n.brand) (brand_under n.keyword ns)) ((bytes_eq-Decides n.keyword n.keyword).1 refl)
found (d ∷ ds) n ns none = by (bytes_eq n.keyword d.keyword) (found ds n ns) none
  where
    by : (t : Bool) → (brand_under n.keyword ds ≡ None → brand_under n.keyword (ds ++ n ∷ ns) ≡ Some n.brand) → cond t (Some d.brand) (brand_under n.keyword ds) ≡ None → cond t (Some d.brand) (brand_under n.keyword (ds ++ n ∷ ns)) ≡ Some n.brand
    by true later h = absurd cc
    by false later h = later h

-- ---- slots of amounts

with_all : (ds : List SlotName) (xs : List KeywordAmount) → AreApartNames (ds ++ map amount_name xs) → with_amounts xs ds ≡ ds ++ map amount_name xs
with_all ds [] a = sym (append-nil ds)
with_all ds (x ∷ xs) a =
    ap (λ t. with_amounts xs (cond t ds (ds ++ amount_name x ∷ []))) (ap is_some (apart_behind ds (amount_name x) (map amount_name xs) a))
    ∙ with_all (ds ++ amount_name x ∷ []) xs (subst AreApartNames (sym (append_assoc ds (amount_name x ∷ []) (map amount_name xs))) a)
    ∙ append_assoc ds (amount_name x ∷ []) (map amount_name xs)

with_both : (xs ys : List KeywordAmount) (ss : List SlotName) → with_amounts ys (with_amounts xs ss) ≡ with_amounts (xs ++ ys) ss
with_both [] ys ss = refl
with_both (x ∷ xs) ys ss = with_both xs ys (with_slot x.keyword x.brand ss)

abbrev pub HasItsBrand : List SlotName → KeywordAmount → Type 0
HasItsBrand ns a = brand_under a.keyword ns ≡ Some a.brand

own_brands : (ds : List SlotName) (xs : List KeywordAmount) → AreApartNames (ds ++ map amount_name xs) → AllByRecursion (HasItsBrand (ds ++ map amount_name xs)) xs
own_brands ds [] a = tt
own_brands ds (x ∷ xs) a =
    let assoc = append_assoc ds (amount_name x ∷ []) (map amount_name xs) in (
      found ds (amount_name x) (map amount_name xs) (apart_behind ds (amount_name x) (map amount_name xs) a),
      subst (λ ns. AllByRecursion (HasItsBrand ns) xs) assoc (own_brands (ds ++ amount_name x ∷ []) xs (subst AreApartNames (sym assoc) a)),
    )

-- ---- rows in byte order

none_placed : (k : List ℕ) (r : Share) (rs : List Share) → bytes_eq k r.keyword ≡ false → amount_under k rs ≡ None → amount_under k (placed r rs) ≡ None
none_placed k r [] away none = ap (λ t. cond t (Some r.amount) None) away
none_placed k r (x ∷ xs) away none = by (is_upto r.keyword x.keyword) (bytes_eq k x.keyword) none (none_placed k r xs away)
  where
    by : (u t : Bool) → cond t (Some x.amount) (amount_under k xs) ≡ None → (amount_under k xs ≡ None → amount_under k (placed r xs) ≡ None)
        → amount_under k (if u then r ∷ x ∷ xs else x ∷ placed r xs) ≡ None
    by u t h later = split u t refl h later
      where
        split : (u t : Bool) → t ≡ t → cond t (Some x.amount) (amount_under k xs) ≡ None → (amount_under k xs ≡ None → amount_under k (placed r xs) ≡ None)
            → amount_under k (if u then r ∷ x ∷ xs else x ∷ placed r xs) ≡ None
        split u true e h later = absurd cc
        split true false e h later = ap (λ t. cond t (Some r.amount) (amount_under k (x ∷ xs))) away ∙ none
        split false false e h later = skip (bytes_eq k x.keyword) none later
          where
            skip : (t : Bool) → cond t (Some x.amount) (amount_under k xs) ≡ None → (amount_under k xs ≡ None → amount_under k (placed r xs) ≡ None) → cond t (Some x.amount) (amount_under k (placed r xs)) ≡ None
            skip true g more = absurd cc
            skip false g more = more g

none_ordered : (k : List ℕ) (rs : List Share) → amount_under k rs ≡ None → amount_under k (in_byte_order rs) ≡ None
none_ordered k [] none = refl
none_ordered k (r ∷ rs) none = by (bytes_eq k r.keyword) refl none (none_ordered k rs)
  where
    by : (t : Bool) → bytes_eq k r.keyword ≡ t → cond t (Some r.amount) (amount_under k rs) ≡ None → (amount_under k rs ≡ None → amount_under k (in_byte_order rs) ≡ None) → amount_under k (placed r (in_byte_order rs)) ≡ None
    by true e h later = absurd cc
    by false e h later = none_placed k r (in_byte_order rs) e (later h)

put_placed : (r : Share) (rs : List Share) → amount_under r.keyword rs ≡ None → put_amount (printed_share r) (map printed_share rs) ≡ map printed_share (placed r rs)
put_placed r [] none = refl
put_placed r (x ∷ xs) none = by (slice_cmp nat_cmp r.keyword x.keyword) refl (λ h. put_placed r xs h)
  where
    abbrev_free : bytes_eq r.keyword x.keyword ≡ true → ⊥
    abbrev_free same = clash (bytes_eq r.keyword x.keyword) same none
      where
        clash : (t : Bool) → t ≡ true → cond t (Some x.amount) (amount_under r.keyword xs) ≡ None → ⊥
        clash true e h = cc
        clash false e h = cc

    rest_free : amount_under r.keyword xs ≡ None
    rest_free = free (bytes_eq r.keyword x.keyword) none
      where
        free : (t : Bool) → cond t (Some x.amount) (amount_under r.keyword xs) ≡ None → amount_under r.keyword xs ≡ None
        free true h = absurd cc
        free false h = h

    by : (o : Ordering) → slice_cmp nat_cmp r.keyword x.keyword ≡ o → (amount_under r.keyword xs ≡ None → put_amount (printed_share r) (map printed_share xs) ≡ map printed_share (placed r xs))
        → match_ordering o (printed_share r ∷ printed_share x ∷ map printed_share xs) (record (printed_share r) { keyword = x.keyword } ∷ map printed_share xs) (printed_share x ∷ put_amount (printed_share r) (map printed_share xs))
        ≡ map printed_share (if is_le o then r ∷ x ∷ xs else x ∷ placed r xs)
    by Less e later = refl
    by Equal e later = absurd (abbrev_free ((bytes_eq-Decides r.keyword x.keyword).1 (slice_cmp-IsAntisymmetric nat_cmp-IsAntisymmetric r.keyword x.keyword e)))
    by Greater e later = ap (λ l. printed_share x ∷ l) (later rest_free)

pub rows_ordered : (rs : List Share) → AreApart rs → printed_shares rs ≡ map printed_share (in_byte_order rs)
rows_ordered [] a = refl
rows_ordered (r ∷ rs) a = ap (put_amount (printed_share r)) (rows_ordered rs a.1) ∙ put_placed r (in_byte_order rs) (none_ordered r.keyword rs a.0)

-- ---- a seat that is opened

names_emptied : (rs : List Share) → map slot_name (map emptied rs) ≡ map slot_name rs
names_emptied [] = refl
names_emptied (r ∷ rs) = ap (λ l. slot_name r ∷ l) (names_emptied rs)

names_append : (xs ys : List Share) → map slot_name (xs ++ ys) ≡ map slot_name xs ++ map slot_name ys
names_append [] ys = refl
names_append (x ∷ xs) ys = ap (λ l. slot_name x ∷ l) (names_append xs ys)

names_printed : (xs : List Share) → map amount_name (map printed_share xs) ≡ map slot_name xs
names_printed [] = refl
names_printed (x ∷ xs) = ap (λ l. slot_name x ∷ l) (names_printed xs)

names_both : (xs ys : List KeywordAmount) → map amount_name (xs ++ ys) ≡ map amount_name xs ++ map amount_name ys
names_both [] ys = refl
names_both (x ∷ xs) ys = ap (λ l. amount_name x ∷ l) (names_both xs ys)

slots_named : (p : Proposal) → map slot_name (empty_slots p) ≡ map slot_name (in_byte_order p.give) ++ map slot_name (in_byte_order p.want)
unfolding slots_of
slots_named p =
    names_emptied (in_byte_order p.give ++ map emptied (in_byte_order p.want))
    ∙ names_append (in_byte_order p.give) (map emptied (in_byte_order p.want))
    ∙ ap (λ l. map slot_name (in_byte_order p.give) ++ l) (names_emptied (in_byte_order p.want))

module _ (p : Proposal) (fits : FitsSeat p) (give : AreShares p.give) (want : AreShares p.want) where
  abbrev gives : List KeywordAmount
  gives = map printed_share (in_byte_order p.give)

  abbrev wants : List KeywordAmount
  wants = map printed_share (in_byte_order p.want)

  all_named : map amount_name (gives ++ wants) ≡ map slot_name (empty_slots p)
  all_named =
      names_both gives wants
      ∙ ap (λ l. l ++ map amount_name wants) (names_printed (in_byte_order p.give))
      ∙ ap (λ l. map slot_name (in_byte_order p.give) ++ l) (names_printed (in_byte_order p.want))
      ∙ sym (slots_named p)

  all_apart : AreApartNames (map amount_name (gives ++ wants))
  all_apart = subst AreApartNames (sym all_named) (apart_names (empty_slots p) (empty_slots_are p fits give want).apart)

  slots_told : with_amounts (printed_shares p.want) (with_amounts (printed_shares p.give) []) ≡ map slot_name (empty_slots p)
  slots_told =
      ap (λ l. with_amounts (printed_shares p.want) (with_amounts l [])) (rows_ordered p.give give.apart)
      ∙ ap (λ l. with_amounts l (with_amounts gives [])) (rows_ordered p.want want.apart)
      ∙ with_both gives wants []
      ∙ with_all [] (gives ++ wants) all_apart
      ∙ all_named

  pub seat_opened : (n i : ℕ) → told.new_seat (opening_told n (new_seat i p)) ≡ seat_told n (new_seat i p) (empty_slots p)
  seat_opened n i = λ j. record { opening = opening_told n (new_seat i p); slots = slots_told j; last = None }

  pub brands_opened : (n i : ℕ) → AllByRecursion (HasItsBrand (told.new_seat (opening_told n (new_seat i p))).slots) (printed_shares p.give ++ printed_shares p.want)
  brands_opened n i =
      subst (λ ns. AllByRecursion (HasItsBrand ns) (printed_shares p.give ++ printed_shares p.want)) (all_named ∙ sym slots_told)
      (subst (λ l. AllByRecursion (HasItsBrand (map amount_name (gives ++ wants))) l) (sym (ap (λ l. l ++ printed_shares p.want) (rows_ordered p.give give.apart) ∙ ap (λ l. gives ++ l) (rows_ordered p.want want.apart)))
      (own_brands [] (gives ++ wants) all_apart))

-- a further seat
pub one_seat_more : (q : ℕ) (ss : List Seat) (slots : List (List Share)) (s : Seat) (rows : List Share) → length slots ≡ length ss
    → seats_from q (ss ++ s ∷ []) (slots ++ rows ∷ []) ≡ seats_from q ss slots ++ seat_told (q + length ss) s rows ∷ []
one_seat_more q [] [] s rows as_many = ap (λ n. seat_told n s rows ∷ []) (let e : q ≡ q + 0 = omega arith in e)
one_seat_more q [] (x ∷ xs) s rows as_many = absurd (omega (arith, as_many))
one_seat_more q (y ∷ ys) [] s rows as_many = absurd (omega (arith, as_many))
one_seat_more q (y ∷ ys) (x ∷ xs) s rows as_many =
    ap (λ l. seat_told q y x ∷ l) (one_seat_more (suc q) ys xs s rows (omega (arith, as_many))
    ∙ ap (λ n. seats_from (suc q) ys xs ++ seat_told n s rows ∷ []) (let e : suc q + length ys ≡ q + suc (length ys) = omega arith in e))

-- no seat so far has the next number
pub others_before : (q n : ℕ) (ss : List Seat) (slots : List (List Share)) → q + length ss ≡ n → AllByRecursion (λ (s : told.Seat). (n == s.opening.seat) ≡ false) (seats_from q ss slots)
others_before q n [] slots at = tt
others_before q n (s ∷ ss) [] at = tt
others_before q n (s ∷ ss) (rows ∷ rest) at = (ne_eqb n q (λ is. absurd (omega (arith, at, is))), others_before (suc q) n ss rest (omega (arith, at)))

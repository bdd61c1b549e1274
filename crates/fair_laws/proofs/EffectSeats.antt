-- The seats that rows tell follow movements: a slot that a movement names for the first time is told last.
use Rattle.std.specs.Prelude.{◌≡◌, ◌+◌, ◌<◌, ℕ, zero, suc, Bool, true, false, cond, List, [], ◌∷◌, ◌++◌, Option, Some, None, is_some, length, map, slice_index_or, slice_set, refl}
use Rattle.std.specs.List.{slice_get}
use Rattle.std.specs.Str.{bytes_eq}
use Rattle.std.proofs.Common.{sym, ◌∙◌, ap, arith}
use Rattle.std.proofs.lemmas.Bool.{eq-eqb, ne_eqb}
use Rattle.fair_rows.specs.amount_math.Amount.{holding}
use Rattle.fair_rows.specs.amount_math.Content.{nothing}
use Rattle.fair_rows.specs.amount_math.ValueView.{ValueView}
use Rattle.fair_rows.specs.amount_math.declared.Amount.{Amount}
use Rattle.delivery_laws.specs.proposals.Shares.{amount_under}
use Rattle.delivery_laws.specs.proposals.declared.allocations.Share.{Share}
use Rattle.fair_rows.specs.rights_model.declared.Holder.{Holder}
use Rattle.fair_rows.specs.rights_model.declared.Holder.TheVariants.{Purse, Payment, Slot, Hand, Outside}
use Rattle.fair_rows.specs.rights_model.declared.Movement.{Movement}
use Rattle.delivery_laws.specs.vault_model.Lists.{amount_of, less, more}
use Rattle.delivery_laws.specs.turn_records.Printed.{printed_move}
use Rattle.fair_rows.specs.turn_rows.Turns.{Move}
use Rattle.fair_rows.specs.Seats as told
use Rattle.fair_rows.specs.Seats.{brand_under, with_holder, with_move, with_slot}
use Rattle.delivery_laws.specs.world_state.Rights.{Rights, changed_share, given, moved, shares_with, slots_at, taken}
use Rattle.delivery_laws.specs.world_state.Worlds.{Seat}
use Rattle.fair_laws.specs.Places.{seat_told, seats_from, slot_name}

-- ---- names of slots

abbrev pub told_brand : Option Amount → Option ℕ
told_brand None = None
told_brand (Some a) = Some a.brand

-- the brand that is told of a slot is that of what it has
pub brand_told : (k : List ℕ) (rs : List Share) → brand_under k (map slot_name rs) ≡ told_brand (amount_under k rs)
brand_told k [] = refl
brand_told k (r ∷ rs) = by (bytes_eq k r.keyword) (brand_told k rs)
  where
    by : (t : Bool) → brand_under k (map slot_name rs) ≡ told_brand (amount_under k rs) → cond t (Some r.amount.brand) (brand_under k (map slot_name rs)) ≡ told_brand (cond t (Some r.amount) (amount_under k rs))
    by true later = refl
    by false later = later

module _ (k : List ℕ) (f : Amount → Amount) (new : Amount) (kept : (a : Amount) → (f a).brand ≡ a.brand) where
  -- a row that is changed keeps its name, a new one gets one, last
  pub names_with : (rs : List Share) → map slot_name (shares_with k f new rs) ≡ with_slot k new.brand (map slot_name rs)
  names_with [] = refl
  names_with (r ∷ rs) = by (bytes_eq k r.keyword) (names_with rs)
    where
      by : (t : Bool) → map slot_name (shares_with k f new rs) ≡ with_slot k new.brand (map slot_name rs)
          → map slot_name (cond t (changed_share f r ∷ rs) (r ∷ shares_with k f new rs))
          ≡ cond (is_some (cond t (Some r.amount.brand) (brand_under k (map slot_name rs)))) (slot_name r ∷ map slot_name rs) (slot_name r ∷ (map slot_name rs ++ record { keyword = k; brand = new.brand } ∷ []))
      by true later = ap (λ b. record { keyword = r.keyword; brand = b } ∷ map slot_name rs) (kept r.amount)
      by false later = ap (λ l. slot_name r ∷ l) later ∙ inside (is_some (brand_under k (map slot_name rs)))
        where
          inside : (b : Bool) → slot_name r ∷ cond b (map slot_name rs) (map slot_name rs ++ record { keyword = k; brand = new.brand } ∷ []) ≡ cond b (slot_name r ∷ map slot_name rs) (slot_name r ∷ (map slot_name rs ++ record { keyword = k; brand = new.brand } ∷ []))
          inside true = refl
          inside false = refl

-- ---- one half of a movement

-- a holder of a brand is named
abbrev pub named_by : ℕ → Holder → told.Seat → told.Seat
named_by b h s = record s { slots = with_holder s.opening.seat b h s.slots }

module _ (b : ℕ) (k : List ℕ) (v : ℕ) where
  -- of seats with other numbers nothing changes
  elsewhere : (m : ℕ) → v < m → (ss : List Seat) (slots : List (List Share)) → map (named_by b (Slot v k)) (seats_from m ss slots) ≡ seats_from m ss slots
  elsewhere m lt [] slots = refl
  elsewhere m lt (s ∷ ss) [] = refl
  elsewhere m lt (s ∷ ss) (rows ∷ rest) =
      ap (λ t. record (seat_told m s rows) { slots = cond t (with_slot k b (map slot_name rows)) (map slot_name rows) } ∷ map (named_by b (Slot v k)) (seats_from (suc m) ss rest)) (ne_eqb v m (λ is. absurd (omega (arith, lt, is))))
      ∙ ap (λ l. seat_told m s rows ∷ l) (elsewhere (suc m) (omega arith) ss rest)

module _ (b : ℕ) (k : List ℕ) (f : Amount → Amount) (new : Amount) (of : new.brand ≡ b) (kept : (a : Amount) → (f a).brand ≡ a.brand) where
  told_half : (q j : ℕ) (ss : List Seat) (slots : List (List Share)) → map (named_by b (Slot (q + j) k)) (seats_from q ss slots) ≡ seats_from q ss (slice_set slots j (shares_with k f new (slots_at slots j)))
  told_half q j [] slots = refl
  told_half q j (s ∷ ss) [] = refl
  told_half q zero (s ∷ ss) (rows ∷ rest) =
      ap (λ t. record (seat_told q s rows) { slots = cond t (with_slot k b (map slot_name rows)) (map slot_name rows) } ∷ map (named_by b (Slot (q + 0) k)) (seats_from (suc q) ss rest)) (eq-eqb (q + 0) q (omega arith))
      ∙ ap (λ l. record (seat_told q s rows) { slots = with_slot k b (map slot_name rows) } ∷ l) (elsewhere b k (q + 0) (suc q) (omega arith) ss rest)
      ∙ ap (λ c. record (seat_told q s rows) { slots = with_slot k c (map slot_name rows) } ∷ seats_from (suc q) ss rest) (sym of)
      ∙ ap (λ l. record (seat_told q s rows) { slots = l } ∷ seats_from (suc q) ss rest) (sym (names_with k f new kept rows))
  told_half q (suc j) (s ∷ ss) (rows ∷ rest) =
      ap (λ t. record (seat_told q s rows) { slots = cond t (with_slot k b (map slot_name rows)) (map slot_name rows) } ∷ map (named_by b (Slot (q + suc j) k)) (seats_from (suc q) ss rest)) (ne_eqb (q + suc j) q (λ is. absurd (omega (arith, is))))
      ∙ ap (λ n. seat_told q s rows ∷ map (named_by b (Slot n k)) (seats_from (suc q) ss rest)) (let e : q + suc j ≡ suc q + j = omega arith in e)
      ∙ ap (λ l. seat_told q s rows ∷ l) (told_half (suc q) j ss rest)

unnamed : (xs : List told.Seat) (f : told.Seat → told.Seat) → ((x : told.Seat) → f x ≡ x) → map f xs ≡ xs
unnamed [] f is = refl
unnamed (x ∷ xs) f is = ap (λ y. y ∷ map f xs) (is x) ∙ ap (λ l. x ∷ l) (unnamed xs f is)

module _ (ss : List Seat) (r : Rights) (b : ℕ) (w : ValueView) where
  pub told_taken : (h : Holder) → map (named_by b h) (seats_from 0 ss r.slots) ≡ seats_from 0 ss (taken r h b w).slots
  told_taken (Slot s k) = ap (λ v. map (named_by b (Slot v k)) (seats_from 0 ss r.slots)) (let e : s ≡ 0 + s = omega arith in e) ∙ told_half b k (λ had. less had w.content) (holding (amount_of b w) nothing) refl (λ a. refl) 0 s ss r.slots
  told_taken (Purse n) = unnamed (seats_from 0 ss r.slots) (named_by b (Purse n)) (λ x. refl)
  told_taken (Payment n) = unnamed (seats_from 0 ss r.slots) (named_by b (Payment n)) (λ x. refl)
  told_taken Hand = unnamed (seats_from 0 ss r.slots) (named_by b Hand) (λ x. refl)
  told_taken Outside = unnamed (seats_from 0 ss r.slots) (named_by b Outside) (λ x. refl)

  pub told_given : (h : Holder) → map (named_by b h) (seats_from 0 ss r.slots) ≡ seats_from 0 ss (given r h b w).slots
  told_given (Slot s k) = ap (λ v. map (named_by b (Slot v k)) (seats_from 0 ss r.slots)) (let e : s ≡ 0 + s = omega arith in e) ∙ told_half b k (λ had. more had w.content) (amount_of b w) refl (λ a. refl) 0 s ss r.slots
  told_given (Purse n) = unnamed (seats_from 0 ss r.slots) (named_by b (Purse n)) (λ x. refl)
  told_given (Payment n) = unnamed (seats_from 0 ss r.slots) (named_by b (Payment n)) (λ x. refl)
  told_given Hand = unnamed (seats_from 0 ss r.slots) (named_by b Hand) (λ x. refl)
  told_given Outside = unnamed (seats_from 0 ss r.slots) (named_by b Outside) (λ x. refl)

-- ---- a movement

both_halves : (m : Move) (xs : List told.Seat) → map (with_move m) xs ≡ map (named_by m.brand m.to) (map (named_by m.brand m.from) xs)
both_halves m [] = refl
both_halves m (x ∷ xs) = ap (λ l. with_move m x ∷ l) (both_halves m xs)

pub told_moved : (ss : List Seat) (r : Rights) (m : Movement) → map (with_move (printed_move m)) (seats_from 0 ss r.slots) ≡ seats_from 0 ss (moved r m).slots
told_moved ss r m =
    both_halves (printed_move m) (seats_from 0 ss r.slots)
    ∙ ap (map (named_by m.brand m.to)) (told_taken ss r m.brand m.value m.from)
    ∙ told_given ss (taken r m.from m.brand m.value) m.brand m.value m.to

-- ---- a seat by its number

pub seat_read : (q j : ℕ) (ss : List Seat) (slots : List (List Share)) (d : Seat) → j < length ss → length slots ≡ length ss
    → slice_get (seats_from q ss slots) j ≡ Some (seat_told (q + j) (slice_index_or ss j d) (slots_at slots j))
seat_read q j [] slots d lt as_many = absurd (omega arith)
seat_read q j (s ∷ ss) [] d lt as_many = absurd (omega (arith, as_many))
seat_read q zero (s ∷ ss) (rows ∷ rest) d lt as_many = ap (λ n. Some (seat_told n s rows)) (let e : q ≡ q + 0 = omega arith in e)
seat_read q (suc j) (s ∷ ss) (rows ∷ rest) d lt as_many =
    seat_read (suc q) j ss rest d (omega arith) (omega (arith, as_many))
    ∙ ap (λ n. Some (seat_told n (slice_index_or ss j d) (slots_at rest j))) (let e : suc q + j ≡ q + suc j = omega arith in e)

pub seats_counted : (q : ℕ) (ss : List Seat) (slots : List (List Share)) → length slots ≡ length ss → length (seats_from q ss slots) ≡ length ss
seats_counted q [] slots as_many = refl
seats_counted q (s ∷ ss) [] as_many = absurd (omega (arith, as_many))
seats_counted q (s ∷ ss) (rows ∷ rest) as_many = omega (arith, seats_counted (suc q) ss rest (omega (arith, as_many)))

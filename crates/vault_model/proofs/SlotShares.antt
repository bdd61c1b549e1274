-- The shares of a seat's slots, of which the one under a keyword is written, and seats of which a slot is written.
use Rattle.std.proofs.Common.{◌≡◌, ◌≢◌, ℕ, ◌<◌, ◌⊎◌, inl, inr, Bool, true, false, cond, List, [], ◌∷◌, ◌++◌, length, map, Some, None, refl, sym, ◌∙◌, ap, subst, arith}
use Rattle.std.specs.Prelude.{IsNone, IsSome, is_some, slice_set, unwrap_or}
use Rattle.std.specs.Str.{bytes_eq}
use Rattle.std.proofs.lemmas.Slice.Eq.{bytes_eq-Decides}
use Rattle.std.proofs.lemmas.Bool.{cases_eq}
use Rattle.rights_model.specs.amount_math.Content.{nothing}
use Rattle.rights_model.specs.amount_math.declared.Amount.{Amount}
use Rattle.holders.specs.ertp_mint.Stocks.{no_amount}
use Rattle.lemmas.proofs.ListEdits.{length_set, read_other, read_set, set_same, written_back}
use Rattle.proposals.specs.Shares.{amount_under, keyed_share}
use Rattle.proposals.specs.Slots.{emptied}
use Rattle.proposals.specs.declared.allocations.Share.{Share}
use Rattle.vault_model.specs.Seats.{HasShare, HasSlotOf, KeptSeat, amount_at, kept_seat_at, no_kept_seat, slot_at, with_amount, with_slot, with_slots}

-- a keyword is itself, and of two that are read as one
bytes_same : (k : List ℕ) → bytes_eq k k ≡ true
bytes_same k = (bytes_eq-Decides k k).1 refl

bytes_apart : (j k x : List ℕ) → j ≢ k → bytes_eq k x ≡ true → bytes_eq j x ≡ false
bytes_apart j k x apart is = not_true (bytes_eq j x) (λ also. apart ((bytes_eq-Decides j x).0 also ∙ sym ((bytes_eq-Decides k x).0 is)))
  where
    not_true : (t : Bool) → (t ≡ true → ⊥) → t ≡ false
    not_true true never = absurd (never refl)
    not_true false _ = refl

-- two keywords are one, or not
pub keyword_cases : (j k : List ℕ) → (j ≡ k) ⊎ (j ≢ k)
keyword_cases j k = by (bytes_eq j k) refl
  where
    by : (t : Bool) → bytes_eq j k ≡ t → (j ≡ k) ⊎ (j ≢ k)
    by true is = inl ((bytes_eq-Decides j k).0 is)
    by false is = inr (λ same. clash (sym is ∙ (bytes_eq-Decides j k).1 same))
      where
        clash : false ≡ true → ⊥
        clash e = cc

-- ---- one write

pub read_there : (k : List ℕ) (a : Amount) (shares : List Share) → HasShare k shares → amount_at k (with_amount k a shares) ≡ a
read_there k a [] h = absurd cc
read_there k a (r ∷ rs) h = by (bytes_eq k r.keyword) refl (read_there k a rs) h
  where
    by : (t : Bool) → bytes_eq k r.keyword ≡ t → (HasShare k rs → amount_at k (with_amount k a rs) ≡ a) → IsSome (cond t (Some r.amount) (amount_under k rs)) → amount_at k (cond t (keyed_share r.keyword a ∷ rs) (r ∷ with_amount k a rs)) ≡ a
    by true is later here = ap (λ t. unwrap_or (cond t (Some a) (amount_under k rs)) no_amount) is
    by false is later here = ap (λ t. unwrap_or (cond t (Some r.amount) (amount_under k (with_amount k a rs))) no_amount) is ∙ later here

pub read_elsewhere : (j k : List ℕ) (a : Amount) (shares : List Share) → j ≢ k → amount_under j (with_amount k a shares) ≡ amount_under j shares
read_elsewhere j k a [] apart = refl
read_elsewhere j k a (r ∷ rs) apart = by (bytes_eq k r.keyword) refl (read_elsewhere j k a rs apart)
  where
    by : (t : Bool) → bytes_eq k r.keyword ≡ t → amount_under j (with_amount k a rs) ≡ amount_under j rs → amount_under j (cond t (keyed_share r.keyword a ∷ rs) (r ∷ with_amount k a rs)) ≡ cond (bytes_eq j r.keyword) (Some r.amount) (amount_under j rs)
    by true is later = ap (λ t. cond t (Some a) (amount_under j rs)) (bytes_apart j k r.keyword apart is) ∙ sym (ap (λ t. cond t (Some r.amount) (amount_under j rs)) (bytes_apart j k r.keyword apart is))
    by false is later = ap (λ o. cond (bytes_eq j r.keyword) (Some r.amount) o) later

pub write_twice : (k : List ℕ) (a b : Amount) (shares : List Share) → with_amount k b (with_amount k a shares) ≡ with_amount k b shares
write_twice k a b [] = refl
write_twice k a b (r ∷ rs) = by (bytes_eq k r.keyword) refl (write_twice k a b rs)
  where
    by : (t : Bool) → bytes_eq k r.keyword ≡ t → with_amount k b (with_amount k a rs) ≡ with_amount k b rs → with_amount k b (cond t (keyed_share r.keyword a ∷ rs) (r ∷ with_amount k a rs)) ≡ cond t (keyed_share r.keyword b ∷ rs) (r ∷ with_amount k b rs)
    by true is later = ap (λ t. cond t (keyed_share r.keyword b ∷ rs) (keyed_share r.keyword a ∷ with_amount k b rs)) is
    by false is later = ap (λ t. cond t (keyed_share r.keyword b ∷ with_amount k a rs) (r ∷ with_amount k b (with_amount k a rs))) is ∙ ap (λ l. r ∷ l) later

pub write_same : (k : List ℕ) (shares : List Share) → with_amount k (amount_at k shares) shares ≡ shares
write_same k [] = refl
write_same k (r ∷ rs) = by (bytes_eq k r.keyword) (write_same k rs)
  where
    by : (t : Bool) → with_amount k (amount_at k rs) rs ≡ rs → cond t (keyed_share r.keyword (unwrap_or (cond t (Some r.amount) (amount_under k rs)) no_amount) ∷ rs) (r ∷ with_amount k (unwrap_or (cond t (Some r.amount) (amount_under k rs)) no_amount) rs) ≡ r ∷ rs
    by true later = refl
    by false later = ap (λ l. r ∷ l) later

-- a share is still there
pub still_there : (j k : List ℕ) (a : Amount) (shares : List Share) → HasShare j shares → HasShare j (with_amount k a shares)
still_there j k a [] h = h
still_there j k a (r ∷ rs) h = by (bytes_eq k r.keyword) (bytes_eq j r.keyword) refl (still_there j k a rs) h
  where
    by : (t u : Bool) → bytes_eq j r.keyword ≡ u → (HasShare j rs → HasShare j (with_amount k a rs)) → IsSome (cond u (Some r.amount) (amount_under j rs)) → HasShare j (cond t (keyed_share r.keyword a ∷ rs) (r ∷ with_amount k a rs))
    by true true is later here = ap (λ u. is_some (cond u (Some a) (amount_under j rs))) is
    by true false is later here = ap (λ u. is_some (cond u (Some a) (amount_under j rs))) is ∙ here
    by false true is later here = ap (λ u. is_some (cond u (Some r.amount) (amount_under j (with_amount k a rs)))) is
    by false false is later here = ap (λ u. is_some (cond u (Some r.amount) (amount_under j (with_amount k a rs)))) is ∙ later here

pub length_with : (k : List ℕ) (a : Amount) (shares : List Share) → length (with_amount k a shares) ≡ length shares
length_with k a [] = refl
length_with k a (r ∷ rs) = by (bytes_eq k r.keyword) (length_with k a rs)
  where
    by : (t : Bool) → length (with_amount k a rs) ≡ length rs → length (cond t (keyed_share r.keyword a ∷ rs) (r ∷ with_amount k a rs)) ≡ length (r ∷ rs)
    by true later = refl
    by false later = omega (arith, later)

-- ---- a share that is new has nothing

pub none_of_emptied : (k : List ℕ) (shares : List Share) → (amount_at k (map emptied shares)).value.content ≡ nothing
none_of_emptied k [] = refl
none_of_emptied k (r ∷ rs) = by (bytes_eq k r.keyword) (none_of_emptied k rs)
  where
    by : (t : Bool) → (amount_at k (map emptied rs)).value.content ≡ nothing → (unwrap_or (cond t (Some (emptied r).amount) (amount_under k (map emptied rs))) no_amount).value.content ≡ nothing
    by true later = refl
    by false later = later

-- a further share, of an amount that has nothing, shows nothing new
pub further : (P : Amount → Type 0) (j : List ℕ) (r : Share) (shares : List Share) → (P no_amount → P r.amount) → P (amount_at j shares) → P (amount_at j (shares ++ r ∷ []))
further P j r [] same is = by (bytes_eq j r.keyword)
  where
    by : (t : Bool) → P (unwrap_or (cond t (Some r.amount) None) no_amount)
    by true = same is
    by false = is
further P j r (x ∷ xs) same is = by (bytes_eq j x.keyword) (further P j r xs same) is
  where
    by : (t : Bool) → (P (amount_at j xs) → P (amount_at j (xs ++ r ∷ []))) → P (unwrap_or (cond t (Some x.amount) (amount_under j xs)) no_amount) → P (unwrap_or (cond t (Some x.amount) (amount_under j (xs ++ r ∷ []))) no_amount)
    by true later here = here
    by false later here = later here

-- ---- the seats, of which a slot is written

module _ (seats : List KeptSeat) (n : ℕ) (k : List ℕ) (has : HasSlotOf seats n k) where
  abbrev seat : KeptSeat
  seat = kept_seat_at seats n

  abbrev with_it : Amount → KeptSeat
  with_it a = with_slots seat (with_amount k a seat.slots)

  pub slot_there : (a : Amount) → slot_at (with_slot seats n k a) n k ≡ a
  slot_there a = ap (λ (x : KeptSeat). amount_at k x.slots) (read_set seats n (with_it a) no_kept_seat has.made) ∙ read_there k a seat.slots has.there

  pub slot_elsewhere : (j : List ℕ) (a : Amount) → j ≢ k → slot_at (with_slot seats n k a) n j ≡ slot_at seats n j
  slot_elsewhere j a apart = ap (λ (x : KeptSeat). amount_at j x.slots) (read_set seats n (with_it a) no_kept_seat has.made) ∙ ap (λ o. unwrap_or o no_amount) (read_elsewhere j k a seat.slots apart)

  -- what was written, turned round
  pub slot_back : (f : Amount → Amount) (a : Amount) → f a ≡ slot_at seats n k → with_slot (with_slot seats n k a) n k (f (slot_at (with_slot seats n k a) n k)) ≡ seats
  slot_back f a is = written_back seats n no_kept_seat (with_it a) has.made (λ x. with_slots x (with_amount k (f (amount_at k x.slots)) x.slots))
      (ap (with_slots seat) (write_twice k a (f (amount_at k (with_amount k a seat.slots))) seat.slots
      ∙ ap (λ x. with_amount k (f x) seat.slots) (read_there k a seat.slots has.there)
      ∙ ap (λ x. with_amount k x seat.slots) is
      ∙ write_same k seat.slots))

-- of another seat nothing changes
pub seat_elsewhere : (seats : List KeptSeat) (n q : ℕ) (k j : List ℕ) (a : Amount) → n ≢ q → slot_at (with_slot seats n k a) q j ≡ slot_at seats q j
seat_elsewhere seats n q k j a apart = ap (λ (x : KeptSeat). amount_at j x.slots) (read_other seats n q (with_slots (kept_seat_at seats n) (with_amount k a (kept_seat_at seats n).slots)) no_kept_seat apart)

-- what is there stays, and what is there was before
was_there : (j k : List ℕ) (a : Amount) (shares : List Share) → HasShare j (with_amount k a shares) → HasShare j shares
was_there j k a [] h = h
was_there j k a (r ∷ rs) h = by (bytes_eq k r.keyword) (bytes_eq j r.keyword) refl (was_there j k a rs) h
  where
    by : (t u : Bool) → bytes_eq j r.keyword ≡ u → (HasShare j (with_amount k a rs) → HasShare j rs) → HasShare j (cond t (keyed_share r.keyword a ∷ rs) (r ∷ with_amount k a rs)) → IsSome (cond u (Some r.amount) (amount_under j rs))
    by true true is later here = refl
    by true false is later here = sym (ap (λ u. is_some (cond u (Some a) (amount_under j rs))) is) ∙ here
    by false true is later here = refl
    by false false is later here = later (sym (ap (λ u. is_some (cond u (Some r.amount) (amount_under j (with_amount k a rs)))) is) ∙ here)

pub slot_stays : (seats : List KeptSeat) (n : ℕ) (k : List ℕ) (a : Amount) → HasSlotOf seats n k → HasSlotOf (with_slot seats n k a) n k
slot_stays seats n k a has =
    let x = with_slots (kept_seat_at seats n) (with_amount k a (kept_seat_at seats n).slots) in
    record {
      made = omega (arith, has.made, length_set seats n x);
      there = subst (λ (y : KeptSeat). HasShare k y.slots) (sym (read_set seats n x no_kept_seat has.made)) (still_there k k a (kept_seat_at seats n).slots has.there);
    }

pub slot_was : (seats : List KeptSeat) (n q : ℕ) (k j : List ℕ) (a : Amount) → HasSlotOf (with_slot seats n k a) q j → HasSlotOf seats q j
slot_was seats n q k j a has = record {
  made = there;
  there = elim (cases_eq n q) [
    | inl same ↦ subst (λ y. HasShare j (kept_seat_at seats y).slots) same
        (was_there j k a (kept_seat_at seats n).slots (subst (λ (y : KeptSeat). HasShare j y.slots) (read_set seats n x no_kept_seat (omega (arith, there, same))) (subst (λ y. HasShare j (kept_seat_at (slice_set seats n x) y).slots) (sym same) has.there)))
    | inr apart ↦ subst (λ (y : KeptSeat). HasShare j y.slots) (read_other seats n q x no_kept_seat apart) has.there
  ];
}
  where
    x : KeptSeat
    x = with_slots (kept_seat_at seats n) (with_amount k a (kept_seat_at seats n).slots)

    there : q < length seats
    there = omega (arith, has.made, length_set seats n x)

pub slot_same : (seats : List KeptSeat) (n : ℕ) (k : List ℕ) → with_slot seats n k (slot_at seats n k) ≡ seats
slot_same seats n k = ap (λ l. slice_set seats n (with_slots (kept_seat_at seats n) l)) (write_same k (kept_seat_at seats n).slots) ∙ set_same seats n no_kept_seat

-- a share of a keyword that had none is under it
pub pushed_there : (k : List ℕ) (shares : List Share) (a : Amount) → IsNone (amount_under k shares) → amount_under k (shares ++ keyed_share k a ∷ []) ≡ Some a
pushed_there k [] a none = ap (λ t. cond t (Some a) None) (bytes_same k)
pushed_there k (r ∷ rs) a none = by (bytes_eq k r.keyword) (pushed_there k rs a) none
  where
    by : (t : Bool) → (IsNone (amount_under k rs) → amount_under k (rs ++ keyed_share k a ∷ []) ≡ Some a) → IsNone (cond t (Some r.amount) (amount_under k rs)) → cond t (Some r.amount) (amount_under k (rs ++ keyed_share k a ∷ [])) ≡ Some a
    by true later here = absurd cc
    by false later here = later here

-- What all hold together stays what is out, whatever is taken or given.
use Rattle.std.proofs.Common.{◌≡◌, ◌≢◌, ◌+◌, ◌<◌, ◌≤◌, ◌==◌, inl, inr, ℕ, zero, suc, Bool, true, false, cond, List, [], ◌∷◌, ◌++◌, Option, None, Some, length, map, refl, sym, ◌∙◌, ap, subst, arith}
use Rattle.std.specs.Prelude.{IsNone, IsSome, is_none, slice_index_or, slice_set, unwrap_or}
use Rattle.std.specs.Str.{bytes_eq}
use Rattle.std.proofs.lemmas.Bool.{cases_eq, eq-eqb, ne_eqb}
use Rattle.rights_model.specs.amount_math.Content.{Content, Contains, nothing, sum, difference, count, count-sum, count-difference, count-nothing, same_content}
use Rattle.rights_model.specs.amount_math.ValueView.{ValueView}
use Rattle.rights_model.specs.amount_math.declared.Amount.{Amount}
use Rattle.rights_model.specs.amount_math.declared.Kind.{Kind}
use Rattle.rights_model.specs.amount_math.declared.Kind.TheVariants.{Nat}
use Rattle.holders.specs.ertp_mint.BrandSupply.{BrandSupply, issued, new_supply, retired, supply_at}
use Rattle.holders.specs.ertp_mint.Stocks.{empty_amount, no_amount}
use Rattle.holders.specs.PaymentViews.{PaymentView, live_payment, payment_view_at, spent_payment}
use Rattle.rights_model.specs.declared.Holder.{Holder}
use Rattle.rights_model.specs.declared.Holder.TheVariants.{Purse, Payment, Slot, Hand, Outside}
use Rattle.vault_model.specs.Lists.{Lists, CanGive, CanTake, amount_of, given, less, more, purse_at, slot_of, taken, with_closed_seat, with_new_brand, with_new_purse, with_new_seat, with_new_slot}
use Rattle.vault_model.specs.Seats.{HasShare, HasSlotOf, IsOpenSeat, KeptSeat, amount_at, kept_seat_at, new_kept_seat, owed_by, owed_by_all, slot_at, with_amount, with_slot, with_slots}
use Rattle.vault_model.proofs.SlotShares.{length_with}
use Rattle.proposals.specs.Shares.{amount_under, keyed_share}
use Rattle.proposals.specs.Slots.{emptied, slots_of}
use Rattle.proposals.specs.declared.allocations.Share.{Share}
use Rattle.proposals.specs.declared.offers.Proposal.{Proposal}
use Rattle.vault_model.specs.Tables.{IsSound, Right, all_in, all_in_seats, hand_minus, hand_plus, in_brand, right_in, right_of_share, right_on}
use Rattle.lemmas.proofs.ListEdits.{length_map, length_push, map_push, map_set, read_before, read_map, read_other, read_past, read_pushed, read_set}

-- how many of a brand's element a content of another is
abbrev pub part : ℕ → Content → ℕ → List ℕ → ℕ
part b c e k = cond (b == e) (count c k) 0

pub plus_count : (h : ℕ → Content) (b : ℕ) (c : Content) (e : ℕ) (k : List ℕ) → count (hand_plus h b c e) k ≡ count (h e) k + part b c e k
plus_count h b c e k = elim (b == e) as (λ t. count (cond t (sum (h e) c) (h e)) k ≡ count (h e) k + cond t (count c k) 0) [
  | true ↦ count-sum (h e) c k
  | false ↦ omega arith
]

-- an equation at b, and where the brand is another
pub at_or_else : (P : ℕ → Bool → Type 0) (b e : ℕ) → P b true → ((b ≢ e) → P e false) → P e (b == e)
at_or_else P b e here there = elim (cases_eq b e) [
  | inl same ↦ subst (P e) (sym (eq-eqb b e same)) (subst (λ q. P q true) same here)
  | inr differs ↦ subst (P e) (sym (ne_eqb b e differs)) (there differs)
]

pub minus_count : (h : ℕ → Content) (b : ℕ) (c : Content) (e : ℕ) (k : List ℕ) → Contains (h b) c → count (hand_minus h b c e) k + part b c e k ≡ count (h e) k
minus_count h b c e k has = at_or_else (λ q t. count (cond t (difference (h q) c) (h q)) k + cond t (count c k) 0 ≡ count (h q) k) b e
    (omega (arith, count-difference (h b) c k, has.each k))
    (λ _. omega arith)

abbrev pub less_right : Right → Content → Right
less_right r c = record { brand = r.brand; content = difference r.content c }

abbrev pub more_right : Right → Content → Right
more_right r c = record { brand = r.brand; content = sum r.content c }

pub brand_less : (r : Right) (b : ℕ) (c : Content) (e : ℕ) (k : List ℕ) → r.brand ≡ b → Contains r.content c → count (in_brand (less_right r c) e) k + part b c e k ≡ count (in_brand r e) k
brand_less r b c e k brand has = subst (λ x. count (in_brand (less_right r c) e) k + part x c e k ≡ count (in_brand r e) k) brand
    (elim (r.brand == e) as (λ t. count (cond t (difference r.content c) nothing) k + cond t (count c k) 0 ≡ count (cond t r.content nothing) k) [
      | true ↦ omega (arith, count-difference r.content c k, has.each k)
      | false ↦ omega arith
    ])

pub brand_more : (r : Right) (b : ℕ) (c : Content) (e : ℕ) (k : List ℕ) → r.brand ≡ b → count (in_brand (more_right r c) e) k ≡ count (in_brand r e) k + part b c e k
brand_more r b c e k brand = subst (λ x. count (in_brand (more_right r c) e) k ≡ count (in_brand r e) k + part x c e k) brand
    (elim (r.brand == e) as (λ t. count (cond t (sum r.content c) nothing) k ≡ count (cond t r.content nothing) k + cond t (count c k) 0) [
      | true ↦ count-sum r.content c k
      | false ↦ omega arith
    ])

-- a payment that is live has what it has, and a spent one nothing
pub live_count : (b : ℕ) (w : ValueView) (e : ℕ) (k : List ℕ) → count (in_brand (right_on (live_payment (amount_of b w))) e) k ≡ part b w.content e k
live_count b w e k = elim (b == e) as (λ t. count (cond t w.content nothing) k ≡ cond t (count w.content k) 0) [
  | true ↦ refl
  | false ↦ count-nothing k
]

pub spent_count : (b e : ℕ) (k : List ℕ) → count (in_brand (right_on (spent_payment b)) e) k ≡ 0
spent_count b e k = elim (b == e) as (λ t. count (cond t nothing nothing) k ≡ 0) [ true ↦ count-nothing k | false ↦ count-nothing k ]

-- ---- lists of rights

pub all_in-set : (l : List Right) (n : ℕ) (x d : Right) (e : ℕ) (k : List ℕ) → n < length l → all_in (slice_set l n x) e k + count (in_brand (slice_index_or l n d) e) k ≡ all_in l e k + count (in_brand x e) k
all_in-set [] n x d e k lt = absurd (omega arith)
all_in-set (r ∷ rs) zero x d e k lt = omega arith
all_in-set (r ∷ rs) (suc n) x d e k lt = omega (arith, all_in-set rs n x d e k (omega arith))

pub all_in-push : (l : List Right) (x : Right) (e : ℕ) (k : List ℕ) → all_in (l ++ x ∷ []) e k ≡ all_in l e k + count (in_brand x e) k
all_in-push [] x e k = omega arith
all_in-push (r ∷ rs) x e k = omega (arith, all_in-push rs x e k)

pub purses-set : (l : List Amount) (n : ℕ) (x : Amount) (e : ℕ) (k : List ℕ) → n < length l → all_in (map right_in (slice_set l n x)) e k + count (in_brand (right_in (purse_at l n)) e) k ≡ all_in (map right_in l) e k + count (in_brand (right_in x) e) k
purses-set l n x e k lt = omega (
  arith,
  ap (λ m. all_in m e k) (map_set right_in l n x),
  all_in-set (map right_in l) n (right_in x) (right_in no_amount) e k (omega (arith, lt, length_map right_in l)),
  ap (λ r. count (in_brand r e) k) (read_map right_in l n no_amount),
)

pub views-set : (l : List PaymentView) (n : ℕ) (x : PaymentView) (e : ℕ) (k : List ℕ) → n < length l → all_in (map right_on (slice_set l n x)) e k + count (in_brand (right_on (payment_view_at l n)) e) k ≡ all_in (map right_on l) e k + count (in_brand (right_on x) e) k
views-set l n x e k lt = omega (
  arith,
  ap (λ m. all_in m e k) (map_set right_on l n x),
  all_in-set (map right_on l) n (right_on x) (right_on (spent_payment 0)) e k (omega (arith, lt, length_map right_on l)),
  ap (λ r. count (in_brand r e) k) (read_map right_on l n (spent_payment 0)),
)

-- ---- seats

shares-set : (shares : List Share) (j : List ℕ) (x : Amount) (e : ℕ) (k : List ℕ) → HasShare j shares → all_in (map right_of_share (with_amount j x shares)) e k + count (in_brand (right_in (amount_at j shares)) e) k ≡ all_in (map right_of_share shares) e k + count (in_brand (right_in x) e) k
shares-set [] j x e k has = absurd cc
shares-set (r ∷ rs) j x e k has = by (bytes_eq j r.keyword) (shares-set rs j x e k) has
  where
    by : (t : Bool) → (HasShare j rs → all_in (map right_of_share (with_amount j x rs)) e k + count (in_brand (right_in (amount_at j rs)) e) k ≡ all_in (map right_of_share rs) e k + count (in_brand (right_in x) e) k)
        → IsSome (cond t (Some r.amount) (amount_under j rs))
        → all_in (map right_of_share (cond t (keyed_share r.keyword x ∷ rs) (r ∷ with_amount j x rs))) e k + count (in_brand (right_in (unwrap_or (cond t (Some r.amount) (amount_under j rs)) no_amount)) e) k ≡ all_in (map right_of_share (r ∷ rs)) e k + count (in_brand (right_in x) e) k
    by true later here = omega arith
    by false later here = omega (arith, later here)

seat-set : (l : List KeptSeat) (n : ℕ) (x : KeptSeat) (e : ℕ) (k : List ℕ) → n < length l → all_in_seats (slice_set l n x) e k + all_in (map right_of_share (kept_seat_at l n).slots) e k ≡ all_in_seats l e k + all_in (map right_of_share x.slots) e k
seat-set [] n x e k lt = absurd (omega arith)
seat-set (s ∷ ss) zero x e k lt = omega arith
seat-set (s ∷ ss) (suc n) x e k lt = omega (arith, seat-set ss n x e k (omega arith))

seat-push : (l : List KeptSeat) (x : KeptSeat) (e : ℕ) (k : List ℕ) → all_in_seats (l ++ x ∷ []) e k ≡ all_in_seats l e k + all_in (map right_of_share x.slots) e k
seat-push [] x e k = omega arith
seat-push (s ∷ ss) x e k = omega (arith, seat-push ss x e k)

slots-set : (l : List KeptSeat) (n : ℕ) (j : List ℕ) (x : Amount) (e : ℕ) (k : List ℕ) → HasSlotOf l n j → all_in_seats (with_slot l n j x) e k + count (in_brand (right_in (slot_at l n j)) e) k ≡ all_in_seats l e k + count (in_brand (right_in x) e) k
slots-set l n j x e k has =
    let seat = kept_seat_at l n in
    omega (arith, seat-set l n (with_slots seat (with_amount j x seat.slots)) e k has.made, shares-set seat.slots j x e k has.there)

emptied_none : (shares : List Share) (e : ℕ) (k : List ℕ) → all_in (map right_of_share (map emptied shares)) e k ≡ 0
emptied_none [] e k = refl
emptied_none (r ∷ rs) e k = omega (arith, spent_count r.amount.brand e k, emptied_none rs e k)

-- ---- what is owed

owed-set : (l : List KeptSeat) (n : ℕ) (x : KeptSeat) → n < length l → owed_by_all (slice_set l n x) + owed_by (kept_seat_at l n) ≡ owed_by_all l + owed_by x
owed-set [] n x lt = absurd (omega arith)
owed-set (s ∷ ss) zero x lt = omega arith
owed-set (s ∷ ss) (suc n) x lt = omega (arith, owed-set ss n x (omega arith))

owed-push : (l : List KeptSeat) (x : KeptSeat) → owed_by_all (l ++ x ∷ []) ≡ owed_by_all l + owed_by x
owed-push [] x = omega arith
owed-push (s ∷ ss) x = omega (arith, owed-push ss x)

pub owed_open : (seat : KeptSeat) → IsOpenSeat seat → owed_by seat ≡ length seat.slots
owed_open seat is = by seat.last is
  where
    by : (o : Option (List Share)) → IsNone o → cond (is_none o) (length seat.slots) 0 ≡ length seat.slots
    by None none = refl
    by (Some x) none = absurd cc

owed_within : (l : List KeptSeat) (n : ℕ) → n < length l → owed_by (kept_seat_at l n) ≤ owed_by_all l
owed_within [] n lt = absurd (omega arith)
owed_within (s ∷ ss) zero lt = omega arith
owed_within (s ∷ ss) (suc n) lt = omega (arith, owed_within ss n (omega arith))

-- the payments of an open seat are owed
pub owes_its_slots : (s : Lists) (h : ℕ → Content) → IsSound s h → (n : ℕ) → n < length s.seats → IsOpenSeat (kept_seat_at s.seats n) → length (kept_seat_at s.seats n).slots ≤ s.owed
owes_its_slots s h is n lt seat_open = omega (arith, is.owed, owed_within s.seats n lt, owed_open (kept_seat_at s.seats n) seat_open)

-- a slot that is written leaves what is owed
owed_slot : (l : List KeptSeat) (n : ℕ) (j : List ℕ) (x : Amount) → n < length l → owed_by_all (with_slot l n j x) ≡ owed_by_all l
owed_slot l n j x lt =
    let seat = kept_seat_at l n in
    omega (arith, owed-set l n (with_slots seat (with_amount j x seat.slots)) lt, ap (λ m. cond (is_none seat.last) m 0) (length_with j x seat.slots))

-- what is out of each brand
abbrev pub out_count : List BrandSupply → ℕ → List ℕ → ℕ
out_count l e k = count (supply_at l e).outstanding.content k

pub out_more : (l : List BrandSupply) (b : ℕ) (c : Content) (e : ℕ) (k : List ℕ) → b < length l → out_count (slice_set l b (issued (supply_at l b) c)) e k ≡ out_count l e k + part b c e k
out_more l b c e k lt = at_or_else (λ q t. out_count (slice_set l b (issued (supply_at l b) c)) q k ≡ out_count l q k + cond t (count c k) 0) b e
    (ap (λ (x : BrandSupply). count x.outstanding.content k) (read_set l b (issued (supply_at l b) c) (new_supply Nat) lt) ∙ count-sum (supply_at l b).outstanding.content c k)
    (λ differs. omega (arith, ap (λ (x : BrandSupply). count x.outstanding.content k) (read_other l b e (issued (supply_at l b) c) (new_supply Nat) differs)))

pub out_less : (l : List BrandSupply) (b : ℕ) (c : Content) (e : ℕ) (k : List ℕ) → b < length l → Contains (supply_at l b).outstanding.content c → out_count (slice_set l b (retired (supply_at l b) c)) e k + part b c e k ≡ out_count l e k
out_less l b c e k lt has = at_or_else (λ q t. out_count (slice_set l b (retired (supply_at l b) c)) q k + cond t (count c k) 0 ≡ out_count l q k) b e
    (omega (arith, ap (λ (x : BrandSupply). count x.outstanding.content k) (read_set l b (retired (supply_at l b) c) (new_supply Nat) lt), count-difference (supply_at l b).outstanding.content c k, has.each k))
    (λ differs. omega (arith, ap (λ (x : BrandSupply). count x.outstanding.content k) (read_other l b e (retired (supply_at l b) c) (new_supply Nat) differs)))

-- ---- a take into the hand, and a put from it

module _ (s : Lists) (h : ℕ → Content) (b : ℕ) (w : ValueView) (is : IsSound s h) where
  pub sound_taken : (from : Holder) → CanTake s from b w → IsSound (taken s from b w) (hand_plus h b w.content)
  sound_taken (Purse n) can = record {
    balanced = λ e k. omega (
      arith,
      is.balanced e k,
      purses-set s.purses n (less (purse_at s.purses n) w.content) e k can.made,
      brand_less (right_in (purse_at s.purses n)) b w.content e k can.brand can.has,
      plus_count h b w.content e k,
    );
    owed = is.owed;
  }
  sound_taken (Payment n) can = record {
    balanced = λ e k. omega (
      arith,
      is.balanced e k,
      views-set s.payments n (spent_payment b) e k can.made,
      ap (λ (p : PaymentView). count (in_brand (right_on p) e) k) can.is,
      live_count b w e k,
      spent_count b e k,
      plus_count h b w.content e k,
    );
    owed = is.owed;
  }
  sound_taken (Slot n j) can = record {
    balanced = λ e k. omega (
      arith,
      is.balanced e k,
      slots-set s.seats n j (less (slot_of s n j) w.content) e k can.slot,
      brand_less (right_in (slot_of s n j)) b w.content e k can.brand can.has,
      plus_count h b w.content e k,
    );
    owed = is.owed ∙ sym (owed_slot s.seats n j (less (slot_of s n j) w.content) can.slot.made);
  }
  sound_taken Hand can = absurd can
  sound_taken Outside can = record { balanced = λ e k. omega (arith, is.balanced e k, out_more s.out b w.content e k can.made, plus_count h b w.content e k); owed = is.owed }

  pub sound_given : (to : Holder) → CanGive s to b w → Contains (h b) w.content → IsSound (given s to b w) (hand_minus h b w.content)
  sound_given (Purse n) can has = record {
    balanced = λ e k. omega (
      arith,
      is.balanced e k,
      purses-set s.purses n (more (purse_at s.purses n) w.content) e k can.made,
      brand_more (right_in (purse_at s.purses n)) b w.content e k can.meet.brand,
      minus_count h b w.content e k has,
    );
    owed = is.owed;
  }
  sound_given (Payment n) can has = record {
    balanced = λ e k. omega (
      arith,
      is.balanced e k,
      ap (λ m. all_in m e k) (map_push right_on s.payments (live_payment (amount_of b w))),
      all_in-push (map right_on s.payments) (right_on (live_payment (amount_of b w))) e k,
      live_count b w e k,
      minus_count h b w.content e k has,
    );
    owed = is.owed;
  }
  sound_given (Slot n j) can has = record {
    balanced = λ e k. omega (
      arith,
      is.balanced e k,
      slots-set s.seats n j (more (slot_of s n j) w.content) e k can.slot,
      brand_more (right_in (slot_of s n j)) b w.content e k can.meet.brand,
      minus_count h b w.content e k has,
    );
    owed = is.owed ∙ sym (owed_slot s.seats n j (more (slot_of s n j) w.content) can.slot.made);
  }
  sound_given Hand can has = absurd can
  sound_given Outside can has = record { balanced = λ e k. omega (arith, is.balanced e k, out_less s.out b w.content e k can.made can.has, minus_count h b w.content e k has); owed = is.owed }

-- what the hand has is out
pub hand_is_out : (s : Lists) (h : ℕ → Content) → IsSound s h → (b : ℕ) → Contains (supply_at s.out b).outstanding.content (h b)
hand_is_out s h is b = record { each = λ k. omega (arith, is.balanced b k) }

-- of a brand that was not made it has nothing
pub none_past : (s : Lists) (h : ℕ → Content) → IsSound s h → (b : ℕ) → length s.out ≤ b → h b ≡ nothing
none_past s h is b le = same_content _ _ (λ k. omega (arith, is.balanced b k, ap (λ (x : BrandSupply). count x.outstanding.content k) (read_past s.out (new_supply Nat) b le), count-nothing k))

-- ---- openings

pub sound_new_purse : (s : Lists) (h : ℕ → Content) (b : ℕ) (kind : Kind) → IsSound s h → IsSound (with_new_purse s b kind) h
sound_new_purse s h b kind is = record {
  balanced = λ e k. omega (
    arith,
    is.balanced e k,
    ap (λ m. all_in m e k) (map_push right_in s.purses (empty_amount b kind)),
    all_in-push (map right_in s.purses) (right_in (empty_amount b kind)) e k,
    spent_count b e k,
  );
  owed = is.owed;
}

pub sound_new_seat : (s : Lists) (h : ℕ → Content) (instance : ℕ) (proposal : Proposal) → IsSound s h → IsSound (with_new_seat s instance proposal) h
sound_new_seat s h instance proposal is = record {
  balanced = λ e k. omega (arith, is.balanced e k, seat-push s.seats (new_kept_seat instance proposal) e k, emptied_none (slots_of proposal) e k);
  owed = omega (arith, is.owed, owed-push s.seats (new_kept_seat instance proposal), length_map emptied (slots_of proposal));
}

pub sound_new_slot : (s : Lists) (h : ℕ → Content) (n : ℕ) (keyword : List ℕ) (b : ℕ) (kind : Kind) → n < length s.seats → IsOpenSeat (kept_seat_at s.seats n) → IsSound s h → IsSound (with_new_slot s n keyword b kind) h
sound_new_slot s h n keyword b kind lt seat_open is =
    let seat = kept_seat_at s.seats n in
    let share = keyed_share keyword (empty_amount b kind) in
    let longer = with_slots seat (seat.slots ++ share ∷ []) in
    record {
      balanced = λ e k. omega (
        arith,
        is.balanced e k,
        seat-set s.seats n longer e k lt,
        ap (λ m. all_in m e k) (map_push right_of_share seat.slots share),
        all_in-push (map right_of_share seat.slots) (right_of_share share) e k,
        spent_count b e k,
      );
      owed = omega (arith, is.owed, owed-set s.seats n longer lt, owed_open seat seat_open, owed_open longer seat_open, length_push seat.slots share);
    }

pub sound_closed : (s : Lists) (h : ℕ → Content) (n : ℕ) → n < length s.seats → IsOpenSeat (kept_seat_at s.seats n) → IsSound s h → IsSound (with_closed_seat s n) h
sound_closed s h n lt seat_open is =
    let seat = kept_seat_at s.seats n in
    let closed : KeptSeat = record seat { last = Some seat.slots } in
    record {
      balanced = λ e k. omega (arith, is.balanced e k, seat-set s.seats n closed e k lt);
      owed = omega (arith, is.owed, owed-set s.seats n closed lt, owed_open seat seat_open);
    }

pub sound_new_brand : (s : Lists) (h : ℕ → Content) (kind : Kind) → IsSound s h → IsSound (with_new_brand s kind) h
sound_new_brand s h kind is = record { balanced = λ e k. is.balanced e k ∙ sym (same e k); owed = is.owed }
  where
    same : (e : ℕ) (k : List ℕ) → out_count (s.out ++ new_supply kind ∷ []) e k ≡ out_count s.out e k
    same e k = elim (cases_eq (length s.out) e) [
      | inl at ↦ ap (λ (x : BrandSupply). count x.outstanding.content k) (read_pushed s.out (new_supply kind) (new_supply Nat) e (sym at)) ∙ sym (ap (λ (x : BrandSupply). count x.outstanding.content k) (read_past s.out (new_supply Nat) e (omega (arith, at))))
      | inr apart ↦ ap (λ (x : BrandSupply). count x.outstanding.content k) (read_before s.out (new_supply kind) (new_supply Nat) e apart)
    ]

pub sound_alike : (s : Lists) (h g : ℕ → Content) → ((e : ℕ) → h e ≡ g e) → IsSound s h → IsSound s g
sound_alike s h g alike is = record { balanced = λ e k. omega (arith, is.balanced e k, ap (λ x. count x k) (alike e)); owed = is.owed }

-- what came to the hand is there, and without it the hand is as before
pub plus_has : (h : ℕ → Content) (b : ℕ) (c : Content) → Contains (hand_plus h b c b) c
plus_has h b c = record { each = λ k. omega (arith, plus_count h b c b k, ap (λ t. cond t (count c k) 0) (eq-eqb b b refl)) }

pub in_and_out : (h : ℕ → Content) (b : ℕ) (c : Content) (e : ℕ) → hand_minus (hand_plus h b c) b c e ≡ h e
in_and_out h b c e = same_content _ _ (λ k. omega (arith, minus_count (hand_plus h b c) b c e k (plus_has h b c), plus_count h b c e k))

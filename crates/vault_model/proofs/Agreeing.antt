-- The table agrees with the lists: what a half of a movement makes of the lists, it makes of the table.
use Rattle.std.specs.Prelude.{◌≡◌, ◌≢◌, ◌==◌, ◌+◌, ◌<◌, ℕ, zero, suc, ◌⊎◌, Bool, true, false, cond, List, [], ◌∷◌, ◌++◌, Some, length, map, slice_index_or, slice_set, unwrap_or, refl}
use Rattle.std.specs.Str.{bytes_eq}
use Rattle.std.proofs.lemmas.Slice.Eq.{bytes_eq-Decides}
use Rattle.std.proofs.Common.{inl, inr, sym, ◌∙◌, ap, subst, arith}
use Rattle.std.proofs.lemmas.Bool.{cases_eq, eq-eqb, ne_eqb}
use Rattle.rights_model.specs.amount_math.Content.{Content, Contains, Contains-refl, nothing, sum, difference, count-difference, count-nothing, nothing-sum, same_content}
use Rattle.rights_model.specs.amount_math.ValueView.{ValueView}
use Rattle.rights_model.specs.amount_math.declared.Amount.{Amount}
use Rattle.rights_model.specs.amount_math.declared.Kind.{Kind}
use Rattle.holders.specs.ertp_mint.Stocks.{empty_amount, no_amount}
use Rattle.holders.specs.PaymentViews.{PaymentView, live_payment, payment_view_at, spent_payment}
use Rattle.rights_model.specs.declared.Holder.{Holder}
use Rattle.rights_model.specs.declared.Holder.TheVariants.{Purse, Payment, Slot, Hand, Outside}
use Rattle.rights_model.specs.Place.{Place, place}
use Rattle.rights_model.specs.Table as table
use Rattle.rights_model.specs.Table.{Table, CanMove, holds, movement}
use Rattle.rights_model.proofs.TableLaws.{holds-given, holds-given_other, holds-taken, holds-taken_other, same_place, same_table, given_outside, taken_outside}
use Rattle.rights_model.specs.Tabulated.{IsCovered, at-tabulated}
use Rattle.vault_model.specs.Lists.{Lists, CanGive, CanTake, amount_of, given, less, more, purse_at, slot_of, taken, with_closed_seat, with_new_brand, with_new_purse, with_new_seat, with_new_slot}
use Rattle.vault_model.specs.Seats.{HasSlotOf, KeptSeat, amount_at, kept_seat_at, new_kept_seat, no_kept_seat, slot_at, with_slot, with_slots}
use Rattle.vault_model.proofs.SlotShares.{further, keyword_cases, none_of_emptied, seat_elsewhere, slot_elsewhere, slot_there}
use Rattle.proposals.specs.Shares.{amount_under, keyed_share}
use Rattle.proposals.specs.Slots.{emptied, slots_of}
use Rattle.proposals.specs.declared.allocations.Share.{Share}
use Rattle.proposals.specs.declared.offers.Proposal.{Proposal}
use Rattle.vault_model.specs.Tables.{Agrees, Right, content_in, hand_minus, hand_plus, in_brand, no_hand, numbered, right_in, right_on, seats_from, slots_from, table_of}
use Rattle.lemmas.proofs.ListEdits.{keeps, read_before, read_map, read_other, read_past, read_pushed, read_set}

of_brand : (r : Right) (b : ℕ) → r.brand ≡ b → in_brand r b ≡ r.content
of_brand r b e = ap (λ x. cond x r.content nothing) (eq-eqb r.brand b e)

of_other : (r : Right) (b : ℕ) → r.brand ≢ b → in_brand r b ≡ nothing
of_other r b apart = ap (λ x. cond x r.content nothing) (ne_eqb r.brand b apart)

none_either : (x : Bool) → cond x nothing nothing ≡ nothing
none_either true = refl
none_either false = refl

all_gone : (c : Content) → difference c c ≡ nothing
all_gone c = same_content _ _ (λ k. omega (arith, count-difference c c k, count-nothing k))

-- of two places of one holder the brands differ
other_brand : (h : Holder) (e b : ℕ) → place h e ≢ place h b → b ≢ e
other_brand h e b apart is = apart (ap (place h) (sym is))

-- a right of b, before and after, has nothing of another brand
nothing_of_other : (r x : Right) (b e : ℕ) → r.brand ≡ b → x.brand ≡ b → b ≢ e → in_brand x e ≡ in_brand r e
nothing_of_other r x b e brand also differs = of_other x e (λ y. differs (sym also ∙ y)) ∙ sym (of_other r e (λ y. differs (sym brand ∙ y)))

module _ (s : Lists) (hand : ℕ → Content) (b : ℕ) (w : ValueView) where
  abbrev purse_now : ℕ → Amount
  purse_now n = purse_at s.purses n

  -- a slot of the brand written with an amount of it: of no other place anything changes
  written_slot : (n : ℕ) (k : List ℕ) (x : Amount) → HasSlotOf s.seats n k → (slot_of s n k).brand ≡ b → x.brand ≡ b → (q : ℕ) (j : List ℕ) (e : ℕ) → place (Slot q j) e ≢ place (Slot n k) b
      → in_brand (right_in (slot_at (with_slot s.seats n k x) q j)) e ≡ in_brand (right_in (slot_at s.seats q j)) e
  written_slot n k x has brand also q j e apart = elim (cases_eq n q) [
    | inl same ↦ subst (λ y. place (Slot y j) e ≢ place (Slot n k) b → in_brand (right_in (slot_at (with_slot s.seats n k x) y j)) e ≡ in_brand (right_in (slot_at s.seats y j)) e) same (of_seat (keyword_cases j k)) apart
    | inr differs ↦ ap (λ (a : Amount). in_brand (right_in a) e) (seat_elsewhere s.seats n q k j x differs)
  ]
    where
      of_seat : (j ≡ k) ⊎ (j ≢ k) → place (Slot n j) e ≢ place (Slot n k) b → in_brand (right_in (slot_at (with_slot s.seats n k x) n j)) e ≡ in_brand (right_in (slot_at s.seats n j)) e
      of_seat (inl at) differs = subst (λ y. place (Slot n y) e ≢ place (Slot n k) b → in_brand (right_in (slot_at (with_slot s.seats n k x) n y)) e ≡ in_brand (right_in (slot_at s.seats n y)) e) (sym at)
          (λ other. ap (λ (a : Amount). in_brand (right_in a) e) (slot_there s.seats n k has x) ∙ nothing_of_other (right_in (slot_of s n k)) (right_in x) b e brand also (other_brand (Slot n k) e b other)) differs
      of_seat (inr elsewhere) differs = ap (λ (a : Amount). in_brand (right_in a) e) (slot_elsewhere s.seats n k has j x elsewhere)

  taken_here : (h : Holder) → CanTake s h b w → h ≢ Outside → content_in (taken s h b w) hand h b ≡ difference (content_in s hand h b) w.content
  taken_here (Purse n) can inside =
      ap (λ (a : Amount). in_brand (right_in a) b) (read_set s.purses n (less (purse_now n) w.content) no_amount can.made)
      ∙ of_brand (right_in (less (purse_now n) w.content)) b can.brand
      ∙ sym (ap (λ x. difference x w.content) (of_brand (right_in (purse_now n)) b can.brand))
  taken_here (Payment n) can inside =
      ap (λ (p : PaymentView). in_brand (right_on p) b) (read_set s.payments n (spent_payment b) (spent_payment 0) can.made)
      ∙ none_either (b == b)
      ∙ sym (ap (λ (p : PaymentView). difference (in_brand (right_on p) b) w.content) can.is ∙ ap (λ x. difference x w.content) (of_brand (right_on (live_payment (amount_of b w))) b refl) ∙ all_gone w.content)
  taken_here (Slot n k) can inside =
      ap (λ (a : Amount). in_brand (right_in a) b) (slot_there s.seats n k can.slot (less (slot_of s n k) w.content))
      ∙ of_brand (right_in (less (slot_of s n k) w.content)) b can.brand
      ∙ sym (ap (λ x. difference x w.content) (of_brand (right_in (slot_of s n k)) b can.brand))
  taken_here Hand can inside = absurd can
  taken_here Outside can inside = absurd (inside refl)

  taken_elsewhere : (h g : Holder) (e : ℕ) → CanTake s h b w → place g e ≢ place h b → content_in (taken s h b w) hand g e ≡ content_in s hand g e
  taken_elsewhere (Purse n) (Purse q) e can apart = elim (cases_eq n q) [
    | inl same ↦ subst (λ x. place (Purse x) e ≢ place (Purse n) b → content_in (taken s (Purse n) b w) hand (Purse x) e ≡ content_in s hand (Purse x) e) same
        (λ differs.
        ap (λ (a : Amount). in_brand (right_in a) e) (read_set s.purses n (less (purse_now n) w.content) no_amount can.made)
        ∙ nothing_of_other (right_in (purse_now n)) (right_in (less (purse_now n) w.content)) b e can.brand can.brand (other_brand (Purse n) e b differs))
        apart
    | inr differs ↦ ap (λ (a : Amount). in_brand (right_in a) e) (read_other s.purses n q (less (purse_now n) w.content) no_amount differs)
  ]
  taken_elsewhere (Purse n) (Payment q) e can apart = refl
  taken_elsewhere (Purse n) (Slot v j) e can apart = refl
  taken_elsewhere (Purse n) Hand e can apart = refl
  taken_elsewhere (Purse n) Outside e can apart = refl
  taken_elsewhere (Payment n) (Payment q) e can apart = elim (cases_eq n q) [
    | inl same ↦ subst (λ x. place (Payment x) e ≢ place (Payment n) b → content_in (taken s (Payment n) b w) hand (Payment x) e ≡ content_in s hand (Payment x) e) same
        (λ differs.
        ap (λ (p : PaymentView). in_brand (right_on p) e) (read_set s.payments n (spent_payment b) (spent_payment 0) can.made)
        ∙ nothing_of_other (right_on (payment_view_at s.payments n)) (right_on (spent_payment b)) b e (ap (λ (p : PaymentView). p.brand) can.is) refl (other_brand (Payment n) e b differs))
        apart
    | inr differs ↦ ap (λ (p : PaymentView). in_brand (right_on p) e) (read_other s.payments n q (spent_payment b) (spent_payment 0) differs)
  ]
  taken_elsewhere (Payment n) (Purse q) e can apart = refl
  taken_elsewhere (Payment n) (Slot v j) e can apart = refl
  taken_elsewhere (Payment n) Hand e can apart = refl
  taken_elsewhere (Payment n) Outside e can apart = refl
  taken_elsewhere (Slot n k) (Purse q) e can apart = refl
  taken_elsewhere (Slot n k) (Payment q) e can apart = refl
  taken_elsewhere (Slot n k) (Slot q j) e can apart = written_slot n k (less (slot_of s n k) w.content) can.slot can.brand can.brand q j e apart
  taken_elsewhere (Slot n k) Hand e can apart = refl
  taken_elsewhere (Slot n k) Outside e can apart = refl
  taken_elsewhere Hand g e can apart = absurd can
  taken_elsewhere Outside g e can apart = unread g e
    where
      unread : (g : Holder) (e : ℕ) → content_in (taken s Outside b w) hand g e ≡ content_in s hand g e
      unread (Purse q) e = refl
      unread (Payment q) e = refl
      unread (Slot v j) e = refl
      unread Hand e = refl
      unread Outside e = refl

  given_here : (h : Holder) → CanGive s h b w → h ≢ Outside → content_in (given s h b w) hand h b ≡ sum (content_in s hand h b) w.content
  given_here (Purse n) can inside =
      ap (λ (a : Amount). in_brand (right_in a) b) (read_set s.purses n (more (purse_now n) w.content) no_amount can.made)
      ∙ of_brand (right_in (more (purse_now n) w.content)) b can.meet.brand
      ∙ sym (ap (λ x. sum x w.content) (of_brand (right_in (purse_now n)) b can.meet.brand))
  given_here (Payment n) can inside =
      ap (λ (p : PaymentView). in_brand (right_on p) b) (read_pushed s.payments (live_payment (amount_of b w)) (spent_payment 0) n can)
      ∙ of_brand (right_on (live_payment (amount_of b w))) b refl
      ∙ sym (ap (λ (p : PaymentView). sum (in_brand (right_on p) b) w.content) (read_past s.payments (spent_payment 0) n (omega (arith, can))) ∙ ap (λ x. sum x w.content) (none_either (0 == b)) ∙ nothing-sum w.content)
  given_here (Slot n k) can inside =
      ap (λ (a : Amount). in_brand (right_in a) b) (slot_there s.seats n k can.slot (more (slot_of s n k) w.content))
      ∙ of_brand (right_in (more (slot_of s n k) w.content)) b can.meet.brand
      ∙ sym (ap (λ x. sum x w.content) (of_brand (right_in (slot_of s n k)) b can.meet.brand))
  given_here Hand can inside = absurd can
  given_here Outside can inside = absurd (inside refl)

  given_elsewhere : (h g : Holder) (e : ℕ) → CanGive s h b w → place g e ≢ place h b → content_in (given s h b w) hand g e ≡ content_in s hand g e
  given_elsewhere (Purse n) (Purse q) e can apart = elim (cases_eq n q) [
    | inl same ↦ subst (λ x. place (Purse x) e ≢ place (Purse n) b → content_in (given s (Purse n) b w) hand (Purse x) e ≡ content_in s hand (Purse x) e) same
        (λ differs.
        ap (λ (a : Amount). in_brand (right_in a) e) (read_set s.purses n (more (purse_now n) w.content) no_amount can.made)
        ∙ nothing_of_other (right_in (purse_now n)) (right_in (more (purse_now n) w.content)) b e can.meet.brand can.meet.brand (other_brand (Purse n) e b differs))
        apart
    | inr differs ↦ ap (λ (a : Amount). in_brand (right_in a) e) (read_other s.purses n q (more (purse_now n) w.content) no_amount differs)
  ]
  given_elsewhere (Purse n) (Payment q) e can apart = refl
  given_elsewhere (Purse n) (Slot v j) e can apart = refl
  given_elsewhere (Purse n) Hand e can apart = refl
  given_elsewhere (Purse n) Outside e can apart = refl
  given_elsewhere (Payment n) (Payment q) e can apart = elim (cases_eq n q) [
    | inl same ↦ subst (λ x. place (Payment x) e ≢ place (Payment n) b → content_in (given s (Payment n) b w) hand (Payment x) e ≡ content_in s hand (Payment x) e) same
        (λ differs.
        ap (λ (p : PaymentView). in_brand (right_on p) e) (read_pushed s.payments (live_payment (amount_of b w)) (spent_payment 0) n can)
        ∙ of_other (right_on (live_payment (amount_of b w))) e (other_brand (Payment n) e b differs)
        ∙ sym (ap (λ (p : PaymentView). in_brand (right_on p) e) (read_past s.payments (spent_payment 0) n (omega (arith, can))) ∙ none_either (0 == e)))
        apart
    | inr differs ↦ ap (λ (p : PaymentView). in_brand (right_on p) e) (read_before s.payments (live_payment (amount_of b w)) (spent_payment 0) q (λ at. differs (can ∙ at)))
  ]
  given_elsewhere (Payment n) (Purse q) e can apart = refl
  given_elsewhere (Payment n) (Slot v j) e can apart = refl
  given_elsewhere (Payment n) Hand e can apart = refl
  given_elsewhere (Payment n) Outside e can apart = refl
  given_elsewhere (Slot n k) (Purse q) e can apart = refl
  given_elsewhere (Slot n k) (Payment q) e can apart = refl
  given_elsewhere (Slot n k) (Slot q j) e can apart = written_slot n k (more (slot_of s n k) w.content) can.slot can.meet.brand can.meet.brand q j e apart
  given_elsewhere (Slot n k) Hand e can apart = refl
  given_elsewhere (Slot n k) Outside e can apart = refl
  given_elsewhere Hand g e can apart = absurd can
  given_elsewhere Outside g e can apart = unread g e
    where
      unread : (g : Holder) (e : ℕ) → content_in (given s Outside b w) hand g e ≡ content_in s hand g e
      unread (Purse q) e = refl
      unread (Payment q) e = refl
      unread (Slot v j) e = refl
      unread Hand e = refl
      unread Outside e = refl

is_or_not : (h : Holder) → (h ≡ Outside) ⊎ (h ≢ Outside)
is_or_not Outside = inl refl
is_or_not (Purse n) = inr (λ e. cc)
is_or_not (Payment n) = inr (λ e. cc)
is_or_not (Slot v j) = inr (λ e. cc)
is_or_not Hand = inr (λ e. cc)

module _ (s : Lists) (hand : ℕ → Content) (t : Table) (b : ℕ) (w : ValueView) (is : Agrees s hand t) where
  abbrev c : Content
  c = w.content

  pub agrees_taken : (h : Holder) → CanTake s h b w → Agrees (taken s h b w) hand (table.taken t h b c)
  agrees_taken h can = elim (is_or_not h) [
    | inl outside ↦ subst (λ x. CanTake s x b w → Agrees (taken s x b w) hand (table.taken t x b c)) (sym outside)
        (λ may. record { each = λ g e. ap (λ u. holds u g e) (taken_outside t b c) ∙ is.each g e ∙ sym (unread g e) }) can
    | inr inside ↦ record {
      each = λ g e. elim (same_place g h e b) [
        | inl at ↦ subst (λ (p : Place). holds (table.taken t h b c) p.0 p.1 ≡ content_in (taken s h b w) hand p.0 p.1) (sym at)
            (holds-taken t b c h inside ∙ ap (λ x. difference x c) (is.each h b) ∙ sym (taken_here s hand b w h can inside))
        | inr apart ↦ holds-taken_other t b c h g e apart ∙ is.each g e ∙ sym (taken_elsewhere s hand b w h g e can apart)
      ];
    }
  ]
    where
      unread : (g : Holder) (e : ℕ) → content_in (taken s Outside b w) hand g e ≡ content_in s hand g e
      unread (Purse q) e = refl
      unread (Payment q) e = refl
      unread (Slot v j) e = refl
      unread Hand e = refl
      unread Outside e = refl

  pub agrees_given : (h : Holder) → CanGive s h b w → Agrees (given s h b w) hand (table.given t h b c)
  agrees_given h can = elim (is_or_not h) [
    | inl outside ↦ subst (λ x. CanGive s x b w → Agrees (given s x b w) hand (table.given t x b c)) (sym outside)
        (λ may. record { each = λ g e. ap (λ u. holds u g e) (given_outside t b c) ∙ is.each g e ∙ sym (unread g e) }) can
    | inr inside ↦ record {
      each = λ g e. elim (same_place g h e b) [
        | inl at ↦ subst (λ (p : Place). holds (table.given t h b c) p.0 p.1 ≡ content_in (given s h b w) hand p.0 p.1) (sym at)
            (holds-given t b c h inside ∙ ap (λ x. sum x c) (is.each h b) ∙ sym (given_here s hand b w h can inside))
        | inr apart ↦ holds-given_other t b c h g e apart ∙ is.each g e ∙ sym (given_elsewhere s hand b w h g e can apart)
      ];
    }
  ]
    where
      unread : (g : Holder) (e : ℕ) → content_in (given s Outside b w) hand g e ≡ content_in s hand g e
      unread (Purse q) e = refl
      unread (Payment q) e = refl
      unread (Slot v j) e = refl
      unread Hand e = refl
      unread Outside e = refl

  -- the hand with more, and with less
  elsewhere_plus : (g : Holder) (e : ℕ) → place g e ≢ place Hand b → content_in s (hand_plus hand b c) g e ≡ content_in s hand g e
  elsewhere_plus (Purse q) e apart = refl
  elsewhere_plus (Payment q) e apart = refl
  elsewhere_plus (Slot v j) e apart = refl
  elsewhere_plus Hand e apart = ap (λ y. cond y (sum (hand e) c) (hand e)) (ne_eqb b e (other_brand Hand e b apart))
  elsewhere_plus Outside e apart = refl

  elsewhere_minus : (g : Holder) (e : ℕ) → place g e ≢ place Hand b → content_in s (hand_minus hand b c) g e ≡ content_in s hand g e
  elsewhere_minus (Purse q) e apart = refl
  elsewhere_minus (Payment q) e apart = refl
  elsewhere_minus (Slot v j) e apart = refl
  elsewhere_minus Hand e apart = ap (λ y. cond y (difference (hand e) c) (hand e)) (ne_eqb b e (other_brand Hand e b apart))
  elsewhere_minus Outside e apart = refl

  pub agrees_in_hand : Agrees s (hand_plus hand b c) (table.given t Hand b c)
  agrees_in_hand = record {
    each = λ g e. elim (same_place g Hand e b) [
      | inl at ↦ subst (λ (p : Place). holds (table.given t Hand b c) p.0 p.1 ≡ content_in s (hand_plus hand b c) p.0 p.1) (sym at)
          (holds-given t b c Hand (λ x. cc) ∙ ap (λ x. sum x c) (is.each Hand b) ∙ ap (λ y. cond y (sum (hand b) c) (hand b)) (sym (eq-eqb b b refl)))
      | inr apart ↦ holds-given_other t b c Hand g e apart ∙ is.each g e ∙ sym (elsewhere_plus g e apart)
    ];
  }

  pub agrees_from_hand : Agrees s (hand_minus hand b c) (table.taken t Hand b c)
  agrees_from_hand = record {
    each = λ g e. elim (same_place g Hand e b) [
      | inl at ↦ subst (λ (p : Place). holds (table.taken t Hand b c) p.0 p.1 ≡ content_in s (hand_minus hand b c) p.0 p.1) (sym at)
          (holds-taken t b c Hand (λ x. cc) ∙ ap (λ x. difference x c) (is.each Hand b) ∙ ap (λ y. cond y (difference (hand b) c) (hand b)) (sym (eq-eqb b b refl)))
      | inr apart ↦ holds-taken_other t b c Hand g e apart ∙ is.each g e ∙ sym (elsewhere_minus g e apart)
    ];
  }

  -- and the movement can be made on the table
  pub can_move_in : (h : Holder) → CanTake s h b w → (to : Holder) → CanMove t (movement b h to w)
  can_move_in h can to = record { has = λ inside. subst (λ (x : Content). Contains x c) (sym (is.each h b)) (there h can inside) }
    where
      there : (h : Holder) → CanTake s h b w → h ≢ Outside → Contains (content_in s hand h b) c
      there (Purse n) can inside = subst (λ (x : Content). Contains x c) (sym (of_brand (right_in (purse_at s.purses n)) b can.brand)) can.has
      there (Payment n) can inside = subst (λ (p : PaymentView). Contains (in_brand (right_on p) b) c) (sym can.is) (subst (λ (x : Content). Contains x c) (sym (of_brand (right_on (live_payment (amount_of b w))) b refl)) (Contains-refl c))
      there (Slot n k) can inside = subst (λ (x : Content). Contains x c) (sym (of_brand (right_in (slot_of s n k)) b can.brand)) can.has
      there Hand can inside = absurd can
      there Outside can inside = absurd (inside refl)

  pub can_move_out : Contains (hand b) c → (to : Holder) → CanMove t (movement b Hand to w)
  can_move_out has to = record { has = λ inside. subst (λ (x : Content). Contains x c) (sym (is.each Hand b)) has }

-- ---- openings

pub agrees_new_purse : (s : Lists) (hand : ℕ → Content) (t : Table) (b : ℕ) (kind : Kind) → Agrees s hand t → Agrees (with_new_purse s b kind) hand t
agrees_new_purse s hand t b kind is = record { each = λ g e. is.each g e ∙ sym (same g e) }
  where
    same : (g : Holder) (e : ℕ) → content_in (with_new_purse s b kind) hand g e ≡ content_in s hand g e
    same (Purse q) e = elim (cases_eq (length s.purses) q) [
      | inl at ↦
          ap (λ (a : Amount). in_brand (right_in a) e) (read_pushed s.purses _ no_amount q (sym at)) ∙ none_either (b == e)
          ∙ sym (ap (λ (a : Amount). in_brand (right_in a) e) (read_past s.purses no_amount q (omega (arith, at))) ∙ none_either (0 == e))
      | inr apart ↦ ap (λ (a : Amount). in_brand (right_in a) e) (read_before s.purses _ no_amount q apart)
    ]
    same (Payment q) e = refl
    same (Slot v j) e = refl
    same Hand e = refl
    same Outside e = refl

pub agrees_new_brand : (s : Lists) (hand : ℕ → Content) (t : Table) (kind : Kind) → Agrees s hand t → Agrees (with_new_brand s kind) hand t
agrees_new_brand s hand t kind is = record { each = λ g e. is.each g e ∙ sym (same g e) }
  where
    same : (g : Holder) (e : ℕ) → content_in (with_new_brand s kind) hand g e ≡ content_in s hand g e
    same (Purse q) e = refl
    same (Payment q) e = refl
    same (Slot v j) e = refl
    same Hand e = refl
    same Outside e = refl

-- other seats, whose slots show the same
pub agrees_seated : (s : Lists) (hand : ℕ → Content) (t : Table) (l : List KeptSeat) (owed : ℕ) → ((q : ℕ) (j : List ℕ) (e : ℕ) → in_brand (right_in (slot_at l q j)) e ≡ in_brand (right_in (slot_at s.seats q j)) e) → Agrees s hand t → Agrees (record s { seats = l; owed = owed }) hand t
agrees_seated s hand t l owed alike is = record { each = λ g e. is.each g e ∙ sym (same g e) }
  where
    same : (g : Holder) (e : ℕ) → content_in (record s { seats = l; owed = owed }) hand g e ≡ content_in s hand g e
    same (Purse q) e = refl
    same (Payment q) e = refl
    same (Slot v j) e = alike v j e
    same Hand e = refl
    same Outside e = refl

nothing_in : (a : Amount) (e : ℕ) → a.value.content ≡ nothing → in_brand (right_in a) e ≡ nothing
nothing_in a e none = ap (λ x. cond (a.brand == e) x nothing) none ∙ none_either (a.brand == e)

pub agrees_new_seat : (s : Lists) (hand : ℕ → Content) (t : Table) (instance : ℕ) (proposal : Proposal) → Agrees s hand t → Agrees (with_new_seat s instance proposal) hand t
agrees_new_seat s hand t instance proposal is = agrees_seated s hand t (s.seats ++ new_kept_seat instance proposal ∷ []) _ alike is
  where
    alike : (q : ℕ) (j : List ℕ) (e : ℕ) → in_brand (right_in (slot_at (s.seats ++ new_kept_seat instance proposal ∷ []) q j)) e ≡ in_brand (right_in (slot_at s.seats q j)) e
    alike q j e = elim (cases_eq (length s.seats) q) [
      | inl at ↦
          ap (λ (x : KeptSeat). in_brand (right_in (amount_at j x.slots)) e) (read_pushed s.seats (new_kept_seat instance proposal) no_kept_seat q (sym at)) ∙ nothing_in (amount_at j (map emptied (slots_of proposal))) e (none_of_emptied j (slots_of proposal))
          ∙ sym (ap (λ (x : KeptSeat). in_brand (right_in (amount_at j x.slots)) e) (read_past s.seats no_kept_seat q (omega (arith, at))) ∙ none_either (0 == e))
      | inr apart ↦ ap (λ (x : KeptSeat). in_brand (right_in (amount_at j x.slots)) e) (read_before s.seats (new_kept_seat instance proposal) no_kept_seat q apart)
    ]

module _ (s : Lists) (n : ℕ) (keyword : List ℕ) (b : ℕ) (kind : Kind) where
  abbrev seat : KeptSeat
  seat = kept_seat_at s.seats n

  abbrev longer : KeptSeat
  longer = with_slots seat (seat.slots ++ keyed_share keyword (empty_amount b kind) ∷ [])

  of_seat : (j : List ℕ) (e : ℕ) → in_brand (right_in (amount_at j longer.slots)) e ≡ in_brand (right_in (amount_at j seat.slots)) e
  of_seat j e = further (λ (a : Amount). in_brand (right_in a) e ≡ in_brand (right_in (amount_at j seat.slots)) e) j (keyed_share keyword (empty_amount b kind)) seat.slots (λ same. none_either (b == e) ∙ sym (none_either (0 == e)) ∙ same) refl

  longer_alike : n < length s.seats → (q : ℕ) (j : List ℕ) (e : ℕ) → in_brand (right_in (slot_at (slice_set s.seats n longer) q j)) e ≡ in_brand (right_in (slot_at s.seats q j)) e
  longer_alike made q j e = elim (cases_eq n q) [
    | inl at ↦ subst (λ y. in_brand (right_in (slot_at (slice_set s.seats n longer) y j)) e ≡ in_brand (right_in (slot_at s.seats y j)) e) at (ap (λ (x : KeptSeat). in_brand (right_in (amount_at j x.slots)) e) (read_set s.seats n longer no_kept_seat made) ∙ of_seat j e)
    | inr apart ↦ ap (λ (x : KeptSeat). in_brand (right_in (amount_at j x.slots)) e) (read_other s.seats n q longer no_kept_seat apart)
  ]

  pub agrees_new_slot : (hand : ℕ → Content) (t : Table) → n < length s.seats → Agrees s hand t → Agrees (with_new_slot s n keyword b kind) hand t
  agrees_new_slot hand t made is = agrees_seated s hand t (slice_set s.seats n longer) _ (longer_alike made) is

pub agrees_closed : (s : Lists) (hand : ℕ → Content) (t : Table) (n : ℕ) → Agrees s hand t → Agrees (with_closed_seat s n) hand t
agrees_closed s hand t n is = agrees_seated s hand t (slice_set s.seats n (record (kept_seat_at s.seats n) { last = Some (kept_seat_at s.seats n).slots })) _
    (λ q j e. ap (λ l. in_brand (right_in (amount_at j l)) e) (keeps (λ (x : KeptSeat). x.slots) s.seats n (record (kept_seat_at s.seats n) { last = Some (kept_seat_at s.seats n).slots }) no_kept_seat refl q)) is

-- what the hand has is told by its contents
pub agrees_alike : (s : Lists) (h g : ℕ → Content) (t : Table) → ((e : ℕ) → h e ≡ g e) → Agrees s h t → Agrees s g t
agrees_alike s h g t alike is = record { each = λ x e. is.each x e ∙ same x e }
  where
    same : (x : Holder) (e : ℕ) → content_in s h x e ≡ content_in s g x e
    same (Purse q) e = refl
    same (Payment q) e = refl
    same (Slot v j) e = refl
    same Hand e = alike e
    same Outside e = refl

-- lists and a hand have one table
pub one_table : (s : Lists) (hand : ℕ → Content) (t u : Table) → Agrees s hand t → Agrees s hand u → t ≡ u
one_table s hand t u is also = same_table t u (λ h e. is.each h e ∙ sym (also.each h e))

-- ---- the table of lists

module _ (f : Place → Content) where
  pub none_covered : (ps : List Place) (q : Place) → f q ≡ nothing → IsCovered f ps q
  none_covered [] q none = none
  none_covered (p ∷ ps) q none = inr (none_covered ps q none)

  pub covered_left : (ps qs : List Place) (q : Place) → IsCovered f ps q → IsCovered f (ps ++ qs) q
  covered_left [] qs q is = none_covered qs q is
  covered_left (p ∷ ps) qs q is = elim is [
    | inl here ↦ inl here
    | inr rest ↦ inr (covered_left ps qs q rest)
  ]

  pub covered_right : (ps qs : List Place) (q : Place) → IsCovered f qs q → IsCovered f (ps ++ qs) q
  covered_right [] qs q is = is
  covered_right (p ∷ ps) qs q is = inr (covered_right ps qs q is)

  pub covered_numbered : (who : ℕ → Holder) (n : ℕ) (l : List Right) (q j e : ℕ) (d : Right) → d.content ≡ nothing → j ≡ n + q → f (place (who j) e) ≡ in_brand (slice_index_or l q d) e → IsCovered f (numbered who n l) (place (who j) e)
  covered_numbered who n [] q j e d none at is = is ∙ ap (λ x. cond (d.brand == e) x nothing) none ∙ none_either (d.brand == e)
  covered_numbered who n (r ∷ rs) zero j e d none at is = elim (cases_eq r.brand e) [
    | inl same ↦ inl (ap (λ x. place (who x) e) (at ∙ (omega arith)) ∙ ap (place (who n)) (sym same))
    | inr differs ↦ inr (none_covered (numbered who (suc n) rs) (place (who j) e) (is ∙ of_other r e differs))
  ]
  covered_numbered who n (r ∷ rs) (suc q) j e d none at is = inr (covered_numbered who (suc n) rs q j e d none (omega arith) is)

  covered_shares : (n : ℕ) (shares : List Share) (j : List ℕ) (e : ℕ) → f (place (Slot n j) e) ≡ in_brand (right_in (amount_at j shares)) e → IsCovered f (slots_from n shares) (place (Slot n j) e)
  covered_shares n [] j e is = is ∙ none_either (0 == e)
  covered_shares n (r ∷ rs) j e is = by (bytes_eq j r.keyword) refl (covered_shares n rs j e) is
    where
      by : (t : Bool) → bytes_eq j r.keyword ≡ t → (f (place (Slot n j) e) ≡ in_brand (right_in (amount_at j rs)) e → IsCovered f (slots_from n rs) (place (Slot n j) e))
          → f (place (Slot n j) e) ≡ in_brand (right_in (unwrap_or (cond t (Some r.amount) (amount_under j rs)) no_amount)) e → IsCovered f ((Slot n r.keyword, r.amount.brand) ∷ slots_from n rs) (place (Slot n j) e)
      by true same later here = elim (cases_eq r.amount.brand e) [
        | inl at ↦ inl (ap (λ x. place (Slot n x) e) ((bytes_eq-Decides j r.keyword).0 same) ∙ ap (place (Slot n r.keyword)) (sym at))
        | inr differs ↦ inr (none_covered (slots_from n rs) (place (Slot n j) e) (here ∙ of_other (right_in r.amount) e differs))
      ]
      by false same later here = inr (later here)

  covered_seats : (m : ℕ) (l : List KeptSeat) (q v : ℕ) (j : List ℕ) (e : ℕ) → v ≡ m + q → f (place (Slot v j) e) ≡ in_brand (right_in (slot_at l q j)) e → IsCovered f (seats_from m l) (place (Slot v j) e)
  covered_seats m [] q v j e at is = is ∙ none_either (0 == e)
  covered_seats m (x ∷ xs) zero v j e at is = covered_left (slots_from m x.slots) (seats_from (suc m) xs) (place (Slot v j) e) (subst (λ y. IsCovered f (slots_from y x.slots) (place (Slot v j) e)) (at ∙ (omega arith)) (covered_shares v x.slots j e is))
  covered_seats m (x ∷ xs) (suc q) v j e at is = covered_right (slots_from m x.slots) (seats_from (suc m) xs) (place (Slot v j) e) (covered_seats (suc m) xs q v j e (omega (arith, at)) is)

module _ (s : Lists) where
  abbrev f : Place → Content
  f p = content_in s no_hand p.0 p.1

  abbrev first : List Place
  first = numbered Purse 0 (map right_in s.purses)

  abbrev second : List Place
  second = numbered Payment 0 (map right_on s.payments)

  abbrev both : List Place
  both = first ++ second

  abbrev third : List Place
  third = seats_from 0 s.seats

  pub table_agrees : Agrees s no_hand (table_of s)
  unfolding table_of
  table_agrees = record { each = λ h e. at-tabulated f (both ++ third) (place h e) (covered h e) }
    where
      covered : (h : Holder) (e : ℕ) → IsCovered f (both ++ third) (place h e)
      covered (Purse q) e = covered_left f both third (place (Purse q) e) (covered_left f first second (place (Purse q) e)
          (covered_numbered f Purse 0 (map right_in s.purses) q q e (right_in no_amount) refl (omega arith) (ap (λ (r : Right). in_brand r e) (sym (read_map right_in s.purses q no_amount)))))
      covered (Payment q) e = covered_left f both third (place (Payment q) e) (covered_right f first second (place (Payment q) e)
          (covered_numbered f Payment 0 (map right_on s.payments) q q e (right_on (spent_payment 0)) refl (omega arith) (ap (λ (r : Right). in_brand r e) (sym (read_map right_on s.payments q (spent_payment 0))))))
      covered (Slot v j) e = covered_right f both third (place (Slot v j) e) (covered_seats f 0 s.seats v v j e (omega arith) refl)
      covered Hand e = none_covered f (both ++ third) (place Hand e) refl
      covered Outside e = none_covered f (both ++ third) (place Outside e) refl

-- Movements are acts, one after another.
use Rattle.std.specs.Prelude.{◌≡◌, ◌==◌, ◌+◌, ◌<◌, ◌≤◌, ◌||◌, ℕ, zero, suc, Bool, true, false, cond, List, [], ◌∷◌, ◌++◌, Option, Some, None, IfSome, IsSomeAnd, length, map, slice_index_or, slice_set, refl}
use Rattle.std.specs.List.{AllByRecursion}
use Rattle.std.specs.Option.{option_map, option_map_or}
use Rattle.std.specs.Str.{bytes_eq}
use Rattle.std.proofs.Common.{inl, inr, sym, ◌∙◌, ap, subst, arith}
use Rattle.std.proofs.lemmas.Bool.{cases_eq, eq-eqb, ne_eqb}
use Rattle.fair_rows.specs.amount_math.Amount.{holding}
use Rattle.fair_rows.specs.amount_math.Content.{Content, Contains, count-nothing, count-sum, nothing, same_content, sum}
use Rattle.fair_rows.specs.amount_math.KindLaws.{nothing_is_value, value_of_part}
use Rattle.fair_rows.specs.amount_math.ValueView.{IsValue, ValueView}
use Rattle.fair_rows.specs.amount_math.declared.Amount.{Amount}
use Rattle.delivery_laws.specs.ertp_mint.Stocks.{no_amount}
use Rattle.delivery_laws.proofs.lemmas.ListEdits.{length_push, length_set}
use Rattle.delivery_laws.specs.holders.PaymentViews.{PaymentView, live_payment, payment_view_at, spent_payment}
use Rattle.delivery_laws.specs.proposals.Shares.{amount_under}
use Rattle.delivery_laws.specs.proposals.declared.allocations.Share.{Share}
use Rattle.fair_rows.specs.rights_model.Table as table
use Rattle.fair_rows.specs.rights_model.Table.{Table, table_after}
use Rattle.fair_rows.specs.rights_model.declared.Holder.{Holder}
use Rattle.fair_rows.specs.rights_model.declared.Holder.TheVariants.{Purse, Payment, Slot, Hand, Outside}
use Rattle.fair_rows.specs.rights_model.declared.Movement.{Movement}
use Rattle.delivery_laws.specs.vault_model.Lists.{amount_of, less, purse_at}
use Rattle.delivery_laws.proofs.vault_model.SlotShares.{keyword_cases}
use Rattle.delivery_laws.specs.turn_records.Printed.{printed_move}
use Rattle.fair_rows.specs.turn_rows.Turns.{Event, moved as moved_row, Turn}
use Rattle.fair_rows.specs.Acts.{Act, AreActs, CanMoveHere, IsAct, Place, after_move, place_after, rows_of_acts}
use Rattle.fair_rows.specs.ExitCauses.{Owners}
use Rattle.fair_rows.specs.Movements.{is_payment_at}
use Rattle.fair_rows.specs.Rows.{IsOpenSlot}
use Rattle.fair_rows.specs.Seats.{IsOpen as IsOpenTold}
use Rattle.fair_rows.proofs.Acts.{singles_are_acts}
use Rattle.delivery_laws.proofs.world_laws.Instances.{open_made}
use Rattle.delivery_laws.proofs.world_laws.Lists.{all_read, all_read_or}
use Rattle.delivery_laws.proofs.world_laws.Valued.{given_valued, taken_valued}
use Rattle.delivery_laws.specs.world_state.Good.{AreSharesValued, AreValues, IsAmountValued, IsAtOpen, IsGoodMove, IsPaymentValued, IsValued}
use Rattle.delivery_laws.specs.world_state.Rights.{CanGive, CanMove, CanMoveAll, CanTake, Has, HasOrOpens, IsNextOr, IsNothing, IsPaymentWith, PaymentMore, Rights, Takes, TakesOrOpens, all_moved, all_spent, given, hand_after, moved, paid, lessened_payment, paid_payment, shares_less, slots_at, spent_from, taken}
use Rattle.delivery_laws.specs.world_state.Worlds.{IsOpen, Seat, no_seat, seat_at}
use Rattle.delivery_laws.proofs.world_laws.Changes.{under_other, under_with}
use Rattle.fair_laws.specs.Places.{seat_told, seats_from}
use Rattle.delivery_laws.specs.rules.Licence.{IsStore, IsStored}
use Rattle.fair_laws.proofs.EffectSeats.{brand_told, seat_read, told_brand, told_moved}
use Rattle.fair_laws.proofs.Values as values

-- ---- what is moved is a value

module _ (r : Rights) (v : AreValues r) (b : ℕ) (w : ValueView) where
  part_of : (a : Amount) → Has a b w → IsAmountValued a → IsValued w
  part_of a has is = subst (λ k. IsValue k w.content) has.kind (value_of_part a.value.kind a.value.content w.content has.has is)

  in_sum : (c d : Content) → Contains (sum c d) d
  in_sum c d = record { each = λ k. omega (arith, count-sum c d k) }

  summand : (a : Amount) → Takes a b w → IsValued w
  summand a takes = value_of_part w.kind (sum a.value.content w.content) w.content (in_sum a.value.content w.content) takes.value

  of_payment_view : (p : PaymentView) → IsPaymentWith p (λ a. Has a b w) → IsPaymentValued p → IsValued w
  of_payment_view p has is = by p.held has is
    where
      by : (o : Option ValueView) → IsSomeAnd o (λ held. Has (amount_of p.brand held) b w) → IfSome o IsValued → IsValued w
      by None h k = absurd h
      by (Some x) h k = part_of (amount_of p.brand x) h k

  to_payment_view : (p : PaymentView) → IsPaymentWith p (λ a. Takes a b w) → IsValued w
  to_payment_view p has = by p.held has
    where
      by : (o : Option ValueView) → IsSomeAnd o (λ held. Takes (amount_of p.brand held) b w) → IsValued w
      by None h = absurd h
      by (Some x) h = summand (amount_of p.brand x) h

  under_valued : (k : List ℕ) (rs : List Share) → AreSharesValued rs → IfSome (amount_under k rs) IsAmountValued
  under_valued k [] all = tt
  under_valued k (x ∷ xs) all = by (bytes_eq k x.keyword) (under_valued k xs all.1)
    where
      by : (t : Bool) → IfSome (amount_under k xs) IsAmountValued → IfSome (cond t (Some x.amount) (amount_under k xs)) IsAmountValued
      by true later = all.0
      by false later = later

  nothing_valued : IsNothing w.content → IsValued w
  nothing_valued none = subst (λ c. IsValue w.kind c) (sym (same_content w.content nothing (λ k. none.each k ∙ sym (count-nothing k)))) (nothing_is_value w.kind)

  from_valued : (hand : ℕ → Content) (h : Holder) → IsStore h → CanTake r hand h b w → IsValued w
  from_valued hand (Purse n) is can = part_of (purse_at r.purses n) can.has (all_read IsAmountValued r.purses n no_amount v.purses can.made)
  from_valued hand (Payment n) is can = of_payment_view (payment_view_at r.payments n) can.has (all_read IsPaymentValued r.payments n (spent_payment 0) v.payments can.made)
  from_valued hand (Slot s k) is can = by (amount_under k (slots_at r.slots s)) can.has (under_valued k (slots_at r.slots s) (all_read_or AreSharesValued r.slots s [] v.slots tt))
    where
      by : (o : Option Amount) → HasOrOpens o (slots_at r.slots s) b w → IfSome o IsAmountValued → IsValued w
      by None h k = nothing_valued h.0
      by (Some a) h k = part_of a h k
  from_valued hand Hand is can = absurd is
  from_valued hand Outside is can = absurd is

to_valued : (r : Rights) (v : AreValues r) (b : ℕ) (w : ValueView) (h : Holder) → IsStore h → CanGive r h b w → IsValued w
to_valued r v b w (Purse n) is can = summand r v b w (purse_at r.purses n) can.takes
to_valued r v b w (Payment n) is can = by (n == length r.payments) can
  where
    by : (t : Bool) → IsNextOr t r n b w → IsValued w
    by true h = h
    by false h = to_payment_view r v b w (payment_view_at r.payments n) h.takes
to_valued r v b w (Slot s k) is can = by (amount_under k (slots_at r.slots s)) can.takes
  where
    by : (o : Option Amount) → TakesOrOpens o (slots_at r.slots s) b w → IsValued w
    by None h = h.0
    by (Some a) h = summand r v b w a h
to_valued r v b w Hand is can = absurd is
to_valued r v b w Outside is can = absurd is

pub movement_valued : (r : Rights) (hand : ℕ → Content) (m : Movement) → CanMove r hand m → AreValues r → IsStored m → IsValued m.value
movement_valued r hand m can v is = elim is [
  | inl from ↦ from_valued r v m.brand m.value hand m.from from can.from
  | inr to ↦ to_valued (taken r m.from m.brand m.value) (taken_valued r m.from m.brand m.value v) m.brand m.value m.to to can.to
]

pub moved_valued : (r : Rights) (hand : ℕ → Content) (m : Movement) → CanMove r hand m → AreValues r → AreValues (moved r m)
moved_valued r hand m can v = given_valued (taken r m.from m.brand m.value) m.to m.brand m.value can.to (taken_valued r m.from m.brand m.value v)

-- ---- slots of open seats

-- a property of what is written, and of what was read, is one of what is read then
read_at : {X : Type 0} (P : X → Type 0) (xs : List X) (n q : ℕ) (x d : X) → (n ≡ q → P x) → P (slice_index_or xs q d) → P (slice_index_or (slice_set xs n x) q d)
read_at P [] n q x d new old = old
read_at P (y ∷ ys) zero zero x d new old = new refl
read_at P (y ∷ ys) zero (suc q) x d new old = old
read_at P (y ∷ ys) (suc n) zero x d new old = old
read_at P (y ∷ ys) (suc n) (suc q) x d new old = read_at P ys n q x d (λ e. new (ap suc e)) old

abbrev HasBrand : List ℕ → ℕ → List Share → Type 0
HasBrand k b rs = told_brand (amount_under k rs) ≡ Some b

-- a slot keeps its brand where something is taken
less_keeps : (j k : List ℕ) (b : ℕ) (a : Amount) (rs : List Share) → HasBrand k b rs → HasBrand k b (shares_less j a rs)
less_keeps j k b a rs is = elim (keyword_cases k j) [
  | inl same ↦ subst (λ (y : List ℕ). HasBrand y b rs → HasBrand y b (shares_less j a rs)) (sym same)
      (λ has. ap told_brand (under_with j (λ had. less had a.value.content) (holding a nothing) rs) ∙ by (amount_under j rs) has) is
  | inr apart ↦ ap told_brand (under_other j (λ had. less had a.value.content) (holding a nothing) k apart rs) ∙ is
]
  where
    by : (o : Option Amount) → told_brand o ≡ Some b → told_brand (Some (option_map_or (λ had. less had a.value.content) o (holding a nothing))) ≡ Some b
    by None h = absurd cc
    by (Some x) h = h

brand_stays : (r : Rights) (h : Holder) (e : ℕ) (w : ValueView) (s : ℕ) (k : List ℕ) (b : ℕ) → HasBrand k b (slots_at r.slots s) → HasBrand k b (slots_at (taken r h e w).slots s)
brand_stays r (Slot q j) e w s k b is =
    read_at (HasBrand k b) r.slots q s (shares_less j (amount_of e w) (slots_at r.slots q)) []
    (λ at. less_keeps j k b (amount_of e w) (slots_at r.slots q) (subst (λ (y : ℕ). HasBrand k b (slots_at r.slots y)) (sym at) is)) is
brand_stays r (Purse n) e w s k b is = is
brand_stays r (Payment n) e w s k b is = is
brand_stays r Hand e w s k b is = is
brand_stays r Outside e w s k b is = is

module _ (ss : List Seat) (r : Rights) (as_many : length r.slots ≡ length ss) where
  -- an open seat is told so
  abbrev pub open_told : (s : ℕ) → IsOpen (seat_at ss s) → IsOpenTold (seats_from 0 ss r.slots) s
  open_told s is = record {
    seat = seat_told s (seat_at ss s) (slots_at r.slots s);
    was_opened = seat_read 0 s ss r.slots no_seat (open_made ss s is) as_many ∙ ap (λ n. Some (seat_told n (seat_at ss s) (slots_at r.slots s))) (let e : 0 + s ≡ s = omega arith in e);
    stays = ap (option_map (map (λ (x : Share). x.amount.value.content))) is;
  }

  from_open : (hand : ℕ → Content) (h : Holder) (b : ℕ) (w : ValueView) → IsAtOpen ss h → CanTake r hand h b w → (s : ℕ) (k : List ℕ) → h ≡ Slot s k → IsOpenSlot (seats_from 0 ss r.slots) s k b
  from_open hand h b w is can s k at = at_slot (subst (IsAtOpen ss) at is) (subst (λ x. CanTake r hand x b w) at can)
    where
      at_slot : IsOpen (seat_at ss s) → CanTake r hand (Slot s k) b w → IsOpenSlot (seats_from 0 ss r.slots) s k b
      at_slot opened takes = record {
        is_open = open_told s opened;
        of_brand = λ e told. by (amount_under k (slots_at r.slots s)) takes.has e (sym (brand_told k (slots_at r.slots s)) ∙ told);
      }
        where
          by : (o : Option Amount) → HasOrOpens o (slots_at r.slots s) b w → (e : ℕ) → told_brand o ≡ Some e → e ≡ b
          by None h e told = absurd cc
          by (Some a) h e told = let brand : a.brand ≡ b = h.brand in cc

  to_open : (q : Holder) (h : Holder) (b : ℕ) (w : ValueView) → IsAtOpen ss h → CanGive (taken r q b w) h b w → (s : ℕ) (k : List ℕ) → h ≡ Slot s k → IsOpenSlot (seats_from 0 ss r.slots) s k b
  to_open q h b w is can s k at = at_slot (subst (IsAtOpen ss) at is) (subst (λ x. CanGive (taken r q b w) x b w) at can)
    where
      at_slot : IsOpen (seat_at ss s) → CanGive (taken r q b w) (Slot s k) b w → IsOpenSlot (seats_from 0 ss r.slots) s k b
      at_slot opened gives = record {
        is_open = open_told s opened;
        of_brand = λ e told. by (amount_under k (slots_at (taken r q b w).slots s)) gives.takes e (brand_stays r q b w s k e (sym (brand_told k (slots_at r.slots s)) ∙ told));
      }
        where
          by : (o : Option Amount) → TakesOrOpens o (slots_at (taken r q b w).slots s) b w → (e : ℕ) → told_brand o ≡ Some e → e ≡ b
          by None h e told = absurd cc
          by (Some a) h e told = let brand : a.brand ≡ b = h.brand in cc

-- ---- payments

pub taken_as_many : (r : Rights) (h : Holder) (b : ℕ) (w : ValueView) → length (taken r h b w).payments ≡ length r.payments
taken_as_many r (Payment n) b w = length_set r.payments n (lessened_payment (payment_view_at r.payments n) w.content)
taken_as_many r (Purse n) b w = refl
taken_as_many r (Slot s k) b w = refl
taken_as_many r Hand b w = refl
taken_as_many r Outside b w = refl

taken_slots : (r : Rights) (h : Holder) (b : ℕ) (w : ValueView) → length (taken r h b w).slots ≡ length r.slots
taken_slots r (Slot s k) b w = length_set r.slots s (shares_less k (amount_of b w) (slots_at r.slots s))
taken_slots r (Purse n) b w = refl
taken_slots r (Payment n) b w = refl
taken_slots r Hand b w = refl
taken_slots r Outside b w = refl

given_slots : (r : Rights) (h : Holder) (b : ℕ) (w : ValueView) → length (given r h b w).slots ≡ length r.slots
given_slots r (Slot s k) b w = length_set r.slots s _
given_slots r (Purse n) b w = refl
given_slots r (Payment n) b w = refl
given_slots r Hand b w = refl
given_slots r Outside b w = refl

pub moved_slots : (r : Rights) (m : Movement) → length (moved r m).slots ≡ length r.slots
moved_slots r m = given_slots (taken r m.from m.brand m.value) m.to m.brand m.value ∙ taken_slots r m.from m.brand m.value

-- what is paid to is there then
module _ (ps : List PaymentView) (n : ℕ) (a : Amount) where
  paid_more : length ps ≤ length (paid ps n a)
  paid_more = by (n == length ps)
    where
      by : (t : Bool) → length ps ≤ length (cond t (ps ++ live_payment a ∷ []) (slice_set ps n (paid_payment ps n a)))
      by true = omega (arith, length_push ps (live_payment a))
      by false = omega (arith, length_set ps n (paid_payment ps n a))

  paid_there : (r : Rights) (b : ℕ) (w : ValueView) → r.payments ≡ ps → IsNextOr (n == length ps) r n b w → n < length (paid ps n a)
  paid_there r b w same can = elim (cases_eq n (length ps)) [
    | inl at ↦ subst (λ t. n < length (cond t (ps ++ live_payment a ∷ []) (slice_set ps n (paid_payment ps n a)))) (sym (eq-eqb n (length ps) at)) (omega (arith, at, length_push ps (live_payment a)))
    | inr apart ↦
        let no : (n == length ps) ≡ false = ne_eqb n (length ps) apart in
        let more : PaymentMore r n b w = subst (λ t. IsNextOr t r n b w) no can in
        subst (λ t. n < length (cond t (ps ++ live_payment a ∷ []) (slice_set ps n (paid_payment ps n a)))) (sym no) (omega (arith, more.made, ap (λ (l : List PaymentView). length l) same, length_set ps n (paid_payment ps n a)))
  ]

pub given_more : (r : Rights) (h : Holder) (b : ℕ) (w : ValueView) → length r.payments ≤ length (given r h b w).payments
given_more r (Payment n) b w = paid_more r.payments n (amount_of b w)
given_more r (Purse n) b w = omega arith
given_more r (Slot s k) b w = omega arith
given_more r Hand b w = omega arith
given_more r Outside b w = omega arith

pub moved_more : (r : Rights) (m : Movement) → length r.payments ≤ length (moved r m).payments
moved_more r m = omega (arith, given_more (taken r m.from m.brand m.value) m.to m.brand m.value, taken_as_many r m.from m.brand m.value)

no_payment : (p n : ℕ) → n < p → is_payment_at p (Payment n) ≡ false
no_payment p n lt = ne_eqb n p (λ is. absurd (omega (arith, lt, is)))

pub from_made : (r : Rights) (hand : ℕ → Content) (h : Holder) (b : ℕ) (w : ValueView) → CanTake r hand h b w → (p : ℕ) → length r.payments ≤ p → is_payment_at p h ≡ false
from_made r hand (Payment n) b w can p le = no_payment p n (omega (arith, can.made, le))
from_made r hand (Purse n) b w can p le = refl
from_made r hand (Slot s k) b w can p le = refl
from_made r hand Hand b w can p le = refl
from_made r hand Outside b w can p le = refl

pub to_made : (r : Rights) (h : Holder) (b : ℕ) (w : ValueView) → CanGive r h b w → (p : ℕ) → length (given r h b w).payments ≤ p → is_payment_at p h ≡ false
to_made r (Payment n) b w can p le = no_payment p n (omega (arith, paid_there r.payments n (amount_of b w) r b w refl can, le))
to_made r (Purse n) b w can p le = refl
to_made r (Slot s k) b w can p le = refl
to_made r Hand b w can p le = refl
to_made r Outside b w can p le = refl

names_none : (x y : Bool) → x ≡ false → y ≡ false → ((x || y) || false) ≡ false
names_none x y a b = ap (λ t. (t || y) || false) a ∙ ap (λ t. (false || t) || false) b

-- ---- one movement

-- the slots that it names are those of open seats
pub record IsAtOpenSeats (ss : List Seat) (m : Movement) : Type 0 where
  pub from : IsAtOpen ss m.from
  pub to : IsAtOpen ss m.to

pub at_open_seats : (ss : List Seat) (m : Movement) → IsGoodMove ss m → IsAtOpenSeats ss m
at_open_seats ss m good = record { from = good.from; to = good.to }

abbrev pub place_at : Table → List Seat → Rights → Place
place_at t ss r = record { table = t; seats = seats_from 0 ss r.slots; payments = length r.payments }

module _ (owners : Owners) (t : Turn) (ss : List Seat) where
  can_move_here : (u : Table) (r : Rights) (hand : ℕ → Content) (m : Movement) → length r.slots ≡ length ss → IsAtOpenSeats ss m → CanMove r hand m → CanMoveHere (place_at u ss r) (printed_move m) (length (moved r m).payments)
  can_move_here u r hand m as_many good can = record {
    slots = record {
      from = λ s k at. from_open ss r as_many hand m.from m.brand m.value good.from can.from s k at;
      to = λ s k at. to_open ss r as_many m.from m.to m.brand m.value good.to can.to s k at;
    };
    more = moved_more r m;
    made = λ p le. names_none (is_payment_at p m.from) (is_payment_at p m.to)
        (from_made r hand m.from m.brand m.value can.from p (omega (arith, le, moved_more r m)))
        (to_made (taken r m.from m.brand m.value) m.to m.brand m.value can.to p le);
  }

  pub one_move : (here : List Event) (u : Table) (r : Rights) (hand : ℕ → Content) (m : Movement) → length r.slots ≡ length ss → IsAtOpenSeats ss m → CanMove r hand m → IsValued m.value
      → IsAct owners t here (place_at u ss r) (moved_row (printed_move m) ∷ []) (place_at (table.moved u m) ss (moved r m))
  one_move here u r hand m as_many good can valued =
      subst (λ (p : Place). IsAct owners t here (place_at u ss r) (moved_row (printed_move m) ∷ []) p) next
      ((singles_are_acts owners t here (place_at u ss r)).move (printed_move m) (length (moved r m).payments) (can_move_here u r hand m as_many good can))
    where
      next : after_move (place_at u ss r) (printed_move m) (length (moved r m).payments) ≡ place_at (table.moved u m) ss (moved r m)
      next = λ i. record {
        table = values.told_moved u m valued i;
        seats = told_moved ss r m i;
        payments = length (moved r m).payments;
      }

-- ---- movements one after another

abbrev pub acts_of : Table → List Seat → Rights → List Movement → List Act
acts_of u ss r [] = []
acts_of u ss r (m ∷ ms) = record { rows = moved_row (printed_move m) ∷ []; next = place_at (table.moved u m) ss (moved r m) } ∷ acts_of (table.moved u m) ss (moved r m) ms

abbrev pub move_row : Movement → Event
move_row m = moved_row (printed_move m)

pub acts_told : (u : Table) (ss : List Seat) (r : Rights) (ms : List Movement) → rows_of_acts (acts_of u ss r ms) ≡ map move_row ms
acts_told u ss r [] = refl
acts_told u ss r (m ∷ ms) = ap (λ l. move_row m ∷ l) (acts_told (table.moved u m) ss (moved r m) ms)

pub acts_lead : (u : Table) (ss : List Seat) (r : Rights) (ms : List Movement) → place_after (place_at u ss r) (acts_of u ss r ms) ≡ place_at (table_after u ms) ss (all_moved r ms)
acts_lead u ss r [] = refl
acts_lead u ss r (m ∷ ms) = acts_lead (table.moved u m) ss (moved r m) ms

pub moves_are_acts : (owners : Owners) (t : Turn) (ss : List Seat) (here : List Event) (u : Table) (r : Rights) (hand : ℕ → Content) (ms : List Movement)
    → length r.slots ≡ length ss → AllByRecursion (IsGoodMove ss) ms → AllByRecursion IsStored ms → CanMoveAll r hand ms → AreValues r
    → AreActs owners t here (place_at u ss r) (acts_of u ss r ms)
moves_are_acts owners t ss here u r hand [] as_many good stored can v = tt
moves_are_acts owners t ss here u r hand (m ∷ ms) as_many good stored can v = (
  one_move owners t ss here u r hand m as_many (at_open_seats ss m good.0) can.0 (movement_valued r hand m can.0 v stored.0),
  moves_are_acts owners t ss (here ++ move_row m ∷ []) (table.moved u m) (moved r m) (hand_after hand m) ms (moved_slots r m ∙ as_many) good.1 stored.1 can.1 (moved_valued r hand m can.0 v),
)

spent_as_many : (h : Holder) (ps : List PaymentView) → length (spent_from h ps) ≡ length ps
spent_as_many (Payment n) ps = length_set ps n (spent_payment (payment_view_at ps n).brand)
spent_as_many (Purse n) ps = refl
spent_as_many (Slot s k) ps = refl
spent_as_many Hand ps = refl
spent_as_many Outside ps = refl

pub all_as_many : (ms : List Movement) (ps : List PaymentView) → length (all_spent ms ps) ≡ length ps
all_as_many [] ps = refl
all_as_many (m ∷ ms) ps = all_as_many ms (spent_from m.from ps) ∙ spent_as_many m.from ps

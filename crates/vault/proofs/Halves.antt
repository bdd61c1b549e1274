-- What each call of a store, as a half of a movement, makes of the lists, of the hand's store and of the rooms.
use Rattle.std.proofs.Common.{◌≡◌, ℕ, zero, suc, ◌+◌, ◌-◌, ◌<◌, ◌≤◌, true, cond, List, [], ◌∷◌, length, take, map, refl, sym, ◌∙◌, ap, subst, arith}
use Rattle.std.specs.Prelude.{slice_set, unwrap_or}
use Rattle.vault_model.specs.amount_math.Content.{Content, Contains, difference, sum}
use Rattle.vault_model.specs.amount_math.Held.{Held, with_less, with_more}
use Rattle.vault_model.specs.amount_math.ValueView.{ValueView}
use Rattle.vault_model.specs.amount_math.declared.Amount.{Amount}
use Rattle.vault_model.specs.amount_math.declared.Kind.TheVariants.{Nat}
use Rattle.vault_model.specs.ertp_mint.Balances.{BalanceView, ComesOut, GoesIn, no_store, with_taken}
use Rattle.vault_model.specs.ertp_mint.BrandSupply.{supply_at}
use Rattle.vault_model.specs.ertp_mint.Circulating.{CirculationView, circulation_at, new_circulation, with_retired}
use Rattle.vault_model.proofs.lemmas.ListEdits.{length_map, length_push, length_set, map_set, read_map, read_other, read_pushed, read_set, take_all_but}
use Rattle.vault_model.specs.holders.PaymentViews.{IsMade, IsRoomier, IsSpent, IsUnmade, IsUnspent, PaymentView, PaymentBook, is_live, live_payment, payment_view_at, spent_payment}
use Rattle.vault_model.specs.holders.Purses.{put_in_room, room_at, store_at, taken_at}
use Rattle.vault_model.specs.Backwards.{HasGrown, IsLast, Rooms, TakesBack}
use Rattle.vault_model.specs.Lists.{GivesUp, Lists, amount_of, less, more, purse_at, ungiven, untaken, with_out, with_outs, with_payments, with_purses}
use Rattle.vault_model.specs.Tables.{hand_minus, hand_plus}
use Rattle.vault_model.proofs.Sound.{at_or_else}
use Rattle.vault_model.specs.rights_model.declared.Holder.TheVariants.{Purse, Payment}
use Rattle.transit.specs.Transit.{TransitView, empty_hand, held_at, in_store, with_hand}
use Rattle.transit.specs.Transit as transit
use Rattle.vault.specs.Memory.{IsGiven, IsHalf, IsForward, IsRoomed, IsTaken, amount_in, given_up_in, kept_of, kept_seat, lists_of, rooms_of, staged_of, store_of, supply_of}
use Rattle.vault.specs.declared.stores.Stores.{Stores}

-- ---- reads

pub purse_read : (l : List BalanceView) (n : ℕ) → purse_at (map amount_in l) n ≡ (store_at l n).amount
purse_read l n = read_map amount_in l n no_store

pub supply_read : (l : List CirculationView) (b : ℕ) → supply_at (map supply_of l) b ≡ (circulation_at l b).supply
supply_read l b = read_map supply_of l b (new_circulation Nat)

-- a payment tells its parcel
pub same_parcel : (a c : Amount) → live_payment a ≡ live_payment c → a ≡ c
same_parcel a c is = ap (λ (p : PaymentView). record { brand = p.brand; value = unwrap_or p.held a.value }) is

-- ---- rooms

pub no_growth : (R : Rooms) → HasGrown R R
no_growth R = record { purses = λ n. omega arith; slots = λ n k. omega arith; capacity = omega arith; hand = λ b. omega arith }

pub grown_twice : (R Q S : Rooms) → HasGrown R Q → HasGrown Q S → HasGrown R S
grown_twice R Q S first then = record {
  purses = λ n. omega (arith, first.purses n, then.purses n);
  slots = λ n k. omega (arith, first.slots n k, then.slots n k);
  capacity = omega (arith, first.capacity, then.capacity);
  hand = λ b. omega (arith, first.hand b, then.hand b);
}

room_grows : (l : List BalanceView) (n : ℕ) (x : BalanceView) → (store_at l n).room ≤ x.room → (q : ℕ) → room_at l q ≤ room_at (slice_set l n x) q
room_grows [] n x le q = omega arith
room_grows (z ∷ zs) zero x le zero = le
room_grows (z ∷ zs) zero x le (suc q) = omega arith
room_grows (z ∷ zs) (suc n) x le zero = omega arith
room_grows (z ∷ zs) (suc n) x le (suc q) = room_grows zs n x le q

hand_room_grows : (l : List Held) (n : ℕ) (x : Held) → (held_at l n).room ≤ x.room → (q : ℕ) → (held_at l q).room ≤ (held_at (slice_set l n x) q).room
hand_room_grows [] n x le q = omega arith
hand_room_grows (z ∷ zs) zero x le zero = le
hand_room_grows (z ∷ zs) zero x le (suc q) = omega arith
hand_room_grows (z ∷ zs) (suc n) x le zero = omega arith
hand_room_grows (z ∷ zs) (suc n) x le (suc q) = hand_room_grows zs n x le q

-- ---- one store is another

module _ (p : Stores) where
  pub purses_half : (l : List BalanceView) (m : List Amount) → map amount_in l ≡ m → ((q : ℕ) → room_at p.purses q ≤ room_at l q) → IsHalf p (record p { purses = l }) (with_purses (lists_of p) m) (store_of p) (kept_of p)
  purses_half l m is grown = record {
    lists = ap (with_purses (lists_of p)) is;
    hand = λ b. refl;
    kept = λ b. refl;
    rooms = record { purses = grown; slots = λ n k. omega arith; capacity = omega arith; hand = λ b. omega arith };
  }

  pub payments_half : (book : PaymentBook) (l : List PaymentView) → book.views ≡ l → book.slots ≡ p.payments.slots → p.payments.capacity ≤ book.capacity → IsHalf p (record p { payments = book }) (with_payments (lists_of p) l) (store_of p) (kept_of p)
  payments_half book l is slots room = record {
    lists = λ i. record { purses = map amount_in p.purses; payments = is i; seats = map kept_seat p.seats.seats; owed = slots i; out = map supply_of p.transit.out };
    hand = λ b. refl;
    kept = λ b. refl;
    rooms = record { purses = λ n. omega arith; slots = λ n k. omega arith; capacity = room; hand = λ b. omega arith };
  }

  -- what is out of one brand
  pub out_half : (t : TransitView) (b : ℕ) (x : CirculationView) (k : ℕ → Content) → t ≡ transit.with_out p.transit b x → ((e : ℕ) → (circulation_at (slice_set p.transit.out b x) e).kept ≡ k e) → IsHalf p (record p { transit = t }) (with_out (lists_of p) b x.supply) (store_of p) k
  out_half t b x k is keeps = record {
    lists = ap (with_outs (lists_of p)) (ap (λ (u : TransitView). map supply_of u.out) is ∙ map_set supply_of p.transit.out b x);
    hand = λ e. ap (λ (u : TransitView). in_store u e) is;
    kept = λ e. ap (λ (u : TransitView). (circulation_at u.out e).kept) is ∙ keeps e;
    rooms = record {
      purses = λ n. omega arith;
      slots = λ n k. omega arith;
      capacity = omega arith;
      hand = λ e. omega (arith, ap (λ (u : TransitView). (held_at u.hand e).room) is);
    };
  }

  -- what the hand's store has of one
  pub hand_half : (t : TransitView) (b : ℕ) (x : Held) (g : ℕ → Content) → t ≡ with_hand p.transit b x → (held_at p.transit.hand b).room ≤ x.room → ((e : ℕ) → (held_at (slice_set p.transit.hand b x) e).value.content ≡ g e) → IsHalf p (record p { transit = t }) (lists_of p) g (kept_of p)
  hand_half t b x g is room has = record {
    lists = ap (λ (u : TransitView). with_outs (lists_of p) (map supply_of u.out)) is;
    hand = λ e. ap (λ (u : TransitView). in_store u e) is ∙ has e;
    kept = λ e. ap (λ (u : TransitView). (circulation_at u.out e).kept) is;
    rooms = record {
      purses = λ n. omega arith;
      slots = λ n k. omega arith;
      capacity = omega arith;
      hand = λ e. omega (arith, hand_room_grows p.transit.hand b x room e, ap (λ (u : TransitView). (held_at u.hand e).room) is);
    };
  }

-- a half that leaves what was given up
pub forward : (p q : Stores) (lists : Lists) (g k : ℕ → Content) → IsHalf p q lists g k → given_up_in q ≡ given_up_in p → staged_of q ≡ staged_of p → IsForward p q lists (staged_of p) k
forward p q lists g k half same staged = record { lists = half.lists; staging = staged; given_up = same; kept = half.kept; rooms = half.rooms }

-- what is kept with more of a brand, and with less
pub kept_more : (l : List CirculationView) (b : ℕ) (c : Content) (e : ℕ) → b < length l → (circulation_at (slice_set l b (with_retired (circulation_at l b) c)) e).kept ≡ hand_plus (λ q. (circulation_at l q).kept) b c e
kept_more l b c e lt = at_or_else (λ q t. (circulation_at (slice_set l b (with_retired (circulation_at l b) c)) q).kept ≡ cond t (sum (circulation_at l q).kept c) (circulation_at l q).kept) b e
    (ap (λ (x : CirculationView). x.kept) (read_set l b (with_retired (circulation_at l b) c) (new_circulation Nat) lt))
    (λ differs. ap (λ (x : CirculationView). x.kept) (read_other l b e (with_retired (circulation_at l b) c) (new_circulation Nat) differs))

pub kept_less : (l : List CirculationView) (b : ℕ) (c : Content) (e : ℕ) (x : CirculationView) → x.kept ≡ difference (circulation_at l b).kept c → b < length l → (circulation_at (slice_set l b x) e).kept ≡ hand_minus (λ q. (circulation_at l q).kept) b c e
kept_less l b c e x is lt = at_or_else (λ q t. (circulation_at (slice_set l b x) q).kept ≡ cond t (difference (circulation_at l q).kept c) (circulation_at l q).kept) b e
    (ap (λ (y : CirculationView). y.kept) (read_set l b x (new_circulation Nat) lt) ∙ is)
    (λ differs. ap (λ (y : CirculationView). y.kept) (read_other l b e x (new_circulation Nat) differs))

-- what the hand's store has with more of a brand, and with less
pub more_there : (l : List Held) (b : ℕ) (c : Content) (e : ℕ) → b < length l → (held_at (slice_set l b (with_more (held_at l b) c)) e).value.content ≡ hand_plus (λ q. (held_at l q).value.content) b c e
more_there l b c e lt = at_or_else (λ q t. (held_at (slice_set l b (with_more (held_at l b) c)) q).value.content ≡ cond t (sum (held_at l q).value.content c) (held_at l q).value.content) b e
    (ap (λ (h : Held). h.value.content) (read_set l b (with_more (held_at l b) c) (empty_hand Nat) lt))
    (λ differs. ap (λ (h : Held). h.value.content) (read_other l b e (with_more (held_at l b) c) (empty_hand Nat) differs))

pub less_there : (l : List Held) (b : ℕ) (c : Content) (e : ℕ) → b < length l → (held_at (slice_set l b (with_less (held_at l b) c)) e).value.content ≡ hand_minus (λ q. (held_at l q).value.content) b c e
less_there l b c e lt = at_or_else (λ q t. (held_at (slice_set l b (with_less (held_at l b) c)) q).value.content ≡ cond t (difference (held_at l q).value.content c) (held_at l q).value.content) b e
    (ap (λ (h : Held). h.value.content) (read_set l b (with_less (held_at l b) c) (empty_hand Nat) lt))
    (λ differs. ap (λ (h : Held). h.value.content) (read_other l b e (with_less (held_at l b) c) (empty_hand Nat) differs))

-- ---- purses

module _ (p : Stores) (n : ℕ) where
  abbrev store : BalanceView
  store = store_at p.purses n

  abbrev purse : Amount
  purse = purse_at (lists_of p).purses n

  pub purse_made : n < length (lists_of p).purses → n < length p.purses
  purse_made lt = omega (arith, lt, length_map amount_in p.purses)

  -- what a purse gives comes out of its store
  pub comes_out : (b : ℕ) (w : ValueView) → GivesUp (lists_of p) n b w → ComesOut store w
  comes_out b w can = record {
    kind = ap (λ (a : Amount). a.value.kind) (sym (purse_read p.purses n)) ∙ can.kind;
    has = subst (λ (a : Amount). Contains a.value.content w.content) (purse_read p.purses n) can.has;
  }

  pub less_listed : (c : Content) → map amount_in (taken_at p.purses n c) ≡ slice_set (lists_of p).purses n (less purse c)
  less_listed c = map_set amount_in p.purses n (with_taken store c) ∙ ap (λ a. slice_set (lists_of p).purses n (less a c)) (sym (purse_read p.purses n))

  pub more_listed : (c : Content) (room : ℕ) → map amount_in (put_in_room p.purses n c room) ≡ slice_set (lists_of p).purses n (more purse c)
  more_listed c room = map_set amount_in p.purses n _ ∙ ap (λ a. slice_set (lists_of p).purses n (more a c)) (sym (purse_read p.purses n))

  pub half_less : (l : List BalanceView) (c : Content) → l ≡ taken_at p.purses n c → IsHalf p (record p { purses = l }) (with_purses (lists_of p) (slice_set (lists_of p).purses n (less purse c))) (store_of p) (kept_of p)
  half_less l c is = purses_half p l _ (ap (map amount_in) is ∙ less_listed c) (λ q. subst (λ m. room_at p.purses q ≤ room_at m q) (sym is) (room_grows p.purses n (with_taken store c) (omega arith) q))

  pub half_more : (l : List BalanceView) (c : Content) (room : ℕ) → l ≡ put_in_room p.purses n c room → store.room ≤ room → IsHalf p (record p { purses = l }) (with_purses (lists_of p) (slice_set (lists_of p).purses n (more purse c))) (store_of p) (kept_of p)
  half_more l c room is le = purses_half p l _ (ap (map amount_in) is ∙ more_listed c room) (λ q. subst (λ m. room_at p.purses q ≤ room_at m q) (sym is) (room_grows p.purses n (record { amount = more store.amount c; room = room }) le q))

  -- and what comes back goes in
  pub goes_in : (a : Amount) → TakesBack (rooms_of p) (lists_of p) n a.brand a.value → GoesIn store a
  goes_in a can = subst (λ (x : Amount). GoesIn (record { amount = x; room = store.room }) a) (purse_read p.purses n) can.goes

  -- a purse once taken from can take that back, and once put to can give that
  pub takes_back : (l : List BalanceView) (b : ℕ) (w : ValueView) → n < length l → GoesIn (store_at l n) (amount_of b w) → TakesBack (rooms_of (record p { purses = l })) (lists_of (record p { purses = l })) n b w
  takes_back l b w lt goes = record {
    made = omega (arith, lt, length_map amount_in l);
    goes = subst (λ (x : Amount). GoesIn (record { amount = x; room = room_at l n }) (amount_of b w)) (sym (purse_read l n)) goes;
  }

  pub gives_up : (l : List BalanceView) (b : ℕ) (w : ValueView) → n < length l → (store_at l n).amount.brand ≡ b → ComesOut (store_at l n) w → GivesUp (lists_of (record p { purses = l })) n b w
  gives_up l b w lt brand out = record {
    made = omega (arith, lt, length_map amount_in l);
    brand = ap (λ (a : Amount). a.brand) (purse_read l n) ∙ brand;
    kind = ap (λ (a : Amount). a.value.kind) (purse_read l n) ∙ out.kind;
    has = subst (λ (a : Amount). Contains a.value.content w.content) (sym (purse_read l n)) out.has;
  }

-- ---- payments

module _ (p : Stores) (n : ℕ) where
  -- the last payment, undone
  pub last_parcel : (b : ℕ) (w : ValueView) (book : PaymentBook) (a : Amount) → IsLast (lists_of p) n b w → IsUnmade p.payments book a → a ≡ amount_of b w
  last_parcel b w book a can is = same_parcel a (amount_of b w)
      (sym (ap (λ l. payment_view_at l n) is.views ∙ read_pushed book.views (live_payment a) (spent_payment 0) n (omega (arith, can.last, ap length is.views, length_push book.views (live_payment a)))) ∙ can.is)

  pub half_unmade : (b : ℕ) (w : ValueView) (book : PaymentBook) (a : Amount) → IsLast (lists_of p) n b w → IsUnmade p.payments book a → book.slots ≡ p.payments.slots → IsHalf p (record p { payments = book }) (ungiven (lists_of p) (Payment n) b w) (store_of p) (kept_of p)
  half_unmade b w book a can is slots = payments_half p book (take n p.payments.views)
      (sym (ap (take n) is.views ∙ take_all_but book.views (live_payment a) n (omega (arith, can.last, ap length is.views, length_push book.views (live_payment a)))))
      slots (omega (arith, is.room))

  pub last_is_live : (b : ℕ) (w : ValueView) → IsLast (lists_of p) n b w → is_live (payment_view_at p.payments.views (length p.payments.views - 1)) ≡ true
  last_is_live b w can = subst (λ q. is_live (payment_view_at p.payments.views q) ≡ true) (the_last (length p.payments.views) can.last) (ap is_live can.is)
    where
      the_last : (m : ℕ) → m ≡ n + 1 → n ≡ m - 1
      the_last m is = omega (arith, is)

  pub half_unspent : (book : PaymentBook) (a : Amount) → IsUnspent p.payments book n a → book.slots ≡ p.payments.slots → IsHalf p (record p { payments = book }) (untaken (lists_of p) (Payment n) a.brand a.value) (store_of p) (kept_of p)
  half_unspent book a is slots = payments_half p book _ is.views slots (omega (arith, is.room))

  -- a payment spent
  pub spent_parcel : (b : ℕ) (w : ValueView) (book : PaymentBook) (a : Amount) → payment_view_at p.payments.views n ≡ live_payment (amount_of b w) → IsSpent p.payments book n a → a ≡ amount_of b w
  spent_parcel b w book a whole is = same_parcel a (amount_of b w) (sym is.payment_view ∙ whole)

  pub payment_taken : (b : ℕ) (w : ValueView) (book : PaymentBook) (a : Amount) → n < length p.payments.views → payment_view_at p.payments.views n ≡ live_payment (amount_of b w) → IsSpent p.payments book n a → book.slots ≡ p.payments.slots → IsTaken p (record p { payments = book }) (Payment n) b w
  payment_taken b w book a made whole is slots =
      let views : book.views ≡ slice_set p.payments.views n (spent_payment b) = is.views ∙ ap (λ (x : Amount). slice_set p.payments.views n (spent_payment x.brand)) (spent_parcel b w book a whole is) in
      record {
        half = forward p _ _ _ _ (payments_half p book _ views slots (omega (arith, is.room))) refl refl;
        back = record {
          made = omega (arith, made, ap length views, length_set p.payments.views n (spent_payment b));
          spent = ap (λ l. payment_view_at l n) views ∙ read_set p.payments.views n (spent_payment b) (spent_payment 0) made;
          vacancy = is.vacancy;
        };
      }

  -- and one made
  pub payment_given : (book : PaymentBook) (a : Amount) → n ≡ length p.payments.views → IsMade p.payments book a → book.slots ≡ p.payments.slots → IsGiven p (record p { payments = book }) (Payment n) a.brand a.value
  payment_given book a next is slots = record {
    half = forward p _ _ _ _ (payments_half p book _ is.views slots is.room) refl refl;
    back = record {
      last = omega (arith, next, ap length is.views, length_push p.payments.views (live_payment a));
      is = ap (λ l. payment_view_at l n) is.views ∙ read_pushed p.payments.views (live_payment a) (spent_payment 0) n next;
    };
  }

  pub payments_roomed : (book : PaymentBook) → IsRoomier p.payments book → book.slots ≡ p.payments.slots → IsRoomed p (record p { payments = book })
  payments_roomed book is slots = forward p _ _ _ _ (payments_half p book p.payments.views is.views slots is.room) refl refl

-- a purse taken from, and one put to
module _ (p : Stores) (n : ℕ) (l : List BalanceView) (w : ValueView) (made : n < length p.purses) where
  pub purse_taken : (b : ℕ) → l ≡ taken_at p.purses n w.content → GoesIn (store_at l n) (amount_of b w) → IsTaken p (record p { purses = l }) (Purse n) b w
  purse_taken b is goes = record {
    half = forward p _ _ _ _ (half_less p n l w.content is) refl refl;
    back = takes_back p n l b w (omega (arith, made, ap length is, length_set p.purses n (with_taken (store_at p.purses n) w.content))) goes;
  }

  pub purse_given : (b room : ℕ) → l ≡ put_in_room p.purses n w.content room → room_at p.purses n ≤ room → (store_at p.purses n).amount.brand ≡ b → ComesOut (store_at l n) w → IsGiven p (record p { purses = l }) (Purse n) b w
  purse_given b room is le brand out =
      let x : BalanceView = record { amount = more (store_at p.purses n).amount w.content; room = room } in
      record {
        half = forward p _ _ _ _ (half_more p n l w.content room is le) refl refl;
        back = gives_up p n l b w (omega (arith, made, ap length is, length_set p.purses n x))
            (ap (λ m. (store_at m n).amount.brand) is ∙ ap (λ (s : BalanceView). s.amount.brand) (read_set p.purses n x no_store made) ∙ brand) out;
      }

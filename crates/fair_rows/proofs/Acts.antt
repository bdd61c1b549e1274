-- Acts are in place one after another; leaving a seat, opening one and acts of one row are acts.
use Rattle.std.proofs.Common.{◌≡◌, ◌≤◌, ℕ, ◌+◌, ◌==◌, ◌||◌, Bool, true, false, cond, List, [], ◌∷◌, ◌++◌, Option, Some, is_some, length, map, if◌then◌else◌, refl, sym, ap, subst, ◌∙◌, append_assoc, append-nil, inl, inr, arith}
use Rattle.std.specs.List.{AllByRecursion, slice_get}
use Rattle.std.specs.Prelude.{option_map, unwrap_or}
use Rattle.std.specs.Str.{bytes_eq}
use Rattle.std.proofs.lemmas.Bool.Decides.{nat_tests}
use Rattle.std.proofs.lemmas.List.Folds.{list_any-append}
use Rattle.std.proofs.lemmas.Slice.Eq.{bytes_eq-Decides}
use Rattle.turn_rows.specs.amount_math.ValueView.{IsValue}
use Rattle.turn_rows.specs.amount_math.declared.Kind.{Kind}
use Rattle.turn_rows.specs.rights_model.Table.{Table, holds, table_after}
use Rattle.turn_rows.specs.rights_model.declared.Holder.TheVariants.{Outside, Payment, Slot}
use Rattle.turn_rows.specs.rights_model.declared.Movement.{Movement}
use Rattle.turn_rows.specs.Turns.{called, Event, exited, KeywordAmount, moved, Move, opened, Opening, Payout, settled, Turn}
use Rattle.fair_rows.specs.Acts.{Act, ActsShowRows, AreActs, AreEscrows, AreNamed, ExitIsAct, IsAt, OfferIsAct, Place, SinglesAreActs, after_empty, after_exit, after_move, after_offer, exit_rows, offer_rows, payout_move, payout_moves, place_after, place_in, rows_of_acts}
use Rattle.fair_rows.specs.ExitCauses.{Owners}
use Rattle.fair_rows.specs.Movements.{is_payment_at, movement_of, movements_in, names}
use Rattle.fair_rows.specs.Rows.{Due, FollowsKit, burn as burn_due, InTurn, IsEscrow, after_event, escrow, is_offer, payment_under, payout, slots_at}
use Rattle.fair_rows.specs.Seats.{Seat, SlotName, brand_under, contents_of, new_seat, with_exit, with_move}
use Rattle.fair_rows.specs.SoFar.{SoFar, with_row, with_rows}
use Rattle.fair_rows.specs.Strict.{IsEmptySeat}
use Rattle.fair_rows.specs.Steps.{AreInPlace, AreMade, so_far_in}
use Rattle.fair_rows.specs.Turns.{after_events, after_turn_row}
use Rattle.fair_rows.specs.Values.{Named}
use Rattle.fair_rows.proofs.Lists.{all_first, all_weaker, neither}
use Rattle.fair_rows.proofs.Steps.{before_is, here_is, moves_told, now_is, row_is, table_told}
use Rattle.fair_rows.proofs.Values.{whole}

-- ---- acts one after another

in_place-append : (i : InTurn) (es fs : List Event) → AreInPlace i es → AreInPlace (after_events i es) fs → AreInPlace i (es ++ fs)
in_place-append i [] fs h k = k
in_place-append i (e ∷ es) fs h k = (h.0, in_place-append (after_event i e) es fs h.1 k)

after-append : (i : InTurn) (es fs : List Event) → after_events i (es ++ fs) ≡ after_events (after_events i es) fs
after-append i [] fs = refl
after-append i (e ∷ es) fs = after-append (after_event i e) es fs

acts_in_place : (owners : Owners) (t : Turn) (here : List Event) (w : Place) (acts : List Act) → AreActs owners t here w acts → (i : InTurn) → IsAt owners t here w i
    → AreInPlace i (rows_of_acts acts) × IsAt owners t (here ++ rows_of_acts acts) (place_after w acts) (after_events i (rows_of_acts acts))
acts_in_place owners t here w [] acts_are i at = (tt, subst (λ (es : List Event). IsAt owners t es w i) (sym (append-nil here)) at)
acts_in_place owners t here w (a ∷ acts) acts_are i at =
    let first = acts_are.0 i at in
    let rest = acts_in_place owners t (here ++ a.rows) a.next acts acts_are.1 (after_events i a.rows) first.1 in (
      in_place-append i a.rows (rows_of_acts acts) first.0 rest.0,
      subst (λ (j : InTurn). IsAt owners t (here ++ (a.rows ++ rows_of_acts acts)) (place_after a.next acts) j) (sym (after-append i a.rows (rows_of_acts acts)))
          (subst (λ (es : List Event). IsAt owners t es (place_after a.next acts) (after_events (after_events i a.rows) (rows_of_acts acts))) (append_assoc here a.rows (rows_of_acts acts)) rest.1),
    )

pub acts_show_rows : ActsShowRows
acts_show_rows w next t acts acts_are told seats =
    record {
      place = λ moves amounts made. subst (λ (es : List Event). AreInPlace (after_turn_row (so_far_in w moves amounts) t) es) (sym told) (both moves amounts made).0;
      complete = λ moves amounts made. ap (λ (es : List Event). (after_events (after_turn_row (so_far_in w moves amounts) t) es).due) told ∙ (both moves amounts made).1.due;
      seats = λ moves amounts made. ap (λ (es : List Event). (after_events (after_turn_row (so_far_in w moves amounts) t) es).now.seats) told ∙ (both moves amounts made).1.seats ∙ sym seats;
    }
  where
    both : (moves : List Movement) (amounts : List Named) → AreMade w moves
        → AreInPlace (after_turn_row (so_far_in w moves amounts) t) (rows_of_acts acts) × IsAt w.owners t (rows_of_acts acts) (place_after (place_in w) acts) (after_events (after_turn_row (so_far_in w moves amounts) t) (rows_of_acts acts))
    both moves amounts made = acts_in_place w.owners t [] (place_in w) acts acts_are (after_turn_row (so_far_in w moves amounts) t) (record { of = refl; row = refl; here = refl; due = refl; table = refl; seats = refl; made = made })

-- ---- what stands at a place

-- the turn that is read, with what the place says of it
abbrev at_place : Owners → Turn → List Event → Place → InTurn → InTurn
at_place owners t here w i = record { before = record i.before { owners = owners }; row = t; here = here; now = record i.now { table = w.table; seats = w.seats }; due = [] }

is_there : (owners : Owners) (t : Turn) (here : List Event) (w : Place) (i : InTurn) → IsAt owners t here w i → at_place owners t here w i ≡ i
is_there owners t here w i at = λ j. record { before = record i.before { owners = sym at.of j }; row = sym at.row j; here = sym at.here j; now = record i.now { table = sym at.table j; seats = sym at.seats j }; due = sym at.due j }

-- where an act's rows are in place there, they are in place
module _ (owners : Owners) (t : Turn) (here : List Event) (w : Place) (i : InTurn) (at : IsAt owners t here w i) (es : List Event) (next : Place) where
  abbrev there : InTurn
  there = at_place owners t here w i

  carried : AreInPlace there es
      → (after_events there es).due ≡ []
      → table_after w.table (movements_in es) ≡ next.table
      → (with_rows there.now es).seats ≡ next.seats
      → w.payments ≤ next.payments
      → ((p : ℕ) → next.payments ≤ p → names p (movements_in es) ≡ false)
      → AreInPlace i es × IsAt owners t (here ++ es) next (after_events i es)
  carried place due table seats more made =
      let moves : (after_events there es).now.moves ≡ i.now.moves ++ movements_in es = ap (λ (s : SoFar). s.moves) (now_is there es) ∙ moves_told there.now es in
      let at_next : IsAt owners t (here ++ es) next (after_events there es) = record {
        of = ap (λ (s : SoFar). s.owners) (before_is there es);
        row = row_is there es;
        here = here_is there es;
        due = due;
        table = ap (λ (s : SoFar). s.table) (now_is there es) ∙ table_told there.now es ∙ table;
        seats = ap (λ (s : SoFar). s.seats) (now_is there es) ∙ seats;
        made = λ p past. ap (names p) moves ∙ list_any-append (λ (m : Movement). is_payment_at p m.from || is_payment_at p m.to) i.now.moves (movements_in es) ∙ neither (names p i.now.moves) (names p (movements_in es)) (at.made p (omega (arith, past, more))) (made p past);
      } in
      subst (λ (j : InTurn). AreInPlace j es × IsAt owners t (here ++ es) next (after_events j es)) (is_there owners t here w i at) (place, at_next)

-- ---- acts of one row

behind_kit : (here : List Event) (o : Opening) → IsEmptySeat here o → FollowsKit here
behind_kit here o is = record { more = is.more; call = is.call; last = is.last; instance = o.instance; made = is.made }

pub singles_are_acts : (owners : Owners) (t : Turn) (here : List Event) (w : Place) → SinglesAreActs owners t here w
singles_are_acts owners t here w = record {
  move = λ m payments can i at. carried owners t here w i at (moved m ∷ []) (after_move w m payments) ((can.slots, tt), tt) refl refl refl can.more can.made;
  empty_seat = λ o can i at. carried owners t here w i at (opened o ∷ []) (after_empty w o)
      ((record { next = can.opens.next; of_brand = can.opens.of_brand; by = inr (behind_kit here o can.empty); empty = λ follows. (can.empty.gives, can.empty.wants) }, λ none. can.empty), tt)
      (no_offer o can.runs i) refl refl (omega arith) (λ p past. refl);
  call = λ c is i at. carried owners t here w i at (called c ∷ []) w ((is.read, (is.told, is.shown)), tt) refl refl refl (omega arith) (λ p past. refl);
  settlement = λ promise result i at. carried owners t here w i at (settled promise result ∷ []) w ((tt, tt), tt) refl refl refl (omega arith) (λ p past. refl);
}
  where
    no_offer : (o : Opening) → is_offer t ≡ false → (i : InTurn) → (after_event (at_place owners t here w i) (opened o)).due ≡ []
    no_offer o runs i = rw runs refl

-- ---- a seat exits: what is paid

still_new : (p q : ℕ) (earlier : List Movement) (m : Move) (seat : ℕ) (keyword : List ℕ) → m.from ≡ Slot seat keyword → m.to ≡ Payment p → names q earlier ≡ false → p + 1 ≤ q → names q (earlier ++ movement_of m ∷ []) ≡ false
still_new p q earlier m seat keyword from to none past =
    let other : (p == q) ≡ false = grind (arith, nat_tests) in
    list_any-append (λ (n : Movement). is_payment_at q n.from || is_payment_at q n.to) earlier (movement_of m ∷ []) ∙ rw (none, from, to, other) refl

abbrev dues : Table → ℕ → List Payout → List SlotName → List Due
dues t seat payouts ss = map (λ (slot : SlotName). payout seat slot (holds t (Slot seat slot.keyword) slot.brand) (payment_under slot.keyword payouts)) ss

-- payouts are in place where they are due, and then none is
payouts_in_place : (kind_of : ℕ → Kind) (t : Table) (seat p : ℕ) (payouts : List Payout) (ss : List SlotName) (j : InTurn)
    → AllByRecursion (λ s. IsValue (kind_of s.brand) (holds t (Slot seat s.keyword) s.brand)) ss
    → AreNamed payouts p ss
    → ((q : ℕ) → p ≤ q → names q j.now.moves ≡ false)
    → AreInPlace (record j { due = dues t seat payouts ss }) (map moved (payout_moves kind_of t seat p ss))
    × ((after_events (record j { due = dues t seat payouts ss }) (map moved (payout_moves kind_of t seat p ss))).due ≡ [])
payouts_in_place kind_of t seat p payouts [] j values named new = (tt, refl)
payouts_in_place kind_of t seat p payouts (s ∷ ss) j values named new =
    let m : Move = payout_move kind_of t seat p s in
    let rest = payouts_in_place kind_of t seat (p + 1) payouts ss (record j { here = j.here ++ moved m ∷ []; now = with_row j.now (moved m) }) values.1 named.1
    (λ q past. still_new p q j.now.moves m seat s.keyword refl refl (new q (omega (arith, past))) past) in (
      ((record { payment = p; named = named.0; brand = refl; from = refl; to = refl; whole = whole (kind_of s.brand) _ values.0; new = new p (omega arith) }, tt), rest.0),
      rest.1,
    )

-- a payment stands for each slot
each_named : (payouts : List Payout) (p : ℕ) (ss : List SlotName) → AreNamed payouts p ss → AllByRecursion (λ slot. is_some (payment_under slot.keyword payouts) ≡ true) ss
each_named payouts p [] named = tt
each_named payouts p (s ∷ ss) named = ((rw (named.0) refl), each_named payouts (p + 1) ss named.1)

-- payouts name the payments that they make
names_past : (kind_of : ℕ → Kind) (t : Table) (seat q p : ℕ) (ss : List SlotName) → q + length ss ≤ p → names p (movements_in (map moved (payout_moves kind_of t seat q ss))) ≡ false
names_past kind_of t seat q p [] past = refl
names_past kind_of t seat q p (s ∷ ss) past =
    let other : (q == p) ≡ false = grind (arith, nat_tests) in
    rw (other, names_past kind_of t seat (q + 1) p ss (omega (arith, past))) refl

-- ---- a seat exits: what becomes of the seats

exit_opening : (t : Table) (n : ℕ) (u : Seat) → (with_exit t n u).opening ≡ u.opening
exit_opening t n u = by (u.opening.seat == n)
  where
    by : (b : Bool) → (cond b (record u { last = Some (contents_of t u) }) u).opening ≡ u.opening
    by true = refl
    by false = refl

exit_slots : (t : Table) (n : ℕ) (u : Seat) → (with_exit t n u).slots ≡ u.slots
exit_slots t n u = by (u.opening.seat == n)
  where
    by : (b : Bool) → (cond b (record u { last = Some (contents_of t u) }) u).slots ≡ u.slots
    by true = refl
    by false = refl

-- a movement to a payment from a slot that is there opens none
keeps_seat : (m : Move) (seat p : ℕ) (keyword : List ℕ) → m.from ≡ Slot seat keyword → m.to ≡ Payment p → (u : Seat) → ((seat == u.opening.seat) ≡ true → is_some (brand_under keyword u.slots) ≡ true) → with_move m u ≡ u
keeps_seat m seat p keyword from to u has = rw (from, to) (by (seat == u.opening.seat) refl)
  where
    by : (b : Bool) → (seat == u.opening.seat) ≡ b → record u { slots = if b then (if is_some (brand_under keyword u.slots) then u.slots else u.slots ++ record { keyword = keyword; brand = m.brand } ∷ []) else u.slots } ≡ u
    by true is = rw (has is) refl
    by false is = refl

keeps_seats : (m : Move) (seat p : ℕ) (keyword : List ℕ) → m.from ≡ Slot seat keyword → m.to ≡ Payment p → (t : Table) (us : List Seat)
    → AllByRecursion (λ u. (seat == u.opening.seat) ≡ true → is_some (brand_under keyword u.slots) ≡ true) us → map (with_move m) (map (with_exit t seat) us) ≡ map (with_exit t seat) us
keeps_seats m seat p keyword from to t [] has = refl
keeps_seats m seat p keyword from to t (u ∷ us) has =
    let here : with_move m (with_exit t seat u) ≡ with_exit t seat u =
    keeps_seat m seat p keyword from to (with_exit t seat u) (λ same. ap (λ ss. is_some (brand_under keyword ss)) (exit_slots t seat u) ∙ has.0 (sym (ap (λ (o : Opening). seat == o.seat) (exit_opening t seat u)) ∙ same)) in
    rw (here, keeps_seats m seat p keyword from to t us has.1) refl

seats_kept : (s : SoFar) (seats : List Seat) (ms : List Move) → s.seats ≡ seats → AllByRecursion (λ m. map (with_move m) seats ≡ seats) ms → (with_rows s (map moved ms)).seats ≡ seats
seats_kept s seats [] is kept = is
seats_kept s seats (m ∷ ms) is kept = seats_kept (with_row s (moved m)) seats ms (ap (map (with_move m)) is ∙ kept.0) kept.1

one_more : (keyword : List ℕ) (s : SlotName) (ss : List SlotName) → is_some (brand_under keyword ss) ≡ true → is_some (brand_under keyword (s ∷ ss)) ≡ true
one_more keyword s ss h = by (bytes_eq keyword s.keyword)
  where
    by : (b : Bool) → is_some (if b then Some s.brand else brand_under keyword ss) ≡ true
    by true = refl
    by false = h

own_keywords : (ss : List SlotName) → AllByRecursion (λ s. is_some (brand_under s.keyword ss) ≡ true) ss
own_keywords [] = tt
own_keywords (s ∷ ss) = (
  (let same : bytes_eq s.keyword s.keyword ≡ true = (bytes_eq-Decides s.keyword s.keyword).1 refl in rw same refl),
  all_weaker (λ u. is_some (brand_under u.keyword ss) ≡ true) (λ u. is_some (brand_under u.keyword (s ∷ ss)) ≡ true) (λ u. one_more u.keyword s ss) ss (own_keywords ss),
)

-- each movement of the payout leaves the seats alone
payouts_keep : (kind_of : ℕ → Kind) (t : Table) (seat p : ℕ) (is : Seat) (seats : List Seat) → AllByRecursion (λ u. (seat == u.opening.seat) ≡ true → u ≡ is) seats
    → (ss : List SlotName) → AllByRecursion (λ s. is_some (brand_under s.keyword is.slots) ≡ true) ss → AllByRecursion (λ m. map (with_move m) (map (with_exit t seat) seats) ≡ map (with_exit t seat) seats) (payout_moves kind_of t seat p ss)
payouts_keep kind_of t seat p is seats alone [] keys = tt
payouts_keep kind_of t seat p is seats alone (s ∷ ss) keys = (
  keeps_seats (payout_move kind_of t seat p s) seat p s.keyword refl refl t seats (all_weaker (λ (u : Seat). (seat == u.opening.seat) ≡ true → u ≡ is) (λ (u : Seat). (seat == u.opening.seat) ≡ true → is_some (brand_under s.keyword u.slots) ≡ true) (λ u one same. ap (λ (v : Seat). is_some (brand_under s.keyword v.slots)) (one same) ∙ keys.0) seats alone),
  payouts_keep kind_of t seat (p + 1) is seats alone ss keys.1,
)

slots_there : (seats : List Seat) (n : ℕ) (seat : Seat) → slice_get seats n ≡ Some seat → slots_at seats n ≡ seat.slots
slots_there seats n seat is = ap (λ (o : Option Seat). unwrap_or (option_map (λ (s : Seat). s.slots) o) []) is

pub exit_is_act : ExitIsAct
exit_is_act kind_of owners t here w x can i at =
    let seat : Seat = can.is_open.seat in
    let there : InTurn = at_place owners t here w i in
    let after : InTurn = record { before = there.before; row = t; here = here ++ exited x ∷ []; now = with_row there.now (exited x); due = [] } in
    let due : (after_event there (exited x)) ≡ record after { due = dues w.table x.seat x.payouts seat.slots } =
    λ j. record after { due = dues w.table x.seat x.payouts (slots_there w.seats x.seat seat can.is_open.was_opened j) } in
    let paid = payouts_in_place kind_of w.table x.seat w.payments x.payouts seat.slots after can.values can.named at.made in
    let ms : List Event = map moved (payout_moves kind_of w.table x.seat w.payments seat.slots) in
    carried owners t here w i at (exit_rows kind_of w seat x) (after_exit kind_of w seat x) (
      (
        record {
          is_open = can.is_open;
          cause = can.cause;
          safe = can.safe;
          as_many = can.as_many;
          named = each_named x.payouts w.payments seat.slots can.named;
          fresh = all_weaker (λ (p : Payout). w.payments ≤ p.payment) (λ (p : Payout). names p.payment i.now.moves ≡ false) (λ p past. at.made p.payment past) x.payouts can.fresh;
        },
        tt,
      ),
      subst (λ (j : InTurn). AreInPlace j ms) (sym due) paid.0,
    )
    (ap (λ (j : InTurn). (after_events j ms).due) due ∙ paid.1)
    refl
    (seats_kept (with_row there.now (exited x)) (map (with_exit w.table x.seat) w.seats) (payout_moves kind_of w.table x.seat w.payments seat.slots) refl
    (payouts_keep kind_of w.table x.seat w.payments seat w.seats can.alone seat.slots (own_keywords seat.slots)))
    (omega arith)
    (λ p past. names_past kind_of w.table x.seat w.payments p seat.slots past)

-- ---- an offer

-- a movement from a payment to a slot that is there opens none
fills_seat : (m : Move) (seat p : ℕ) (keyword : List ℕ) → m.from ≡ Payment p → m.to ≡ Slot seat keyword → (u : Seat) → ((seat == u.opening.seat) ≡ true → is_some (brand_under keyword u.slots) ≡ true) → with_move m u ≡ u
fills_seat m seat p keyword from to u has = rw (from, to) (by (seat == u.opening.seat) refl)
  where
    by : (b : Bool) → (seat == u.opening.seat) ≡ b → record u { slots = if b then (if is_some (brand_under keyword u.slots) then u.slots else u.slots ++ record { keyword = keyword; brand = m.brand } ∷ []) else u.slots } ≡ u
    by true is = rw (has is) refl
    by false is = refl

-- a burn names no slot
burns_seat : (m : Move) (p : ℕ) → m.from ≡ Payment p → m.to ≡ Outside → (u : Seat) → with_move m u ≡ u
burns_seat m p from to u = rw (from, to) refl

same_all : {A : Type 0} (f : A → A) (xs : List A) → AllByRecursion (λ x. f x ≡ x) xs → map f xs ≡ xs
same_all f [] h = refl
same_all f (x ∷ xs) h = rw (h.0, same_all f xs h.1) refl

each_one : {A : Type 0} (P : A → Type 0) → ((x : A) → P x) → (xs : List A) → AllByRecursion P xs
each_one P so [] = tt
each_one P so (x ∷ xs) = (so x, each_one P so xs)

all_push : {A : Type 0} (P : A → Type 0) (xs : List A) (x : A) → AllByRecursion P xs → P x → AllByRecursion P (xs ++ x ∷ [])
all_push P [] x h last = (last, tt)
all_push P (y ∷ xs) x h last = (h.0, all_push P xs x h.1 last)

some_is : {A : Type 0} (o : Option A) (x : A) → o ≡ Some x → is_some o ≡ true
some_is o x is = rw is refl

-- each escrow leaves the seats alone
escrows_keep : (o : Opening) (seats : List Seat) → AllByRecursion (λ (s : Seat). (o.seat == s.opening.seat) ≡ false) seats
    → (rs : List KeywordAmount) (ms : List Move) → AllByRecursion (λ (r : KeywordAmount). brand_under r.keyword (new_seat o).slots ≡ Some r.brand) rs → AreEscrows o.seat rs ms
    → AllByRecursion (λ m. map (with_move m) (seats ++ new_seat o ∷ []) ≡ seats ++ new_seat o ∷ []) ms
escrows_keep o seats alone [] [] brands escrows = tt
escrows_keep o seats alone [] (m ∷ ms) brands escrows = absurd escrows
escrows_keep o seats alone (r ∷ rs) [] brands escrows = absurd escrows
escrows_keep o seats alone (r ∷ rs) (m ∷ ms) brands escrows =
    let e : IsEscrow o.seat r m = escrows.0 in
    let from : m.from ≡ Payment e.payment = ap (λ (n : Move). n.from) e.is in
    let to : m.to ≡ Slot o.seat r.keyword = ap (λ (n : Move). n.to) e.is in
    let keeps : (u : Seat) → ((o.seat == u.opening.seat) ≡ true → is_some (brand_under r.keyword u.slots) ≡ true) → with_move m u ≡ u = fills_seat m o.seat e.payment r.keyword from to in
    let others : AllByRecursion (λ u. with_move m u ≡ u) seats =
    all_weaker (λ (s : Seat). (o.seat == s.opening.seat) ≡ false) (λ u. with_move m u ≡ u) (λ u other. keeps u (λ same. absurd (cc))) seats alone in (
      same_all (with_move m) (seats ++ new_seat o ∷ []) (all_push (λ u. with_move m u ≡ u) seats (new_seat o) others (keeps (new_seat o) (λ same. some_is _ r.brand brands.0))),
      escrows_keep o seats alone rs ms brands.1 escrows.1,
    )

-- escrows are in place where they are due, and then none is
escrows_in_place : (seat : ℕ) (amounts : List KeywordAmount) (ms : List Move) (j : InTurn) → AreEscrows seat amounts ms
    → AreInPlace (record j { due = map (escrow seat) amounts }) (map moved ms) × ((after_events (record j { due = map (escrow seat) amounts }) (map moved ms)).due ≡ [])
escrows_in_place seat [] [] j escrows = (tt, refl)
escrows_in_place seat [] (m ∷ ms) j escrows = absurd escrows
escrows_in_place seat (a ∷ amounts) [] j escrows = absurd escrows
escrows_in_place seat (a ∷ amounts) (m ∷ ms) j escrows =
    let rest = escrows_in_place seat amounts ms (record j { here = j.here ++ moved m ∷ []; now = with_row j.now (moved m) }) escrows.1 in
    (((escrows.0, tt), rest.0), rest.1)

pub offer_is_act : OfferIsAct
offer_is_act owners t here w o burn escrows can i at =
    let there : InTurn = at_place owners t here w i in
    let seats : List Seat = w.seats ++ new_seat o ∷ [] in
    let first : InTurn = record { before = there.before; row = t; here = here ++ opened o ∷ []; now = with_row there.now (opened o); due = burn_due ∷ map (escrow o.seat) o.give } in
    let due : after_event there (opened o) ≡ first = λ j. record first { due = if can.offers j then burn_due ∷ map (escrow o.seat) o.give else [] } in
    let second : InTurn = record { before = there.before; row = t; here = (here ++ opened o ∷ []) ++ moved burn ∷ []; now = with_row (with_row there.now (opened o)) (moved burn); due = [] } in
    let rest = escrows_in_place o.seat o.give escrows second can.escrowed in
    let ms : List Event = moved burn ∷ map moved escrows in
    let burned : map (with_move burn) seats ≡ seats = same_all (with_move burn) seats (each_one (λ u. with_move burn u ≡ u) (burns_seat burn can.burns.payment can.burns.from can.burns.to) seats) in
    let kept = escrows_keep o w.seats can.opens.alone o.give escrows (all_first (λ (r : KeywordAmount). brand_under r.keyword (new_seat o).slots ≡ Some r.brand) o.give o.want can.opens.of_brand) can.escrowed in
    carried owners t here w i at (offer_rows o burn escrows) (after_offer w o burn escrows)
    ((record { next = can.opens.next; of_brand = can.opens.of_brand; by = inl can.offers; empty = λ follows. absurd (can.no_kit follows) }, λ none. absurd (cc)), subst (λ (j : InTurn). AreInPlace j ms) (sym due) ((can.burns, tt), rest.0))
    (ap (λ (j : InTurn). (after_events j ms).due) due ∙ rest.1)
    refl
    (seats_kept (with_row there.now (opened o)) seats (burn ∷ escrows) refl (burned, kept))
    (omega arith)
    can.made

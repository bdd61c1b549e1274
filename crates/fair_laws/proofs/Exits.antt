-- A seat that is left is an act: it exits for its first cause, and each slot goes whole to a payment of its own.
use Rattle.std.specs.Prelude.{◌≡◌, ◌==◌, ◌+◌, ◌<◌, ℕ, zero, suc, true, false, List, [], ◌∷◌, ◌++◌, Some, length, map, slice_set, refl}
use Rattle.std.specs.List.{AllByRecursion}
use Rattle.std.proofs.Common.{append_assoc, sym, ◌∙◌, ap, subst, arith, if◌then◌else◌}
use Rattle.std.proofs.lemmas.Bool.{eq-eqb, ne_eqb}
use Rattle.fair_rows.specs.amount_math.ValueView.{IsValue}
use Rattle.fair_rows.specs.amount_math.declared.Kind.{Kind}
use Rattle.delivery_laws.specs.ertp_mint.BrandSupply.{BrandSupply}
use Rattle.delivery_laws.specs.actors.SeatPromises.{pair_at}
use Rattle.delivery_laws.specs.promise_store.States.{ok}
use Rattle.delivery_laws.specs.proposals.Shares.{AreShares}
use Rattle.delivery_laws.specs.proposals.Slots.{emptied}
use Rattle.delivery_laws.specs.proposals.declared.allocations.Share.{Share}
use Rattle.fair_rows.specs.rights_model.Table.{Table, holds, movement, table_after}
use Rattle.fair_rows.specs.rights_model.declared.Holder.TheVariants.{Payment, Slot}
use Rattle.fair_rows.specs.rights_model.declared.Movement.{Movement}
use Rattle.delivery_laws.specs.turn_records.Events as events
use Rattle.delivery_laws.specs.turn_records.Printed.{printed_exit, printed_move}
use Rattle.fair_rows.specs.turn_rows.Causes.{Cause}
use Rattle.fair_rows.specs.turn_rows.Turns as rows
use Rattle.fair_rows.specs.turn_rows.Turns.{Move, SeatExit, Turn}
use Rattle.fair_rows.specs.Acts as fair
use Rattle.fair_rows.specs.Acts.{CanExit, IsAct, Place, after_exit, exit_rows, payout_move, rows_of_acts}
use Rattle.fair_rows.specs.ExitCauses.{Owners, first_cause}
use Rattle.fair_rows.specs.Movements.{movement_of, movements_in}
use Rattle.fair_rows.specs.Seats as told
use Rattle.fair_rows.specs.Seats.{contents_of, with_exit}
use Rattle.fair_rows.specs.Values.{value_of}
use Rattle.fair_rows.proofs.Acts.{exit_is_act}
use Rattle.delivery_laws.proofs.world_laws.Instances.{open_made}
use Rattle.delivery_laws.proofs.world_laws.Lists.{all_read_or, length_append, length_map}
use Rattle.delivery_laws.specs.world_state.Good.{AreSharesOf, AreSharesValued, IsGoodWorld}
use Rattle.delivery_laws.specs.world_state.Rights.{kind_at, slots_at}
use Rattle.delivery_laws.specs.world_state.Worlds as worlds
use Rattle.delivery_laws.specs.world_state.Worlds.{IsOpen, Seat, State, after, exit, left_seat, leaving_events, moves_out, paid_out, payouts_at, payouts_tree, seat_at}
use Rattle.delivery_laws.specs.world_laws.Tables.{table_of}
use Rattle.delivery_laws.proofs.world_laws.LeftTables.{table_left}
use Rattle.fair_laws.specs.Places.{opening_told, place_of, rows_of, seat_told, seats_from, seats_told, slot_content, slot_name}
use Rattle.fair_laws.specs.ShownEffects.{TellsActs}
use Rattle.fair_laws.proofs.HeldEffects.{open_safe, slots_hold}
use Rattle.fair_laws.proofs.Moves.{open_told}
use Rattle.fair_laws.proofs.Payouts.{payouts_count, payouts_fresh, payouts_named}
use Rattle.fair_laws.proofs.Rows.{Settles, move_rows, movements_of_rows, resolving_settles, rows_append, rows_of_moves, settle_acts, settlements_are_acts, settlements_stay, settlements_told, table_told}
use Rattle.fair_laws.proofs.Values.{printed_is}

-- ---- the seat among seats

module _ (P : told.Seat → Type 0) (v : ℕ) where
  -- seats with greater numbers are others
  past : (m : ℕ) → v < m → (ss : List Seat) (slots : List (List Share)) → AllByRecursion (λ (u : told.Seat). (v == u.opening.seat) ≡ true → P u) (seats_from m ss slots)
  past m lt [] slots = tt
  past m lt (s ∷ ss) [] = tt
  past m lt (s ∷ ss) (x ∷ xs) = (
    (λ is. let no : (v == m) ≡ false = ne_eqb v m (λ e. absurd (omega (arith, lt, e))) in absurd (let clash : true ≡ false = sym is ∙ no in cc)),
    past (suc m) (omega arith) ss xs,
  )

alone_from : (q j v : ℕ) (ss : List Seat) (slots : List (List Share)) → v ≡ q + j
    → AllByRecursion (λ (u : told.Seat). (v == u.opening.seat) ≡ true → u ≡ seat_told v (seat_at ss j) (slots_at slots j)) (seats_from q ss slots)
alone_from q j v [] slots at = tt
alone_from q j v (s ∷ ss) [] at = tt
alone_from q zero v (s ∷ ss) (x ∷ xs) at = (
  (λ is. ap (λ n. seat_told n s x) (let e : q ≡ v = omega (arith, at) in e)),
  past (λ u. u ≡ seat_told v s x) v (suc q) (omega (arith, at)) ss xs,
)
alone_from q (suc j) v (s ∷ ss) (x ∷ xs) at = (
  (λ is. let no : (v == q) ≡ false = ne_eqb v q (λ e. absurd (omega (arith, at, e))) in absurd (let clash : true ≡ false = sym is ∙ no in cc)),
  alone_from (suc q) j v ss xs (omega (arith, at)),
)

-- ---- it is left

abbrev HoldsRow : Table → ℕ → Share → Type 0
HoldsRow t s r = holds t (Slot s r.keyword) r.amount.brand ≡ r.amount.value.content

module _ (t : Table) (v : ℕ) where
  others_stay : (m : ℕ) → v < m → (ss : List Seat) (slots : List (List Share)) → map (with_exit t v) (seats_from m ss slots) ≡ seats_from m ss slots
  others_stay m lt [] slots = refl
  others_stay m lt (s ∷ ss) [] = refl
  others_stay m lt (s ∷ ss) (x ∷ xs) =
      ap (λ b. (if b then record (seat_told m s x) { last = Some (contents_of t (seat_told m s x)) } else seat_told m s x) ∷ map (with_exit t v) (seats_from (suc m) ss xs)) (ne_eqb m v (λ e. absurd (omega (arith, lt, e))))
      ∙ ap (λ l. seat_told m s x ∷ l) (others_stay (suc m) (omega arith) ss xs)

  contents_told : (rs : List Share) → AllByRecursion (HoldsRow t v) rs → map (λ (n : told.SlotName). holds t (Slot v n.keyword) n.brand) (map slot_name rs) ≡ map slot_content rs
  contents_told [] all = refl
  contents_told (r ∷ rs) all = ap (λ c. c ∷ map (λ (n : told.SlotName). holds t (Slot v n.keyword) n.brand) (map slot_name rs)) all.0 ∙ ap (λ l. slot_content r ∷ l) (contents_told rs all.1)

  names_emptied : (rs : List Share) → map slot_name (map emptied rs) ≡ map slot_name rs
  names_emptied [] = refl
  names_emptied (r ∷ rs) = ap (λ l. slot_name r ∷ l) (names_emptied rs)

  one_left : (s : Seat) (x : List Share) → AllByRecursion (HoldsRow t v) x → with_exit t v (seat_told v s x) ≡ seat_told v (left_seat s x) (map emptied x)
  one_left s x all =
      ap (λ b. if b then record (seat_told v s x) { last = Some (contents_of t (seat_told v s x)) } else seat_told v s x) (eq-eqb v v refl)
      ∙ (λ i. record { opening = opening_told v s; slots = sym (names_emptied x) i; last = Some (contents_told x all i) })

  seats_are_left : (q j : ℕ) (ss : List Seat) (slots : List (List Share)) → v ≡ q + j → AllByRecursion (HoldsRow t v) (slots_at slots j)
      → map (with_exit t v) (seats_from q ss slots) ≡ seats_from q (slice_set ss j (left_seat (seat_at ss j) (slots_at slots j))) (slice_set slots j (map emptied (slots_at slots j)))
  seats_are_left q j [] slots at all = refl
  seats_are_left q zero (s ∷ ss) [] at all = refl
  seats_are_left q (suc j) (s ∷ ss) [] at all = refl
  seats_are_left q zero (s ∷ ss) (x ∷ xs) at all =
      ap (λ l. with_exit t v (seat_told q s x) ∷ l) (others_stay (suc q) (omega (arith, at)) ss xs)
      ∙ ap (λ n. with_exit t v (seat_told n s x) ∷ seats_from (suc q) ss xs) (let e : q ≡ v = omega (arith, at) in e)
      ∙ ap (λ y. y ∷ seats_from (suc q) ss xs) (one_left s x all)
      ∙ ap (λ n. seat_told n (left_seat s x) (map emptied x) ∷ seats_from (suc q) ss xs) (let e : v ≡ q = omega (arith, at) in e)
  seats_are_left q (suc j) (s ∷ ss) (x ∷ xs) at all =
      ap (λ b. (if b then record (seat_told q s x) { last = Some (contents_of t (seat_told q s x)) } else seat_told q s x) ∷ map (with_exit t v) (seats_from (suc q) ss xs)) (ne_eqb q v (λ e. absurd (omega (arith, at, e))))
      ∙ ap (λ l. seat_told q s x ∷ l) (seats_are_left (suc q) j ss xs (omega (arith, at)) all)

-- ---- its payouts as they are told

payouts_told : (out : List BrandSupply) (t : Table) (s n : ℕ) (rs : List Share) → AllByRecursion (HoldsRow t s) rs → AreSharesOf out rs → fair.payout_moves (kind_at out) t s n (map slot_name rs) ≡ map printed_move (worlds.payout_moves s n rs)
payouts_told out t s n [] all of = refl
payouts_told out t s n (r ∷ rs) all of =
    ap (λ (m : Move). m ∷ fair.payout_moves (kind_at out) t s (n + 1) (map slot_name rs)) one
    ∙ ap (λ l. printed_move (movement r.amount.brand (Slot s r.keyword) (Payment n) r.amount.value) ∷ l) (ap (λ m. fair.payout_moves (kind_at out) t s m (map slot_name rs)) (let e : n + 1 ≡ suc n = omega arith in e) ∙ payouts_told out t s (suc n) rs all.1 of.1)
  where
    one : payout_move (kind_at out) t s n (slot_name r) ≡ printed_move (movement r.amount.brand (Slot s r.keyword) (Payment n) r.amount.value)
    one = λ i. record {
      brand = r.amount.brand;
      from = Slot s r.keyword;
      to = Payment n;
      value = ((ap (λ c. value_of (kind_at out r.amount.brand) c) all.0) ∙ ap (λ k. value_of k r.amount.value.content) of.0.kind ∙ sym (printed_is r.amount.value.kind r.amount.value.content)) i;
    }

out_values : (out : List BrandSupply) (t : Table) (s : ℕ) (rs : List Share) → AllByRecursion (HoldsRow t s) rs → AreSharesOf out rs → AreSharesValued rs → AllByRecursion (λ (n : told.SlotName). IsValue (kind_at out n.brand) (holds t (Slot s n.keyword) n.brand)) (map slot_name rs)
out_values out t s [] all of valued = tt
out_values out t s (r ∷ rs) all of valued = (
  subst (λ k. IsValue k (holds t (Slot s r.keyword) r.amount.brand)) (sym of.0.kind) (subst (IsValue r.amount.value.kind) (sym all.0) valued.0),
  out_values out t s rs all.1 of.1 valued.1,
)

moves_valued : (s n : ℕ) (rs : List Share) → AreSharesValued rs → AllByRecursion (λ (m : Movement). IsValue m.value.kind m.value.content) (worlds.payout_moves s n rs)
moves_valued s n [] valued = tt
moves_valued s n (r ∷ rs) valued = (valued.0, moves_valued s (suc n) rs valued.1)

-- ---- the act

module _ (owners : Owners) (t : Turn) (w : State) (s : ℕ) (cause : Cause) (good : IsGoodWorld w) (is : IsOpen (seat_at w.seats s))
    (shown : first_cause owners t (rows_of w.log) (seat_at w.seats s).instance s ≡ Some cause) where
  abbrev slots : List Share
  slots = slots_at w.rights.slots s

  abbrev kind_of : ℕ → Kind
  kind_of = kind_at w.rights.out

  abbrev next : State
  next = after w (exit s cause)

  abbrev x : SeatExit
  x = printed_exit (record { seat = s; cause = cause; payouts = payouts_at w s })

  abbrev first : ℕ
  first = length w.rights.payments

  made : s < length w.rights.slots
  made = omega (arith, open_made w.seats s is, good.seats.slotted)

  are : AreShares slots
  are = all_read_or AreShares w.rights.slots s [] good.seats.shares (record { few = omega arith; apart = tt })

  of : AreSharesOf w.rights.out slots
  of = all_read_or (AreSharesOf w.rights.out) w.rights.slots s [] good.slot_kinds tt

  valued : AreSharesValued slots
  valued = all_read_or AreSharesValued w.rights.slots s [] good.valued.slots tt

  hold : AllByRecursion (HoldsRow (table_of w.rights) s) slots
  hold = slots_hold w.rights s are.apart

  opened : told.IsOpen (seats_told w) s
  opened = open_told w.seats w.rights good.seats.slotted s is

  can_exit : CanExit kind_of owners t (rows_of w.log) (place_of w) x
  unfolding opened
  can_exit = record {
    is_open = open_told w.seats w.rights good.seats.slotted s is;
    alone = alone_from 0 s s w.seats w.rights.slots (omega arith);
    cause = shown;
    safe = open_safe w s good is;
    values = out_values w.rights.out (table_of w.rights) s slots hold of valued;
    as_many = payouts_count first slots are.apart;
    named = payouts_named first slots are.apart;
    fresh = payouts_fresh first slots;
  }

  abbrev told_moves : List Move
  told_moves = fair.payout_moves kind_of (table_of w.rights) s first (map slot_name slots)

  same_moves : told_moves ≡ map printed_move (moves_out w s)
  same_moves = payouts_told w.rights.out (table_of w.rights) s first slots hold of

  table_is_so : table_after (table_of w.rights) (movements_in (map rows.moved told_moves)) ≡ table_of next.rights
  table_is_so =
      ap (table_after (table_of w.rights)) (movements_of_rows told_moves ∙ ap (map movement_of) same_moves)
      ∙ table_told (table_of w.rights) (moves_out w s) (moves_valued s first slots valued)
      ∙ sym (table_left w.rights s made are.apart of valued)

  payments_are_so : first + length (map slot_name slots) ≡ length next.rights.payments
  payments_are_so = omega (arith, length_append w.rights.payments (map paid_out slots), length_map slot_name slots, length_map paid_out slots)

  abbrev the_seat : told.Seat
  the_seat = seat_told s (seat_at w.seats s) slots

  leads : after_exit kind_of (place_of w) the_seat x ≡ place_of next
  leads = λ i. record {
    table = table_is_so i;
    seats = seats_are_left (table_of w.rights) s 0 s w.seats w.rights.slots (omega arith) hold i;
    payments = payments_are_so i;
  }

  exit_act : IsAct owners t (rows_of w.log) (place_of w) (exit_rows kind_of (place_of w) the_seat x) (place_of next)
  unfolding can_exit opened
  exit_act = subst (λ (p : Place). IsAct owners t (rows_of w.log) (place_of w) (exit_rows kind_of (place_of w) the_seat x) p) leads (exit_is_act kind_of owners t (rows_of w.log) (place_of w) x can_exit)

  settled : Settles (w.log ++ leaving_events w s cause) next.log
  settled = resolving_settles (pair_at w.pairs s).payouts (ok (payouts_tree w s)) w.promises w.waiting (w.log ++ leaving_events w s cause)

  leaving_told : rows_of (leaving_events w s cause) ≡ exit_rows kind_of (place_of w) the_seat x
  leaving_told = ap (λ l. rows.exited x ∷ l) (rows_of_moves (moves_out w s) ∙ sym (move_rows (moves_out w s)) ∙ ap (map rows.moved) (sym same_moves))

  pub exit_tells : TellsActs owners t w next
  exit_tells = record {
    acts = record { rows = exit_rows kind_of (place_of w) the_seat x; next = place_of next } ∷ settle_acts owners t (place_of next) settled.promises;
    are = (exit_act, settlements_are_acts owners t (place_of next) (rows_of w.log ++ exit_rows kind_of (place_of w) the_seat x) settled.promises);
    told =
        ap rows_of settled.told
        ∙ rows_append (w.log ++ leaving_events w s cause) (map (λ p. events.settled p.0 p.1) settled.promises)
        ∙ ap (λ l. l ++ rows_of (map (λ p. events.settled p.0 p.1) settled.promises)) (rows_append w.log (leaving_events w s cause) ∙ ap (λ l. rows_of w.log ++ l) leaving_told)
        ∙ ap (λ l. (rows_of w.log ++ exit_rows kind_of (place_of w) the_seat x) ++ l) (settlements_told owners t (place_of next) settled.promises)
        ∙ append_assoc (rows_of w.log) (exit_rows kind_of (place_of w) the_seat x) (rows_of_acts (settle_acts owners t (place_of next) settled.promises));
    place = settlements_stay owners t (place_of next) settled.promises;
  }

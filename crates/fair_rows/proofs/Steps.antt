-- Where a step shows of its world what it must, its turn is fair after whatever leaves that world.
use Rattle.std.proofs.Common.{◌≡◌, ◌<◌, ◌≤◌, ℕ, ◌+◌, None, Bool, true, false, cond, ◌&&◌, ◌||◌, ◌==◌, List, [], ◌∷◌, ◌++◌, map, refl, sym, ap, subst, ◌∙◌, append_assoc, append-nil, arith}
use Rattle.std.specs.List.{AllByRecursion, flat_map}
use Rattle.std.proofs.lemmas.List.Folds.{list_any-append}
use Rattle.turn_rows.specs.amount_math.Content.{Content, difference, difference-sum, nothing, nothing-sum, sum, sum-assoc, sum-comm}
use Rattle.turn_rows.specs.amount_math.Counted.{counted as size, counted-sum}
use Rattle.turn_rows.specs.amount_math.ValueView.{Fits, minted_bound}
use Rattle.turn_rows.specs.amount_math.declared.Kind.{Kind}
use Rattle.turn_rows.specs.amount_math.declared.Kind.TheVariants.{Nat}
use Rattle.turn_rows.proofs.rights_model.SupplyLaws.{balanced_after}
use Rattle.turn_rows.specs.rights_model.Supply.{Balanced, burned, is_outside, minted, moved_where, supply}
use Rattle.turn_rows.specs.rights_model.Table.{CanMoveAll, Table, holds, moved as table_moved, no_holdings, table_after}
use Rattle.turn_rows.specs.rights_model.Totals.{brands_of}
use Rattle.turn_rows.specs.rights_model.declared.Holder.{Holder}
use Rattle.turn_rows.specs.rights_model.declared.Holder.TheVariants.{Hand, Payment}
use Rattle.turn_rows.specs.rights_model.declared.Movement.{Movement}
use Rattle.serde_json.specs.Data.{Items}
use Rattle.turn_rows.specs.Editions.{written}
use Rattle.turn_rows.specs.Turns.{called, Event, exited, moved, opened, refused, settled, Turn}
use Rattle.fair_rows.specs.Amounts.{IsReadByTurn}
use Rattle.fair_rows.specs.ExitCauses.{Owners, facets_made, first_cause, instance_of}
use Rattle.fair_rows.specs.Movements.{is_payment_at, movement_of, movements_in, names, takes_from}
use Rattle.fair_rows.specs.Rows.{ChangesNothing, InTurn, after_event}
use Rattle.fair_rows.specs.Seats.{IsOpen, IsSafe, Seat}
use Rattle.fair_rows.specs.SoFar.{SoFar, amounts_at, nothing_so_far, sum_so_far, with_row, with_rows, with_turn}
use Rattle.fair_rows.specs.Strict.{AreStrictFrom, AreStrictRows, IsStrictTurn, IsToldByTurn}
use Rattle.fair_rows.specs.Steps.{AreInPlace, IsKnown, IsStep, Leaves, StepsAreFair, StepsAreStrict, TurnsStayFair, TurnsStayStrict, World, at_end, so_far_after, so_far_in, sum_in}
use Rattle.fair_rows.specs.Turns.{AreFairFrom, AreFairRows, IsCaused, IsFairEnd, IsFairTurn, IsWithin, after_events, after_turn_row}
use Rattle.fair_rows.specs.Values.{AreOfKinds, IsValueOf, Named}
use Rattle.fair_rows.proofs.Lists.{all_both, all_first, all_second, all_weaker, neither, neither_first, neither_second}

-- ---- lists of movements, one behind the other

table-append : (t : Table) (xs ys : List Movement) → table_after t (xs ++ ys) ≡ table_after (table_after t xs) ys
table-append t [] ys = refl
table-append t (x ∷ xs) ys = table-append (table_moved t x) xs ys

can-append : (t : Table) (xs ys : List Movement) → CanMoveAll t xs → CanMoveAll (table_after t xs) ys → CanMoveAll t (xs ++ ys)
can-append t [] ys h k = k
can-append t (x ∷ xs) ys h k = (h.0, can-append (table_moved t x) xs ys h.1 k)

moved_where-append : (end : Movement → Holder) (xs ys : List Movement) (b : ℕ) → moved_where end (xs ++ ys) b ≡ sum (moved_where end xs b) (moved_where end ys b)
moved_where-append end [] ys b = sym (nothing-sum (moved_where end ys b))
moved_where-append end (x ∷ xs) ys b = by (is_outside (end x) && (x.brand == b)) (moved_where-append end xs ys b)
  where
    by : (c : Bool) → moved_where end (xs ++ ys) b ≡ sum (moved_where end xs b) (moved_where end ys b)
        → cond c (sum x.value.content (moved_where end (xs ++ ys) b)) (moved_where end (xs ++ ys) b) ≡ sum (cond c (sum x.value.content (moved_where end xs b)) (moved_where end xs b)) (moved_where end ys b)
    by true rest = ap (sum x.value.content) rest ∙ sym (sum-assoc x.value.content (moved_where end xs b) (moved_where end ys b))
    by false rest = rest

-- ---- what rows tell

pub moves_told : (s : SoFar) (es : List Event) → (with_rows s es).moves ≡ s.moves ++ movements_in es
moves_told s [] = sym (append-nil s.moves)
moves_told s (called c ∷ es) = moves_told s es
moves_told s (opened o ∷ es) = moves_told (with_row s (opened o)) es
moves_told s (moved m ∷ es) = moves_told (with_row s (moved m)) es ∙ append_assoc s.moves (movement_of m ∷ []) (movements_in es)
moves_told s (exited x ∷ es) = moves_told (with_row s (exited x)) es
moves_told s (settled p r ∷ es) = moves_told s es

pub table_told : (s : SoFar) (es : List Event) → (with_rows s es).table ≡ table_after s.table (movements_in es)
table_told s [] = refl
table_told s (called c ∷ es) = table_told s es
table_told s (opened o ∷ es) = table_told (with_row s (opened o)) es
table_told s (moved m ∷ es) = table_told (with_row s (moved m)) es
table_told s (exited x ∷ es) = table_told (with_row s (exited x)) es
table_told s (settled p r ∷ es) = table_told s es

amounts_told : (s : SoFar) (es : List Event) → (with_rows s es).amounts ≡ s.amounts ++ flat_map amounts_at es
amounts_told s [] = sym (append-nil s.amounts)
amounts_told s (called c ∷ es) = amounts_told s es
amounts_told s (opened o ∷ es) = amounts_told (with_row s (opened o)) es ∙ append_assoc s.amounts (amounts_at (opened o)) (flat_map amounts_at es)
amounts_told s (moved m ∷ es) = amounts_told (with_row s (moved m)) es ∙ append_assoc s.amounts ((m.brand, m.value) ∷ []) (flat_map amounts_at es)
amounts_told s (exited x ∷ es) = amounts_told (with_row s (exited x)) es
amounts_told s (settled p r ∷ es) = amounts_told s es

-- a turn's rows change nothing of the turn row and of what stood before it
pub before_is : (i : InTurn) (es : List Event) → (after_events i es).before ≡ i.before
before_is i [] = refl
before_is i (e ∷ es) = before_is (after_event i e) es

pub row_is : (i : InTurn) (es : List Event) → (after_events i es).row ≡ i.row
row_is i [] = refl
row_is i (e ∷ es) = row_is (after_event i e) es

pub now_is : (i : InTurn) (es : List Event) → (after_events i es).now ≡ with_rows i.now es
now_is i [] = refl
now_is i (e ∷ es) = now_is (after_event i e) es

pub here_is : (i : InTurn) (es : List Event) → (after_events i es).here ≡ i.here ++ es
here_is i [] = sym (append-nil i.here)
here_is i (e ∷ es) = here_is (after_event i e) es ∙ append_assoc i.here (e ∷ []) es

-- no less is minted with more rows
no_less_minted : (s : SoFar) (es : List Event) (b : ℕ) → size (minted s.moves b) ≤ size (minted (with_rows s es).moves b)
no_less_minted s es b =
    let both : minted (with_rows s es).moves b ≡ sum (minted s.moves b) (minted (movements_in es) b) =
    ap (λ (xs : List Movement). minted xs b) (moves_told s es) ∙ moved_where-append (λ m. m.from) s.moves (movements_in es) b in
    omega (arith, ap size both, counted-sum (minted s.moves b) (minted (movements_in es) b))

-- ---- rows in place, of movements that can be made and values of their kinds, are fair

module _ (kind_of : ℕ → Kind) where
  rows_are_fair : (i : InTurn) (es : List Event) → AreInPlace i es → CanMoveAll i.now.table (movements_in es)
      → ((p : ℕ) → takes_from p i.before.moves ≡ true → names p (movements_in es) ≡ false)
      → AreOfKinds kind_of i.now.amounts → AreOfKinds kind_of (flat_map amounts_at es)
      → ((code : List ℕ) (shown : Items) → i.row.answer ≡ refused code shown → AllByRecursion ChangesNothing es)
      → ((b : ℕ) → size (minted (with_rows i.now es).moves b) ≤ minted_bound)
      → AreFairRows i es
  rows_are_fair i [] place can live told values refusal few = tt
  rows_are_fair i (called c ∷ es) place can live told values refusal few = (
    record { place = place.0.0; moves = tt; kinds = record { kind_of = kind_of; values = told }; refusal = λ code shown is. tt },
    rows_are_fair (after_event i (called c)) es place.1 can live told values (λ code shown is. (refusal code shown is).1) few,
  )
  rows_are_fair i (settled p r ∷ es) place can live told values refusal few = (
    record { place = place.0.0; moves = tt; kinds = record { kind_of = kind_of; values = told }; refusal = λ code shown is. tt },
    rows_are_fair (after_event i (settled p r)) es place.1 can live told values (λ code shown is. (refusal code shown is).1) few,
  )
  rows_are_fair i (exited x ∷ es) place can live told values refusal few = (
    record { place = place.0.0; moves = tt; kinds = record { kind_of = kind_of; values = told }; refusal = λ code shown is. (refusal code shown is).0 },
    rows_are_fair (after_event i (exited x)) es place.1 can live told values (λ code shown is. (refusal code shown is).1) few,
  )
  rows_are_fair i (opened o ∷ es) place can live told values refusal few =
      let P = λ (a : Named). IsValueOf (kind_of a.0) a.1 in
      let both = all_both P i.now.amounts (amounts_at (opened o)) told (all_first P (amounts_at (opened o)) (flat_map amounts_at es) values) in (
        record { place = place.0.0; moves = tt; kinds = record { kind_of = kind_of; values = both }; refusal = λ code shown is. (refusal code shown is).0 },
        rows_are_fair (after_event i (opened o)) es place.1 can live both (all_second P (amounts_at (opened o)) (flat_map amounts_at es) values) (λ code shown is. (refusal code shown is).1) few,
      )
  rows_are_fair i (moved m ∷ es) place can live told values refusal few =
      let P = λ (a : Named). IsValueOf (kind_of a.0) a.1 in
      let both = all_both P i.now.amounts ((m.brand, m.value) ∷ []) told (values.0, tt) in (
        record {
          place = place.0.0;
          moves = record { defined = can.0; minted = omega (arith, few m.brand, no_less_minted (with_row i.now (moved m)) es m.brand); live = λ p takes. neither_first (is_payment_at p m.from || is_payment_at p m.to) (names p (movements_in es)) (live p takes) };
          kinds = record { kind_of = kind_of; values = both };
          refusal = λ code shown is. (refusal code shown is).0;
        },
        rows_are_fair (after_event i (moved m)) es place.1 can.1 (λ p takes. neither_second (is_payment_at p m.from || is_payment_at p m.to) (names p (movements_in es)) (live p takes)) both values.1 (λ code shown is. (refusal code shown is).1) few,
      )

-- rows in place are strict
rows_are_strict : (i : InTurn) (es : List Event) → AreInPlace i es → AreStrictRows i es
rows_are_strict i [] place = tt
rows_are_strict i (e ∷ es) place = (place.0.1, rows_are_strict (after_event i e) es place.1)

-- ---- a step

-- what fits a value of a kind is within what a run writes
within_written : (kind : Kind) (c : Content) → Fits kind c → IsWithin written kind c
within_written Nat c fits = λ k. omega (arith, fits.each k)
within_written _ c fits = tt

still_known : (w next : World) → w.brands ≤ next.brands → ((b : ℕ) → b < w.brands → next.kind_of b ≡ w.kind_of b) → (a : Named) → IsKnown w a → IsKnown next a
still_known w next more same a h =
    let kind : next.kind_of a.0 ≡ w.kind_of a.0 = same a.0 h.made in
    record { made = omega (arith, h.made, more); of_kind = record { content = h.of_kind.content; value = rw kind h.of_kind.value; is = rw kind h.of_kind.is } }

-- what is told is what is told where the world lies
told_is : (s : SoFar) (w : World) → Leaves s w → s ≡ so_far_in w s.moves s.amounts
told_is s w l = λ i. record { turns = l.turns i; table = l.table i; moves = s.moves; amounts = s.amounts; seats = l.seats i; owners = l.owners i }

module _ (w next : World) (t : Turn) (s : SoFar) (step : IsStep w t next) (leaves : Leaves s w) where
  abbrev start : InTurn
  start = after_turn_row s t

  abbrev end : InTurn
  end = after_events start t.events

  abbrev ms : List Movement
  ms = movements_in t.events

  all_moves : (with_turn s t).moves ≡ s.moves ++ ms
  all_moves = moves_told s t.events

  table_is : (with_turn s t).table ≡ next.table
  table_is = table_told s t.events ∙ ap (λ u. table_after u ms) leaves.table ∙ sym step.table

  here_all : end.here ≡ t.events
  here_all = here_is start t.events

  now_all : end.now ≡ with_rows s t.events
  now_all = now_is start t.events

  same_end : end ≡ at_end w t s.moves s.amounts
  same_end = ap (λ (u : SoFar). after_events (after_turn_row u t) t.events) (told_is s w leaves)

  seats_are : (with_rows s t.events).seats ≡ next.seats
  seats_are = sym (ap (λ (u : SoFar). u.seats) now_all) ∙ ap (λ (i : InTurn). i.now.seats) same_end ∙ step.rows.seats s.moves s.amounts leaves.made

  minted_more : (b : ℕ) → minted (with_turn s t).moves b ≡ sum (minted s.moves b) (minted ms b)
  minted_more b = ap (λ (xs : List Movement). minted xs b) all_moves ∙ moved_where-append (λ m. m.from) s.moves ms b

  burned_more : (b : ℕ) → burned (with_turn s t).moves b ≡ sum (burned s.moves b) (burned ms b)
  burned_more b = ap (λ (xs : List Movement). burned xs b) all_moves ∙ moved_where-append (λ m. m.to) s.moves ms b

  minted_is : (b : ℕ) → next.minted b ≡ size (minted (with_turn s t).moves b)
  minted_is b = step.minted_is b ∙ ap (λ n. n + size (minted ms b)) (leaves.minted_is b) ∙ sym (counted-sum (minted s.moves b) (minted ms b)) ∙ sym (ap size (minted_more b))

  burned_is : (b : ℕ) → next.burned b ≡ size (burned (with_turn s t).moves b)
  burned_is b = step.burned_is b ∙ ap (λ n. n + size (burned ms b)) (leaves.burned_is b) ∙ sym (counted-sum (burned s.moves b) (burned ms b)) ∙ sym (ap size (burned_more b))

  -- what is out and what was burned are what was minted
  out_is : (b : ℕ) → sum (next.out b) (burned (with_turn s t).moves b) ≡ minted (with_turn s t).moves b
  out_is b =
      let before = burned s.moves b in
      let here = burned ms b in
      ap (sum (next.out b)) (burned_more b ∙ sum-comm before here)
      ∙ sym (sum-assoc (next.out b) here before)
      ∙ ap (λ c. sum c before) (step.out b)
      ∙ sum-assoc (w.out b) (minted ms b) before
      ∙ ap (sum (w.out b)) (sum-comm (minted ms b) before)
      ∙ sym (sum-assoc (w.out b) before (minted ms b))
      ∙ ap (λ c. sum c (minted ms b)) (leaves.out b)
      ∙ sym (minted_more b)

  supply_is : (b : ℕ) → supply (with_turn s t).moves b ≡ next.out b
  supply_is b = ap (λ c. difference c (burned (with_turn s t).moves b)) (sym (out_is b)) ∙ difference-sum (next.out b) (burned (with_turn s t).moves b)

  defined_here : CanMoveAll s.table ms
  defined_here = subst (λ u. CanMoveAll u ms) (sym leaves.table) step.defined

  defined_so : CanMoveAll no_holdings (with_turn s t).moves
  defined_so = subst (CanMoveAll no_holdings) (sym all_moves) (can-append no_holdings s.moves ms leaves.defined (subst (λ u. CanMoveAll u ms) leaves.made_of defined_here))

  made_of : (with_turn s t).table ≡ table_after no_holdings (with_turn s t).moves
  made_of = table_told s t.events ∙ ap (λ u. table_after u ms) leaves.made_of ∙ sym (ap (table_after no_holdings) all_moves ∙ table-append no_holdings s.moves ms)

  values_before : AllByRecursion (IsKnown next) s.amounts
  values_before = all_weaker (IsKnown w) (IsKnown next) (still_known w next step.brands step.kinds) s.amounts leaves.values

  values_known : AllByRecursion (IsKnown next) (with_turn s t).amounts
  values_known = subst (AllByRecursion (IsKnown next)) (sym (amounts_told s t.events)) (all_both (IsKnown next) s.amounts (flat_map amounts_at t.events) values_before step.values)

  of_kinds : (amounts : List Named) → AllByRecursion (IsKnown next) amounts → AreOfKinds next.kind_of amounts
  of_kinds amounts known = all_weaker (IsKnown next) (λ (a : Named). IsValueOf (next.kind_of a.0) a.1) (λ a h. h.of_kind) amounts known

  balanced_so : Balanced (with_turn s t).table next.kind_of (supply (with_turn s t).moves)
  balanced_so =
      subst (λ u. Balanced u next.kind_of (supply (with_turn s t).moves)) (sym made_of)
      (balanced_after (with_turn s t).moves next.kind_of defined_so
      (λ b. subst (λ u. holds u Hand b ≡ nothing) (sym table_is ∙ made_of) (step.hand b))
      (λ b. subst (Fits (next.kind_of b)) (sym (supply_is b)) (step.fits b)))

  sum_is : (b : ℕ) → sum_in next b ≡ sum_so_far (with_rows s t.events) b
  sum_is b = rw (minted_is b, burned_is b, ← table_is) refl

  sums_are : (bs : List ℕ) → map (sum_in next) bs ≡ map (sum_so_far (with_rows s t.events)) bs
  sums_are [] = refl
  sums_are (b ∷ bs) = rw (sum_is b, sums_are bs) refl

  taken_here : (p : ℕ) → takes_from p s.moves ≡ true → names p ms ≡ false
  taken_here p takes = step.live p (leaves.taken p ∙ takes)

  -- facts on the next world's seats, where the turn ends
  end_is : end ≡ record { before = s; row = t; here = t.events; now = with_rows s t.events; due = end.due }
  end_is = λ i. record { before = before_is start t.events i; row = row_is start t.events i; here = here_all i; now = now_all i; due = end.due }

  fair_end : IsFairEnd written (record { before = s; row = t; here = t.events; now = with_rows s t.events; due = end.due }) t.sums
  fair_end = record {
    complete = ap (λ (i : InTurn). i.due) same_end ∙ step.rows.complete s.moves s.amounts leaves.made;
    sums = step.sums ∙ sums_are (brands_of ms);
    balanced = record { kind_of = next.kind_of; values = of_kinds (with_turn s t).amounts values_known; adds_up = balanced_so; within = λ b. within_written (next.kind_of b) (supply (with_turn s t).moves b) (balanced_so.bounded b) };
    safe = subst (λ (p : List Seat × Table). (seat : ℕ) (is_open : IsOpen p.0 seat) → IsSafe p.1 is_open.seat.opening) (λ i. (sym seats_are i, sym table_is i)) step.safe;
    stays = subst (λ (p : List Seat × Owners). (seat : ℕ) (is_open : IsOpen p.0 seat) → first_cause p.1 t t.events is_open.seat.opening.instance seat ≡ None) (λ i. (sym seats_are i, sym leaves.owners i)) step.stays;
    caused = subst (λ (p : List Seat × Owners). AllByRecursion (IsCaused p.0 p.1 t t.events) t.events) (λ i. (sym seats_are i, sym leaves.owners i)) step.caused;
    emptied = λ p b takes. subst (λ u. holds u (Payment p) b ≡ nothing) (sym table_is) (step.emptied p b takes);
  }

  fair_turn : IsFairTurn written s t
  fair_turn = record {
    row = record { number = omega (arith, step.number, leaves.turns); read = subst (λ (p : Table × List Seat). IsReadByTurn p.0 p.1 t) (λ i. (sym leaves.table i, sym leaves.seats i)) step.read };
    events = rows_are_fair next.kind_of start t.events
        (subst (λ (u : SoFar). AreInPlace (after_turn_row u t) t.events) (sym (told_is s w leaves)) (step.rows.place s.moves s.amounts leaves.made))
        defined_here taken_here (of_kinds s.amounts values_before) (of_kinds (flat_map amounts_at t.events) step.values) step.refusal
        (λ b. subst (λ n. n ≤ minted_bound) (minted_is b) (step.minted_bounded b));
    end = subst (λ (i : InTurn). IsFairEnd written i t.sums) (sym end_is) fair_end;
  }

  strict_turn : IsStrictTurn s t
  strict_turn = record {
    form = step.form;
    told = subst (λ (p : Table × List Seat). IsToldByTurn p.0 p.1 t) (λ i. (sym leaves.table i, sym leaves.seats i)) step.told;
    rows = rows_are_strict start t.events (subst (λ (u : SoFar). AreInPlace (after_turn_row u t) t.events) (sym (told_is s w leaves)) (step.rows.place s.moves s.amounts leaves.made));
  }

  taken_by : (p : ℕ) (a b : Bool) → a ≡ takes_from p s.moves → b ≡ takes_from p ms → w.is_taken p ≡ a → next.is_taken p ≡ (a || b)
  taken_by p true b before here was = step.stays_taken p was
  taken_by p false b before here was = step.taken p was ∙ sym here

  leaves_next : Leaves (with_turn s t) next
  leaves_next = record {
    turns = omega (arith, leaves.turns, step.turns);
    table = table_is;
    seats = seats_are;
    owners = ap (λ os. os ++ facets_made (instance_of os t.kind t) t.events) leaves.owners ∙ sym step.owners;
    defined = defined_so;
    made_of = made_of;
    out = out_is;
    minted_is = minted_is;
    burned_is = burned_is;
    values = values_known;
    taken = λ p. taken_by p (takes_from p s.moves) (takes_from p ms) refl refl (leaves.taken p) ∙ sym (ap (takes_from p) all_moves ∙ list_any-append (λ (m : Movement). is_payment_at p m.from) s.moves ms);
    made = λ p past. ap (names p) all_moves ∙ list_any-append (λ (m : Movement). is_payment_at p m.from || is_payment_at p m.to) s.moves ms
        ∙ neither (names p s.moves) (names p ms) (leaves.made p (omega (arith, past, step.payments))) (step.made p past);
  }

pub steps_are_fair : StepsAreFair
steps_are_fair w next t s step leaves = (fair_turn w next t s step leaves, leaves_next w next t s step leaves)

pub steps_are_strict : StepsAreStrict
steps_are_strict w next t s step leaves = strict_turn w next t s step leaves

-- ---- lists of turns

push_fair : (s : SoFar) (ts : List Turn) (t : Turn) → AreFairFrom written s ts → IsFairTurn written (so_far_after ts s) t → AreFairFrom written s (ts ++ t ∷ [])
push_fair s [] t fair last = (last, tt)
push_fair s (u ∷ ts) t fair last = (fair.0, push_fair (with_turn s u) ts t fair.1 last)

push_strict : (s : SoFar) (ts : List Turn) (t : Turn) → AreStrictFrom s ts → IsStrictTurn (so_far_after ts s) t → AreStrictFrom s (ts ++ t ∷ [])
push_strict s [] t strict last = (last, tt)
push_strict s (u ∷ ts) t strict last = (strict.0, push_strict (with_turn s u) ts t strict.1 last)

push_told : (s : SoFar) (ts : List Turn) (t : Turn) → so_far_after (ts ++ t ∷ []) s ≡ with_turn (so_far_after ts s) t
push_told s [] t = refl
push_told s (u ∷ ts) t = push_told (with_turn s u) ts t

pub stay_fair : TurnsStayFair
stay_fair w next t ts step fair leaves =
    let s = so_far_after ts nothing_so_far in
    (push_fair nothing_so_far ts t fair (fair_turn w next t s step leaves), subst (λ (u : SoFar). Leaves u next) (sym (push_told nothing_so_far ts t)) (leaves_next w next t s step leaves))

pub stay_strict : TurnsStayStrict
stay_strict w next t ts step strict leaves = push_strict nothing_so_far ts t strict (strict_turn w next t (so_far_after ts nothing_so_far) step leaves)

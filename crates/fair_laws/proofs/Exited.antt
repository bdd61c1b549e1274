-- Seats that were left in the turn aren't open, and stay so, whatever is told.
use Rattle.std.specs.Prelude.{◌≡◌, ◌≢◌, ◌==◌, ◌<◌, ◌≤◌, ◌++◌, ℕ, Bool, true, false, List, [], ◌∷◌, Some, None, length, map, refl, slice_set}
use Rattle.std.specs.List.{AllByRecursion}
use Rattle.std.proofs.Common.{sym, ◌∙◌, ap, subst, arith}
use Rattle.std.proofs.lemmas.Bool.Decides.{nat_tests}
use Rattle.delivery_laws.proofs.lemmas.ListEdits.{length_set, read_other, read_set}
use Rattle.delivery_laws.specs.promise_store.States.{SettlementView}
use Rattle.delivery_laws.specs.proposals.declared.allocations.Share.{Share}
use Rattle.fair_rows.specs.rights_model.declared.Movement.{Movement}
use Rattle.delivery_laws.specs.turn_records.Events as events
use Rattle.delivery_laws.specs.turn_records.Events.{Event}
use Rattle.delivery_laws.proofs.world_laws.Lists.{all_append}
use Rattle.delivery_laws.specs.world_state.Worlds.{IsOpen, Seat, left_seat, no_seat, seat_at}
use Rattle.fair_laws.specs.Owed.{IsLeft}
use Rattle.fair_laws.specs.Places.{rows_of}
use Rattle.fair_laws.proofs.Shown.{IsNoExitOf}

-- rows tell no exit of a seat that is open
pub left_rows : (seats : List Seat) (n : ℕ) → IsOpen (seat_at seats n) → (es : List Event) → AllByRecursion (IsLeft seats) es → AllByRecursion (IsNoExitOf n) (rows_of es)
left_rows seats n opens [] all = tt
left_rows seats n opens (events.exited x ∷ es) all = (by (x.seat == n) refl, left_rows seats n opens es all.1)
  where
    by : (b : Bool) → (x.seat == n) ≡ b → (x.seat == n) ≡ false
    by false is = is
    by true is = let same : x.seat ≡ n = grind (arith, nat_tests) in absurd (all.0.1 (subst (λ m. IsOpen (seat_at seats m)) (sym same) opens))
left_rows seats n opens (events.called c ∷ es) all = (tt, left_rows seats n opens es all.1)
left_rows seats n opens (events.opened o ∷ es) all = (tt, left_rows seats n opens es all.1)
left_rows seats n opens (events.moved m ∷ es) all = (tt, left_rows seats n opens es all.1)
left_rows seats n opens (events.settled p s ∷ es) all = (tt, left_rows seats n opens es all.1)

-- ---- seats that change

-- where no seat is opened that was left
pub left_more : (old new : List Seat) → length old ≤ length new → ((m : ℕ) → m < length old → IsOpen (seat_at new m) → IsOpen (seat_at old m)) → (es : List Event) → AllByRecursion (IsLeft old) es → AllByRecursion (IsLeft new) es
left_more old new more keeps [] all = tt
left_more old new more keeps (events.exited x ∷ es) all = ((omega (arith, all.0.0, more), λ opens. all.0.1 (keeps x.seat all.0.0 opens)), left_more old new more keeps es all.1)
left_more old new more keeps (events.called c ∷ es) all = (tt, left_more old new more keeps es all.1)
left_more old new more keeps (events.opened o ∷ es) all = (tt, left_more old new more keeps es all.1)
left_more old new more keeps (events.moved m ∷ es) all = (tt, left_more old new more keeps es all.1)
left_more old new more keeps (events.settled p s ∷ es) all = (tt, left_more old new more keeps es all.1)

-- ---- events

-- an exit is that of the seat
abbrev pub IsExitAt : ℕ → Event → Type 0
IsExitAt s (events.exited x) = x.seat ≡ s
IsExitAt s _ = Unit {0}

abbrev pub IsNoExit : Event → Type 0
IsNoExit (events.exited x) = ⊥
IsNoExit _ = Unit {0}

pub moves_keep : (ms : List Movement) → AllByRecursion IsNoExit (map events.moved ms)
moves_keep [] = tt
moves_keep (m ∷ ms) = (tt, moves_keep ms)

pub settlements_keep : (ps : List (ℕ × SettlementView)) → AllByRecursion IsNoExit (map (λ p. events.settled p.0 p.1) ps)
settlements_keep [] = tt
settlements_keep (p ∷ ps) = (tt, settlements_keep ps)

pub none_at : (s : ℕ) (es : List Event) → AllByRecursion IsNoExit es → AllByRecursion (IsExitAt s) es
none_at s [] all = tt
none_at s (events.exited x ∷ es) all = absurd all.0
none_at s (events.called c ∷ es) all = (tt, none_at s es all.1)
none_at s (events.opened o ∷ es) all = (tt, none_at s es all.1)
none_at s (events.moved m ∷ es) all = (tt, none_at s es all.1)
none_at s (events.settled p r ∷ es) all = (tt, none_at s es all.1)

pub left_none : (seats : List Seat) (es : List Event) → AllByRecursion IsNoExit es → AllByRecursion (IsLeft seats) es
left_none seats [] all = tt
left_none seats (events.exited x ∷ es) all = absurd all.0
left_none seats (events.called c ∷ es) all = (tt, left_none seats es all.1)
left_none seats (events.opened o ∷ es) all = (tt, left_none seats es all.1)
left_none seats (events.moved m ∷ es) all = (tt, left_none seats es all.1)
left_none seats (events.settled p r ∷ es) all = (tt, left_none seats es all.1)

-- ---- a seat that is left

some_rows : (xs : List Share) → Some xs ≡ None → ⊥
some_rows xs e = cc

module _ (seats : List Seat) (s : ℕ) (rows : List Share) (there : s < length seats) where
  abbrev now : List Seat
  now = slice_set seats s (left_seat (seat_at seats s) rows)

  as_many : length now ≡ length seats
  as_many = length_set seats s (left_seat (seat_at seats s) rows)

  closed : IsOpen (seat_at now s) → ⊥
  closed opens = some_rows rows (sym (ap (λ (x : Seat). x.last) (read_set seats s (left_seat (seat_at seats s) rows) no_seat there)) ∙ opens)

  keeps : (m : ℕ) → IsOpen (seat_at now m) → IsOpen (seat_at seats m)
  keeps m opens = by (s == m) refl
    where
      by : (b : Bool) → (s == m) ≡ b → IsOpen (seat_at seats m)
      by true is = let same : s ≡ m = grind (arith, nat_tests) in absurd (closed (subst (λ k. IsOpen (seat_at now k)) (sym same) opens))
      by false is = let other : s ≢ m = λ e. grind (arith, nat_tests) in subst IsOpen (read_other seats s m (left_seat (seat_at seats s) rows) no_seat other) opens

  exits_left : (es : List Event) → AllByRecursion (IsExitAt s) es → AllByRecursion (IsLeft now) es
  exits_left [] all = tt
  exits_left (events.exited x ∷ es) all = ((omega (arith, all.0, there, as_many), λ opens. closed (subst (λ k. IsOpen (seat_at now k)) all.0 opens)), exits_left es all.1)
  exits_left (events.called c ∷ es) all = (tt, exits_left es all.1)
  exits_left (events.opened o ∷ es) all = (tt, exits_left es all.1)
  exits_left (events.moved m ∷ es) all = (tt, exits_left es all.1)
  exits_left (events.settled p r ∷ es) all = (tt, exits_left es all.1)

  pub left_then : (log es : List Event) → AllByRecursion (IsLeft seats) log → AllByRecursion (IsExitAt s) es → AllByRecursion (IsLeft now) (log ++ es)
  left_then log es all exits = all_append (IsLeft now) log es (left_more seats now (omega (arith, as_many)) (λ m lt. keeps m) log all) (exits_left es exits)

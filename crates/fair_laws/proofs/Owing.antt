-- Effects one after another: what calls show of open seats is what is still to come of departures.
use Rattle.std.specs.Prelude.{◌≡◌, ◌≢◌, ◌+◌, ◌==◌, ◌<◌, ◌≤◌, ◌++◌, ℕ, Bool, true, false, List, [], ◌∷◌, Some, None, length, map, refl, cond, slice_set}
use Rattle.std.specs.List.{AllByRecursion}
use Rattle.std.proofs.Common.{append_assoc, sym, ◌∙◌, ap, subst, arith}
use Rattle.std.proofs.lemmas.Bool.{eq-eqb, ne_eqb}
use Rattle.std.proofs.lemmas.Bool.Decides.{nat_tests}
use Rattle.delivery_laws.specs.actors.SeatPromises.{pair_at}
use Rattle.delivery_laws.specs.rules.Traces.{Departure, departure, departures_in}
use Rattle.fair_laws.specs.Places.{rows_of}
use Rattle.fair_laws.proofs.Rows.{resolving_settles, rows_append}
use Rattle.fair_rows.specs.ExitCauses.{Owners, cause_by_calls, cause_by_row, either, since_opening, while_open}
use Rattle.delivery_laws.proofs.lemmas.ListEdits.{length_push, length_set, read_before, read_other, read_set}
use Rattle.delivery_laws.specs.promise_store.States.{SettlementView, ok}
use Rattle.fair_rows.specs.rights_model.declared.Movement.{Movement}
use Rattle.delivery_laws.specs.turn_records.Events as events
use Rattle.delivery_laws.specs.turn_records.Events.{Event}
use Rattle.delivery_laws.specs.turn_records.Printed.{printed_opening}
use Rattle.fair_rows.specs.turn_rows.Causes.{Cause}
use Rattle.fair_rows.specs.turn_rows.Turns.{Turn}
use Rattle.std.proofs.lemmas.List.{append-nil}
use Rattle.delivery_laws.proofs.world_laws.Instances.{open_made}
use Rattle.delivery_laws.proofs.world_laws.Lists.{all_append}
use Rattle.delivery_laws.specs.world_state.Good.{AreGood, IsGoodEffect}
use Rattle.delivery_laws.specs.world_state.Rights.{slots_at}
use Rattle.delivery_laws.specs.world_state.Worlds.{Effect, IsOpen, Seat, State, after, after_all, burn_and_escrows, empty_seat, exit, invitation_move, invite, leaving_events, left_seat, moves, moves_out, new_seat, no_seat, note_call, of_own, offer, offered_by, payouts_tree, promises_made, resolve, seat_at}
use Rattle.delivery_laws.specs.host_data.Tree.{null}
use Rattle.delivery_laws.specs.proposals.declared.allocations.Share.{Share}
use Rattle.fair_laws.specs.Owed.{AreUncalled, HasCause, HaveCauses, IsLeft, IsUncalled, OpensBelow, Owes, cause_in, cause_shown}
use Rattle.fair_laws.proofs.Exited.{IsExitAt, IsNoExit, left_more, left_none, left_then, moves_keep, none_at, settlements_keep}
use Rattle.fair_laws.proofs.Shown.{IsNoCall, shown_new, shown_still}

-- ---- numbers

pub same_number : (m n : ℕ) → (m == n) ≡ true → m ≡ n
same_number m n is = grind (arith, nat_tests)

pub other_number : (m n : ℕ) → (m == n) ≡ false → m ≢ n
other_number m n is e = grind (arith, nat_tests)

-- ---- events that show nothing

-- neither a call nor an opening
abbrev pub IsQuiet : Event → Type 0
IsQuiet (events.called c) = ⊥
IsQuiet (events.opened o) = ⊥
IsQuiet _ = Unit {0}

quiet_rows : (es : List Event) → AllByRecursion IsQuiet es → AllByRecursion IsNoCall (rows_of es)
quiet_rows [] all = tt
quiet_rows (events.called c ∷ es) all = absurd all.0
quiet_rows (events.opened o ∷ es) all = absurd all.0
quiet_rows (events.moved m ∷ es) all = (tt, quiet_rows es all.1)
quiet_rows (events.exited x ∷ es) all = (tt, quiet_rows es all.1)
quiet_rows (events.settled p s ∷ es) all = (tt, quiet_rows es all.1)

quiet_since : (n : ℕ) (es : List Event) → AllByRecursion IsQuiet es → since_opening n (rows_of es) ≡ None
quiet_since n [] all = refl
quiet_since n (events.called c ∷ es) all = absurd all.0
quiet_since n (events.opened o ∷ es) all = absurd all.0
quiet_since n (events.moved m ∷ es) all = quiet_since n es all.1
quiet_since n (events.exited x ∷ es) all = quiet_since n es all.1
quiet_since n (events.settled p s ∷ es) all = quiet_since n es all.1

-- quiet events open nothing, so that all below any number is
quiet_below : (n : ℕ) (es : List Event) → AllByRecursion IsQuiet es → AllByRecursion (OpensBelow n) es
quiet_below n [] all = tt
quiet_below n (events.called c ∷ es) all = absurd all.0
quiet_below n (events.opened o ∷ es) all = absurd all.0
quiet_below n (events.moved m ∷ es) all = (tt, quiet_below n es all.1)
quiet_below n (events.exited x ∷ es) all = (tt, quiet_below n es all.1)
quiet_below n (events.settled p s ∷ es) all = (tt, quiet_below n es all.1)

more_below : (n m : ℕ) (es : List Event) → n ≤ m → AllByRecursion (OpensBelow n) es → AllByRecursion (OpensBelow m) es
more_below n m [] le all = tt
more_below n m (events.opened o ∷ es) le all = (omega (arith, le, all.0), more_below n m es le all.1)
more_below n m (events.called c ∷ es) le all = (tt, more_below n m es le all.1)
more_below n m (events.moved c ∷ es) le all = (tt, more_below n m es le all.1)
more_below n m (events.exited c ∷ es) le all = (tt, more_below n m es le all.1)
more_below n m (events.settled p s ∷ es) le all = (tt, more_below n m es le all.1)

-- nothing that opens below it opens the seat
unopened : (n : ℕ) (es : List Event) → AllByRecursion (OpensBelow n) es → since_opening n (rows_of es) ≡ None
unopened n [] all = refl
unopened n (events.opened o ∷ es) all = ap (λ c. cond c (Some (rows_of es)) (since_opening n (rows_of es))) (ne_eqb o.seat n (λ e. omega (arith, all.0, e))) ∙ unopened n es all.1
unopened n (events.called c ∷ es) all = unopened n es all.1
unopened n (events.moved m ∷ es) all = unopened n es all.1
unopened n (events.exited x ∷ es) all = unopened n es all.1
unopened n (events.settled p s ∷ es) all = unopened n es all.1

moves_quiet : (ms : List Movement) → AllByRecursion IsQuiet (map events.moved ms)
moves_quiet [] = tt
moves_quiet (m ∷ ms) = (tt, moves_quiet ms)

settlements_quiet : (ps : List (ℕ × SettlementView)) → AllByRecursion IsQuiet (map (λ p. events.settled p.0 p.1) ps)
settlements_quiet [] = tt
settlements_quiet (p ∷ ps) = (tt, settlements_quiet ps)

-- ---- worlds after quiet events

-- where the seats are as they were
owes_still : (w next : State) (ds : List Departure) (es : List Event) → next.seats ≡ w.seats → next.log ≡ w.log ++ es → AllByRecursion IsQuiet es → AllByRecursion IsNoExit es → Owes w ds → Owes next ds
owes_still w next ds es seats told quiet kept owes = record {
  shown = λ n opens.
      let was : IsOpen (seat_at w.seats n) = subst (λ (s : List Seat). IsOpen (seat_at s n)) seats opens in
      let i = (seat_at w.seats n).instance in
      ap (λ (s : List Seat). cause_by_calls (seat_at s n).instance n (while_open n (rows_of next.log))) seats
      ∙ ap (λ l. cause_by_calls i n (while_open n l)) (ap rows_of told ∙ rows_append w.log es)
      ∙ shown_still i n (rows_of w.log) (rows_of es) (quiet_since n es quiet) (quiet_rows es quiet)
      ∙ owes.shown n was;
  made = subst (λ (s : List Seat). AllByRecursion (λ (d : Departure). d.seat < length s) ds) (sym seats) owes.made;
  opened = subst (λ l. AllByRecursion (OpensBelow (length next.seats)) l) (sym told)
      (all_append (OpensBelow (length next.seats)) w.log es (subst (λ (s : List Seat). AllByRecursion (OpensBelow (length s)) w.log) (sym seats) owes.opened) (quiet_below (length next.seats) es quiet));
  left = subst (AllByRecursion (IsLeft next.seats)) (sym told)
      (all_append (IsLeft next.seats) w.log es (subst (λ (s : List Seat). AllByRecursion (IsLeft s) w.log) (sym seats) owes.left) (left_none next.seats es kept));
}

-- ---- a seat that is opened

no_cause : (n : ℕ) (ds : List Departure) → AllByRecursion (λ (d : Departure). d.seat < n) ds → cause_in n ds ≡ None
no_cause n [] all = refl
no_cause n (d ∷ ds) all = ap (λ c. cond c (Some d.cause) (cause_in n ds)) (ne_eqb d.seat n (λ e. omega (arith, all.0, e))) ∙ no_cause n ds all.1

longer : (xs : List Seat) (x : Seat) (ds : List Departure) → AllByRecursion (λ (d : Departure). d.seat < length xs) ds → AllByRecursion (λ (d : Departure). d.seat < length (xs ++ x ∷ [])) ds
longer xs x [] all = tt
longer xs x (d ∷ ds) all = (omega (arith, all.0, length_push xs x), longer xs x ds all.1)

some_none : (rows : List Share) → Some rows ≡ None → ⊥
some_none rows e = cc

module _ (w next : State) (ds : List Departure) (new : Seat) (o : events.Opening) (es : List Event) where
  owes_opened : next.seats ≡ w.seats ++ new ∷ [] → next.log ≡ w.log ++ events.opened o ∷ es → o.seat ≡ length w.seats → AllByRecursion IsQuiet es → AllByRecursion IsNoExit es → Owes w ds → Owes next ds
  owes_opened seats told is quiet kept owes = record {
    shown = λ n opens. by n opens (n == length w.seats) refl;
    made = subst (λ (s : List Seat). AllByRecursion (λ (d : Departure). d.seat < length s) ds) (sym seats) (longer w.seats new ds owes.made);
    opened = subst (λ l. AllByRecursion (OpensBelow (length next.seats)) l) (sym told)
        (all_append (OpensBelow (length next.seats)) w.log (events.opened o ∷ es)
        (more_below (length w.seats) (length next.seats) w.log (omega (arith, more)) owes.opened)
        (omega (arith, more, is), quiet_below (length next.seats) es quiet));
    left = subst (AllByRecursion (IsLeft next.seats)) (sym told)
        (all_append (IsLeft next.seats) w.log (events.opened o ∷ es) (left_more w.seats next.seats (omega (arith, more)) was_open w.log owes.left) (tt, left_none next.seats es kept));
  }
    where
      was_open : (m : ℕ) → m < length w.seats → IsOpen (seat_at next.seats m) → IsOpen (seat_at w.seats m)
      was_open m lt opens = subst IsOpen (ap (λ l. seat_at l m) seats ∙ read_before w.seats new no_seat m (λ e. omega (arith, e, lt))) opens

      more : length next.seats ≡ length w.seats + 1
      more = ap length seats ∙ length_push w.seats new

      told_rows : rows_of next.log ≡ rows_of w.log ++ rows_of (events.opened o ∷ es)
      told_rows = ap rows_of told ∙ rows_append w.log (events.opened o ∷ es)

      by : (n : ℕ) → IsOpen (seat_at next.seats n) → (c : Bool) → (n == length w.seats) ≡ c → cause_shown next n ≡ cause_in n ds
      by n opens true here =
          let e : n ≡ length w.seats = same_number n (length w.seats) here in
          let i = (seat_at next.seats n).instance in
          let mine : (o.seat == n) ≡ true = eq-eqb o.seat n (omega (arith, is, e)) in
          ap (λ l. cause_by_calls i n (while_open n l)) told_rows
          ∙ shown_new i n (rows_of w.log) (printed_opening o) (rows_of es) (unopened n w.log (more_below (length w.seats) n w.log (omega (arith, e)) owes.opened)) mine (quiet_rows es quiet)
          ∙ sym (no_cause n ds (subst (λ m. AllByRecursion (λ (d : Departure). d.seat < m) ds) (sym e) owes.made))
      by n opens false apart =
          let lt : n < length next.seats = open_made next.seats n opens in
          let not : n ≢ length w.seats = other_number n (length w.seats) apart in
          let below : n < length w.seats = omega (arith, lt, more, not) in
          let same : seat_at next.seats n ≡ seat_at w.seats n = ap (λ l. seat_at l n) seats ∙ read_before w.seats new no_seat n (λ e. omega (arith, e, below)) in
          let was : IsOpen (seat_at w.seats n) = subst IsOpen same opens in
          let i = (seat_at w.seats n).instance in
          let other : (o.seat == n) ≡ false = ne_eqb o.seat n (λ e. omega (arith, is, below, e)) in
          ap (λ (x : Seat). cause_by_calls x.instance n (while_open n (rows_of next.log))) same
          ∙ ap (λ l. cause_by_calls i n (while_open n l)) told_rows
          ∙ shown_still i n (rows_of w.log) (rows_of (events.opened o ∷ es)) (ap (λ c. cond c (Some (rows_of es)) (since_opening n (rows_of es))) other ∙ quiet_since n es quiet) (tt, quiet_rows es quiet)
          ∙ owes.shown n was

-- ---- a seat that is left

module _ (w next : State) (s : ℕ) (cause : Cause) (ds : List Departure) (es : List Event) where
  owes_left : IsOpen (seat_at w.seats s) → (rows : List Share) → next.seats ≡ slice_set w.seats s (left_seat (seat_at w.seats s) rows) → next.log ≡ w.log ++ es → AllByRecursion IsQuiet es → AllByRecursion (IsExitAt s) es → Owes w (departure s cause ∷ ds) → Owes next ds
  owes_left before rows seats told quiet exits owes = record {
    shown = λ n opens. by n opens (s == n) refl;
    made = subst (λ m. AllByRecursion (λ (d : Departure). d.seat < m) ds) (sym as_many) owes.made.1;
    opened = subst (λ l. AllByRecursion (OpensBelow (length next.seats)) l) (sym told)
        (all_append (OpensBelow (length next.seats)) w.log es
        (subst (λ m. AllByRecursion (OpensBelow m) w.log) (sym as_many) owes.opened)
        (quiet_below (length next.seats) es quiet));
    left = subst (λ (p : List Seat × List Event). AllByRecursion (IsLeft p.0) p.1) (λ i. (sym seats i, sym told i)) (left_then w.seats s rows (open_made w.seats s before) w.log es owes.left exits);
  }
    where
      left : Seat
      left = left_seat (seat_at w.seats s) rows

      as_many : length next.seats ≡ length w.seats
      as_many = ap length seats ∙ length_set w.seats s (left_seat (seat_at w.seats s) rows)

      by : (n : ℕ) → IsOpen (seat_at next.seats n) → (c : Bool) → (s == n) ≡ c → cause_shown next n ≡ cause_in n ds
      by n opens true here =
          let e : s ≡ n = same_number s n here in
          let closed : seat_at next.seats s ≡ left_seat (seat_at w.seats s) rows = ap (λ l. seat_at l s) seats ∙ read_set w.seats s (left_seat (seat_at w.seats s) rows) no_seat (open_made w.seats s before) in
          let opened_s : (seat_at next.seats s).last ≡ None = subst (λ m. IsOpen (seat_at next.seats m)) (sym e) opens in
          absurd (some_none rows (sym (ap (λ (x : Seat). x.last) closed) ∙ opened_s))
      by n opens false apart =
          let same : seat_at next.seats n ≡ seat_at w.seats n = ap (λ l. seat_at l n) seats ∙ read_other w.seats s n (left_seat (seat_at w.seats s) rows) no_seat (other_number s n apart) in
          let was : IsOpen (seat_at w.seats n) = subst IsOpen same opens in
          let i = (seat_at w.seats n).instance in
          ap (λ (x : Seat). cause_by_calls x.instance n (while_open n (rows_of next.log))) same
          ∙ ap (λ l. cause_by_calls i n (while_open n l)) (ap rows_of told ∙ rows_append w.log es)
          ∙ shown_still i n (rows_of w.log) (rows_of es) (quiet_since n es quiet) (quiet_rows es quiet)
          ∙ owes.shown n was
          ∙ ap (λ c. cond c (Some cause) (cause_in n ds)) apart

-- ---- by effect

owes_alike : (w next : State) (ds : List Departure) → next.seats ≡ w.seats → next.log ≡ w.log → Owes w ds → Owes next ds
owes_alike w next ds seats log owes = owes_still w next ds [] seats (log ∙ sym (append-nil w.log)) tt tt owes

owes_after : (w : State) (e : Effect) (es : List Effect) → IsGoodEffect w e → IsUncalled e → Owes w (departures_in (e ∷ es)) → Owes (after w e) (departures_in es)
owes_after w (moves ms) es good un owes = owes_still w (after w (moves ms)) (departures_in es) (map events.moved ms) refl refl (moves_quiet ms) (moves_keep ms) owes
owes_after w (offer o) es good un owes = owes_opened w (after w (offer o)) (departures_in es) (new_seat (offered_by w o).instance o.proposal) (record { seat = length w.seats; instance = (offered_by w o).instance; proposal = o.proposal }) (map events.moved (burn_and_escrows o)) refl refl refl (moves_quiet (burn_and_escrows o)) (moves_keep (burn_and_escrows o)) owes
owes_after w (empty_seat i rule) es good un owes = owes_opened w (after w (empty_seat i rule)) (departures_in es) (new_seat i (of_own rule)) (record { seat = length w.seats; instance = i; proposal = of_own rule }) (events.settled (promises_made w) (ok null) ∷ []) refl refl refl (tt, tt) (tt, tt) owes
owes_after w (exit s cause) es good un owes =
    let settled = resolving_settles (pair_at w.pairs s).payouts (ok (payouts_tree w s)) w.promises w.waiting (w.log ++ leaving_events w s cause) in
    let settlements : List Event = map (λ p. events.settled p.0 p.1) settled.promises in
    owes_left w (after w (exit s cause)) s cause (departures_in es) (leaving_events w s cause ++ settlements) good (slots_at w.rights.slots s) refl
    (settled.told ∙ append_assoc w.log (leaving_events w s cause) settlements)
    (all_append IsQuiet (leaving_events w s cause) settlements (tt, moves_quiet (moves_out w s)) (settlements_quiet settled.promises))
    (all_append (IsExitAt s) (leaving_events w s cause) settlements (refl, none_at s (map events.moved (moves_out w s)) (moves_keep (moves_out w s))) (none_at s settlements (settlements_keep settled.promises)))
    owes
owes_after w (invite d) es good un owes = owes_still w (after w (invite d)) (departures_in es) (events.moved (invitation_move w) ∷ []) refl refl (tt, tt) (tt, tt) owes
owes_after w (resolve p v) es good un owes =
    let settled = resolving_settles p v w.promises w.waiting w.log in
    owes_still w (after w (resolve p v)) (departures_in es) (map (λ p. events.settled p.0 p.1) settled.promises) refl settled.told (settlements_quiet settled.promises) (settlements_keep settled.promises) owes
owes_after w (note_call c) es good un owes = absurd un
owes_after w e es good un owes = owes_alike w (after w e) (departures_in es) refl refl owes

same_seat : (s : ℕ) → (s == s) ≡ true
same_seat s = eq-eqb s s refl

has_cause : (owners : Owners) (t : Turn) (w : State) (e : Effect) (es : List Effect) → IsGoodEffect w e → Owes w (departures_in (e ∷ es)) → HasCause owners t w e
has_cause owners t w (exit s cause) es good owes =
    ap (λ x. either x (cause_by_row t.kind t.answer owners t (seat_at w.seats s).instance s))
    (owes.shown s good ∙ ap (λ c. cond c (Some cause) (cause_in s (departures_in es))) (same_seat s))
has_cause owners t w e es good owes = tt

pub causes : (owners : Owners) (t : Turn) (w : State) (es : List Effect) → AreGood w es → AreUncalled es → Owes w (departures_in es) → HaveCauses owners t w es
causes owners t w [] good un owes = tt
causes owners t w (e ∷ es) good un owes = (has_cause owners t w e es good.0 owes, causes owners t (after w e) es good.1 un.1 (owes_after w e es good.0 un.0 owes))

pub owes_none : (w : State) (es : List Effect) → AreGood w es → AreUncalled es → Owes w (departures_in es) → Owes (after_all w es) []
owes_none w [] good un owes = owes
owes_none w (e ∷ es) good un owes = owes_none (after w e) es good.1 un.1 (owes_after w e es good.0 un.0 owes)

-- What each effect tells: no call but a call's own, openings of new seats alone, and of a seat that is left its exit.
use Rattle.std.specs.Prelude.{◌≡◌, ◌==◌, ◌<◌, ◌≤◌, ℕ, Bool, true, false, cond, List, [], ◌∷◌, ◌++◌, Option, Some, None, length, map, refl}
use Rattle.std.specs.List.{AllByRecursion}
use Rattle.std.proofs.Common.{append_assoc, sym, ◌∙◌, ap, subst, arith}
use Rattle.std.proofs.lemmas.Bool.{ne_eqb}
use Rattle.std.proofs.lemmas.List.{append-nil}
use Rattle.fair_laws.specs.Owed.{IsLeft, IsUncalled, OpensBelow, Owes, cause_shown}
use Rattle.fair_laws.proofs.Exited.{IsExitAt, left_then}
use Rattle.fair_laws.proofs.Owing.{other_number, owes_none, same_number}
use Rattle.fair_laws.proofs.Shown.{IsNoCall, either_none, first_stays, shown_still}
use Rattle.fair_laws.specs.Places.{rows_of}
use Rattle.fair_laws.proofs.Rows.{resolving_settles, rows_append}
use Rattle.fair_rows.specs.ExitCauses.{cause_by_calls, either, since_opening, while_open}
use Rattle.fair_rows.specs.Rows.{FollowsKit}
use Rattle.fair_rows.proofs.Lists.{all_second}
use Rattle.delivery_laws.specs.actors.SeatPromises.{pair_at}
use Rattle.delivery_laws.proofs.lemmas.ListEdits.{length_set, read_other, read_set}
use Rattle.delivery_laws.specs.promise_store.States.{SettlementView, ok}
use Rattle.delivery_laws.specs.proposals.declared.allocations.Share.{Share}
use Rattle.fair_rows.specs.rights_model.declared.Movement.{Movement}
use Rattle.delivery_laws.specs.turn_records.Events as events
use Rattle.delivery_laws.specs.turn_records.Events.{Call, Event, Leaving}
use Rattle.delivery_laws.specs.turn_records.Printed.{printed_call}
use Rattle.fair_rows.specs.turn_rows.Causes.{Cause}
use Rattle.fair_rows.specs.turn_rows.Turns as rows
use Rattle.delivery_laws.proofs.world_laws.Growing.{grows-after}
use Rattle.delivery_laws.proofs.world_laws.Instances.{open_made}
use Rattle.delivery_laws.proofs.world_laws.Lists.{all_append, all_map}
use Rattle.delivery_laws.specs.world_state.Good.{IsGoodEffect}
use Rattle.delivery_laws.specs.world_state.Rights.{slots_at}
use Rattle.delivery_laws.specs.world_state.Worlds.{Effect, IsOpen, Seat, State, after, burn_and_escrows, empty_seat, exit, invitation_move, invite, leaving_events, left_seat, moves, moves_out, no_seat, note_call, of_own, offer, offer_events, opening_of, payouts_tree, promises_made, resolve, seat_at}
use Rattle.delivery_laws.specs.host_data.Tree.{null}

-- ---- the events of an effect

-- an exit is the effect's own
abbrev pub IsExitOf : Effect → Leaving → Type 0
IsExitOf (exit s cause) x = (x.seat ≡ s) × (x.cause ≡ cause)
IsExitOf e x = ⊥

-- an opening is that of the next seat, where so many were opened before
abbrev pub Opens : Effect → ℕ → ℕ → Type 0
Opens (offer o) n s = n ≤ s
Opens (empty_seat i rule) n s = n ≤ s
Opens e n s = ⊥

opens_from : (e : Effect) (n s : ℕ) → Opens e n s → n ≤ s
opens_from (offer o) n s h = h
opens_from (empty_seat i rule) n s h = h
opens_from e n s h = absurd h

abbrev pub IsToldBy : Effect → ℕ → Event → Type 0
IsToldBy e n (events.called c) = ⊥
IsToldBy e n (events.opened o) = Opens e n o.seat
IsToldBy e n (events.moved m) = Unit {0}
IsToldBy e n (events.exited x) = IsExitOf e x
IsToldBy e n (events.settled p s) = Unit {0}

pub record Tells (w : State) (e : Effect) : Type 0 where
  pub events : List Event
  pub told : (after w e).log ≡ w.log ++ events
  pub are : AllByRecursion (IsToldBy e (length w.seats)) events

moves_told : (e : Effect) (n : ℕ) (ms : List Movement) → AllByRecursion (IsToldBy e n) (map events.moved ms)
moves_told e n [] = tt
moves_told e n (m ∷ ms) = (tt, moves_told e n ms)

settlements_told : (e : Effect) (n : ℕ) (ps : List (ℕ × SettlementView)) → AllByRecursion (IsToldBy e n) (map (λ p. events.settled p.0 p.1) ps)
settlements_told e n [] = tt
settlements_told e n (p ∷ ps) = (tt, settlements_told e n ps)

pub effect_told : (w : State) (e : Effect) → IsUncalled e → Tells w e
effect_told w (moves ms) un = record { events = map events.moved ms; told = refl; are = moves_told (moves ms) (length w.seats) ms }
effect_told w (offer o) un = record { events = offer_events w o; told = refl; are = (omega arith, moves_told (offer o) (length w.seats) (burn_and_escrows o)) }
effect_told w (empty_seat i rule) un = record {
  events = opening_of w i (of_own rule) ∷ events.settled (promises_made w) (ok null) ∷ [];
  told = refl;
  are = (omega arith, (tt, tt));
}
effect_told w (exit s cause) un =
    let settled = resolving_settles (pair_at w.pairs s).payouts (ok (payouts_tree w s)) w.promises w.waiting (w.log ++ leaving_events w s cause) in
    let settlements : List Event = map (λ p. events.settled p.0 p.1) settled.promises in
    let n = length w.seats in
    record {
      events = leaving_events w s cause ++ settlements;
      told = settled.told ∙ append_assoc w.log (leaving_events w s cause) settlements;
      are = all_append (IsToldBy (exit s cause) n) (leaving_events w s cause) settlements ((refl, refl), moves_told (exit s cause) n (moves_out w s)) (settlements_told (exit s cause) n settled.promises);
    }
effect_told w (invite d) un = record { events = events.moved (invitation_move w) ∷ []; told = refl; are = (tt, tt) }
effect_told w (resolve p v) un =
    let settled = resolving_settles p v w.promises w.waiting w.log in
    record {
      events = map (λ p. events.settled p.0 p.1) settled.promises;
      told = settled.told;
      are = settlements_told (resolve p v) (length w.seats) settled.promises;
    }
effect_told w (note_call c) un = absurd un
effect_told w e un = record { events = []; told = sym (append-nil w.log); are = tt }

-- ---- turns in which no call is told

abbrev pub IsNoCalled : Event → Type 0
IsNoCalled (events.called c) = ⊥
IsNoCalled _ = Unit {0}

told_uncalled : (e : Effect) (m : ℕ) (es : List Event) → AllByRecursion (IsToldBy e m) es → AllByRecursion IsNoCalled es
told_uncalled e m [] all = tt
told_uncalled e m (events.called c ∷ es) all = absurd all.0
told_uncalled e m (events.opened o ∷ es) all = (tt, told_uncalled e m es all.1)
told_uncalled e m (events.moved x ∷ es) all = (tt, told_uncalled e m es all.1)
told_uncalled e m (events.exited x ∷ es) all = (tt, told_uncalled e m es all.1)
told_uncalled e m (events.settled p s ∷ es) all = (tt, told_uncalled e m es all.1)

pub still_uncalled : (w : State) (e : Effect) → IsUncalled e → AllByRecursion IsNoCalled w.log → AllByRecursion IsNoCalled (after w e).log
still_uncalled w e un all =
    let t = effect_told w e un in
    subst (AllByRecursion IsNoCalled) (sym t.told) (all_append IsNoCalled w.log t.events all (told_uncalled e (length w.seats) t.events t.are))

no_call_rows : (es : List Event) → AllByRecursion IsNoCalled es → AllByRecursion IsNoCall (rows_of es)
no_call_rows [] all = tt
no_call_rows (events.called c ∷ es) all = absurd all.0
no_call_rows (events.opened o ∷ es) all = (tt, no_call_rows es all.1)
no_call_rows (events.moved m ∷ es) all = (tt, no_call_rows es all.1)
no_call_rows (events.exited x ∷ es) all = (tt, no_call_rows es all.1)
no_call_rows (events.settled p s ∷ es) all = (tt, no_call_rows es all.1)

-- where no call is told, no kit's is
pub no_kit : (es : List Event) → AllByRecursion IsNoCalled es → FollowsKit (rows_of es) → ⊥
no_kit es all kit = (all_second IsNoCall kit.more (rows.called kit.call ∷ []) (subst (AllByRecursion IsNoCall) kit.last (no_call_rows es all))).0

-- ---- what calls show of a seat stays

unopened_by : (e : Effect) (m n : ℕ) (es : List Event) → n < m → AllByRecursion (IsToldBy e m) es → since_opening n (rows_of es) ≡ None
unopened_by e m n [] lt all = refl
unopened_by e m n (events.called c ∷ es) lt all = absurd all.0
unopened_by e m n (events.opened o ∷ es) lt all = ap (λ c. cond c (Some (rows_of es)) (since_opening n (rows_of es))) (ne_eqb o.seat n (λ is. omega (arith, opens_from e m o.seat all.0, lt, is))) ∙ unopened_by e m n es lt all.1
unopened_by e m n (events.moved x ∷ es) lt all = unopened_by e m n es lt all.1
unopened_by e m n (events.exited x ∷ es) lt all = unopened_by e m n es lt all.1
unopened_by e m n (events.settled p s ∷ es) lt all = unopened_by e m n es lt all.1

pub uncalled_rows : (e : Effect) (m : ℕ) (es : List Event) → AllByRecursion (IsToldBy e m) es → AllByRecursion IsNoCall (rows_of es)
uncalled_rows e m [] all = tt
uncalled_rows e m (events.called c ∷ es) all = absurd all.0
uncalled_rows e m (events.opened o ∷ es) all = (tt, uncalled_rows e m es all.1)
uncalled_rows e m (events.moved x ∷ es) all = (tt, uncalled_rows e m es all.1)
uncalled_rows e m (events.exited x ∷ es) all = (tt, uncalled_rows e m es all.1)
uncalled_rows e m (events.settled p s ∷ es) all = (tt, uncalled_rows e m es all.1)

module _ (w : State) (e : Effect) (un : IsUncalled e) where
  abbrev next : State
  next = after w e

  told : Tells w e
  told = effect_told w e un

  pub instance_stays : (n : ℕ) → n < length w.seats → (seat_at next.seats n).instance ≡ (seat_at w.seats n).instance
  instance_stays n lt = ap (λ p. p.0) ((grows-after w e).seats.same n lt)

  pub shown_stays : (n : ℕ) → n < length w.seats → cause_shown next n ≡ cause_shown w n
  shown_stays n lt =
      let i = (seat_at w.seats n).instance in
      ap (λ j. cause_by_calls j n (while_open n (rows_of next.log))) (instance_stays n lt)
      ∙ ap (λ l. cause_by_calls i n (while_open n l)) (ap rows_of told.told ∙ rows_append w.log told.events)
      ∙ shown_still i n (rows_of w.log) (rows_of told.events) (unopened_by e (length w.seats) n told.events lt told.are) (uncalled_rows e (length w.seats) told.events told.are)

-- ---- exits have their causes

-- what the turn's own row shows of a seat of an instance
abbrev pub Showing : Type 0
Showing = ℕ → ℕ → Option Cause

abbrev pub none_shown : Showing
none_shown i n = None

abbrev pub shown_by : Showing → State → ℕ → Option Cause
shown_by row w n = either (cause_shown w n) (row (seat_at w.seats n).instance n)

abbrev pub HasItsCause : Showing → State → Event → Type 0
HasItsCause row w (events.exited x) = (x.seat < length w.seats) × (shown_by row w x.seat ≡ Some x.cause)
HasItsCause row w _ = Unit {0}

abbrev pub AllHaveCauses : Showing → State → Type 0
AllHaveCauses row w = AllByRecursion (HasItsCause row w) w.log

-- a seat that is left is left for the first cause that is shown
abbrev pub LeavesFor : Showing → State → Effect → Type 0
LeavesFor row w (exit s cause) = shown_by row w s ≡ Some cause
LeavesFor row w _ = Unit {0}

module _ (row : Showing) (w : State) (e : Effect) (un : IsUncalled e) (good : IsGoodEffect w e) where
  abbrev after_it : State
  after_it = after w e

  still_shown : (n : ℕ) → n < length w.seats → shown_by row after_it n ≡ shown_by row w n
  still_shown n lt =
      ap (λ i. either (cause_shown after_it n) (row i n)) (instance_stays w e un n lt)
      ∙ ap (λ c. either c (row (seat_at w.seats n).instance n)) (shown_stays w e un n lt)

  before_it : (x : Event) → HasItsCause row w x → HasItsCause row after_it x
  before_it (events.exited x) h = let more = (grows-after w e).seats.more in (omega (arith, h.0, more), still_shown x.seat h.0 ∙ h.1)
  before_it (events.called c) h = tt
  before_it (events.opened o) h = tt
  before_it (events.moved m) h = tt
  before_it (events.settled p s) h = tt

exits_now : (row : Showing) (w : State) (e : Effect) (un : IsUncalled e) → IsGoodEffect w e → LeavesFor row w e → (es : List Event) → AllByRecursion (IsToldBy e (length w.seats)) es → AllByRecursion (HasItsCause row (after w e)) es
exits_now row w e un good leaves [] all = tt
exits_now row w e un good leaves (events.called c ∷ es) all = absurd all.0
exits_now row w e un good leaves (events.opened o ∷ es) all = (tt, exits_now row w e un good leaves es all.1)
exits_now row w e un good leaves (events.moved m ∷ es) all = (tt, exits_now row w e un good leaves es all.1)
exits_now row w e un good leaves (events.settled p s ∷ es) all = (tt, exits_now row w e un good leaves es all.1)
exits_now row w e un good leaves (events.exited x ∷ es) all = (by e un good leaves all.0, exits_now row w e un good leaves es all.1)
  where
    by : (e : Effect) → IsUncalled e → IsGoodEffect w e → LeavesFor row w e → IsExitOf e x → HasItsCause row (after w e) (events.exited x)
    by (exit s cause) un good leaves is =
        let lt : s < length w.seats = open_made w.seats s good in
        let more = (grows-after w (exit s cause)).seats.more in
        let there = still_shown row w (exit s cause) un good s lt in (
          omega (arith, is.0, lt, more),
          ap (shown_by row (after w (exit s cause))) is.0 ∙ there ∙ leaves ∙ ap Some (sym is.1),
        )
    by e un good leaves is = absurd is

pub causes_after : (row : Showing) (w : State) (e : Effect) → IsUncalled e → IsGoodEffect w e → LeavesFor row w e → AllHaveCauses row w → AllHaveCauses row (after w e)
causes_after row w e un good leaves all =
    let t = effect_told w e un in
    let now = HasItsCause row (after w e) in
    subst (AllByRecursion now) (sym t.told)
    (all_append now w.log t.events
    (all_map (HasItsCause row w) now (before_it row w e un good) w.log all)
    (exits_now row w e un good leaves t.events t.are))

-- behind a call all that was shown by calls still is
pub causes_called : (w : State) (c : Call) → AllHaveCauses none_shown w → AllHaveCauses none_shown (after w (note_call c))
causes_called w c all =
    let now = HasItsCause none_shown (after w (note_call c)) in
    all_append now w.log (events.called c ∷ []) (all_map (HasItsCause none_shown w) now still w.log all) (tt, tt)
  where
    shown : (n : ℕ) (cause : Cause) → cause_shown w n ≡ Some cause → cause_shown (after w (note_call c)) n ≡ Some cause
    shown n cause is =
        let i = (seat_at w.seats n).instance in
        let row : rows.Event = rows.called (printed_call c) in
        ap (λ l. cause_by_calls i n (while_open n l)) (rows_append w.log (events.called c ∷ []))
        ∙ first_stays i n (rows_of w.log) (row ∷ []) cause refl is

    still : (x : Event) → HasItsCause none_shown w x → HasItsCause none_shown (after w (note_call c)) x
    still (events.exited x) h = (h.0, ap (λ o. either o None) (shown x.seat x.cause (sym (either_none (cause_shown w x.seat)) ∙ h.1)))
    still (events.called d) h = tt
    still (events.opened o) h = tt
    still (events.moved m) h = tt
    still (events.settled p s) h = tt

-- ---- nothing is left to be done that calls show

some_rows : (xs : List Share) → Some xs ≡ None → ⊥
some_rows xs e = cc

module _ (w : State) (s : ℕ) (cause : Cause) (opens : IsOpen (seat_at w.seats s)) where
  abbrev left : State
  left = after w (exit s cause)

  none_opened : (es : List Event) → AllByRecursion (IsToldBy (exit s cause) (length w.seats)) es → AllByRecursion (OpensBelow (length left.seats)) es
  none_opened [] all = tt
  none_opened (events.called c ∷ es) all = absurd all.0
  none_opened (events.opened o ∷ es) all = absurd all.0
  none_opened (events.moved m ∷ es) all = (tt, none_opened es all.1)
  none_opened (events.exited x ∷ es) all = (tt, none_opened es all.1)
  none_opened (events.settled p r ∷ es) all = (tt, none_opened es all.1)

  exits_at : (es : List Event) → AllByRecursion (IsToldBy (exit s cause) (length w.seats)) es → AllByRecursion (IsExitAt s) es
  exits_at [] all = tt
  exits_at (events.called c ∷ es) all = absurd all.0
  exits_at (events.opened o ∷ es) all = absurd all.0
  exits_at (events.moved m ∷ es) all = (tt, exits_at es all.1)
  exits_at (events.exited x ∷ es) all = (all.0.0, exits_at es all.1)
  exits_at (events.settled p r ∷ es) all = (tt, exits_at es all.1)

  exit_owes : Owes w [] → Owes left []
  exit_owes owes = record {
    shown = λ n is. by n is (s == n) refl;
    made = tt;
    opened = subst (AllByRecursion (OpensBelow (length left.seats))) (sym t.told)
        (all_append (OpensBelow (length left.seats)) w.log t.events (subst (λ m. AllByRecursion (OpensBelow m) w.log) (sym as_many) owes.opened) (none_opened t.events t.are));
    left = subst (AllByRecursion (IsLeft left.seats)) (sym t.told) (left_then w.seats s (slots_at w.rights.slots s) (open_made w.seats s opens) w.log t.events owes.left (exits_at t.events t.are));
  }
    where
      t : Tells w (exit s cause)
      t = effect_told w (exit s cause) tt

      as_many : length left.seats ≡ length w.seats
      as_many = length_set w.seats s (left_seat (seat_at w.seats s) (slots_at w.rights.slots s))

      by : (n : ℕ) → IsOpen (seat_at left.seats n) → (c : Bool) → (s == n) ≡ c → cause_shown left n ≡ None
      by n is true here =
          let same : s ≡ n = same_number s n here in
          let rows = slots_at w.rights.slots s in
          let closed : seat_at left.seats s ≡ left_seat (seat_at w.seats s) rows = read_set w.seats s (left_seat (seat_at w.seats s) rows) no_seat (open_made w.seats s opens) in
          let open_there : IsOpen (seat_at left.seats s) = subst (λ m. IsOpen (seat_at left.seats m)) (sym same) is in
          absurd (some_rows rows (sym (ap (λ (x : Seat). x.last) closed) ∙ open_there))
      by n is false apart =
          let same : seat_at left.seats n ≡ seat_at w.seats n = read_other w.seats s n (left_seat (seat_at w.seats s) (slots_at w.rights.slots s)) no_seat (other_number s n apart) in
          let was : IsOpen (seat_at w.seats n) = subst IsOpen same is in
          shown_stays w (exit s cause) tt n (open_made w.seats n was) ∙ owes.shown n was

pub owes_after_it : (w : State) (e : Effect) → IsGoodEffect w e → IsUncalled e → Owes w [] → Owes (after w e) []
owes_after_it w (exit s cause) good un owes = exit_owes w s cause good owes
owes_after_it w e good un owes = owes_none w (e ∷ []) (good, tt) (un, tt) owes

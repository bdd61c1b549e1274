-- An exit row of an open seat: how each seat stands after it.
use Rattle.std.proofs.Common.{◌≡◌, ◌≢◌, ℕ, ◌==◌, ◌<◌, inl, inr, Bool, true, false, cond, ◌||◌, length, map, Option, Some, None, is_some, Vec, refl, sym, ap, subst, ◌∙◌, arith}
use Rattle.std.specs.BTreeSet.{BTreeSet, contains}
use Rattle.std.specs.BTreeMap.{BTreeMap, get}
use Rattle.std.specs.List.{AllByRecursion, slice_get}
use Rattle.std.specs.Option.{option_map}
use Rattle.std.specs.Ordering.{nat_cmp}
use Rattle.std.specs.declared.alloc.Global.{Global}
use Rattle.std.proofs.lemmas.Option.{slice_get_within}
use Rattle.row_records.specs.fair_rows.ExitCauses.{either, first_cause}
use Rattle.row_records.specs.fair_rows.Rows.{InTurn, after_event}
use Rattle.row_records.specs.fair_rows.Seats.{IsOpen, Seat, contents_of, with_exit}
use Rattle.row_records.specs.fair_rows.Turns.{HasFirstCause}
use Rattle.row_records.specs.rights_model.Table.{Table}
use Rattle.row_records.specs.turn_records.Views.{cause_view}
use Rattle.row_records.specs.turn_records.declared.events.Cause as code
use Rattle.row_records.specs.turn_rows.Causes.{Cause}
use Rattle.row_records.specs.turn_rows.Turns.{Event, SeatExit, called, exited, moved, opened, settled}
use Rattle.told_causes.specs.ToldCauses.{HasExited, HasStanding, IsExitKept, IsOfSeatBelow, IsShownByRow, StandsAs, TellsStandings, by_calls, by_turn_row, cause_at_exit, has_exited, pair_cmp, shown_of, standing_at, waits}
use Rattle.told_causes.specs.StandingSteps.{IsPut, IsStopped, shown_in}
use Rattle.told_causes.specs.declared.standings.Shows.{Shows}
use Rattle.told_causes.specs.declared.standings.Standing.{Standing}
use Rattle.told_causes.specs.declared.standings.Standings.{Standings}
use Rattle.told_causes.proofs.Appended.{all_more, all_weaker, by_calls_same, exited_more}
use Rattle.told_causes.proofs.Ones.{equal_or_not, instance_kept, same_is}
use Rattle.told_causes.proofs.Opened.{stands_same}
use Rattle.told_causes.proofs.SeatLists.{get_in, keeps_changed, length_changed}

or_false : (b : Bool) → (b || false) ≡ b
or_false true = refl
or_false false = refl

or_true : (b : Bool) → (b || true) ≡ true
or_true true = refl
or_true false = refl

pub is_some_none : (s : Seat) → is_some s.last ≡ true → s.last ≡ None → ⊥
is_some_none s went stays = let no : is_some s.last ≡ false = ap is_some stays in cc

-- ---- an open seat

-- what calls showed of it is kept
pub open_shown : (i : InTurn) (n : ℕ) (s : Seat) (e : Option Standing) (w : Bool) → StandsAs i n s e w → s.last ≡ None → by_calls i n s ≡ option_map cause_view (shown_in e)
open_shown i n s None true h stays = h.quiet
open_shown i n s None false h stays = absurd (is_some_none s h.went stays)
open_shown i n s (Some st) true h stays = absurd h
open_shown i n s (Some st) false h stays = by (option_map cause_view st.left) h
  where
    by : (left : Option Cause) → HasStanding i n s st left → by_calls i n s ≡ option_map cause_view st.shown
    by None k = k.shown
    by (Some c) k = k.shown

-- no cause of an exit row
pub open_left : (i : InTurn) (n : ℕ) (s : Seat) (e : Option Standing) (w : Bool) → StandsAs i n s e w → s.last ≡ None → cause_at_exit e ≡ None
open_left i n s None w h stays = refl
open_left i n s (Some st) true h stays = absurd h
open_left i n s (Some st) false h stays = by (option_map cause_view st.left) h
  where
    by : (left : Option Cause) → HasStanding i n s st left → left ≡ None
    by None k = refl
    by (Some c) k = absurd (is_some_none s k.went stays)

-- without a standing it waits
pub open_waits : (i : InTurn) (n : ℕ) (s : Seat) (w : Bool) → StandsAs i n s None w → s.last ≡ None → w ≡ true
open_waits i n s true h stays = refl
open_waits i n s false h stays = absurd (is_some_none s h.went stays)

-- ---- the exit row

exit_keeps : (t : Table) (n : ℕ) (s : Seat) → (with_exit t n s).opening ≡ s.opening
exit_keeps t n s = by (s.opening.seat == n)
  where
    by : (b : Bool) → (cond b (record s { last = Some (contents_of t s) }) s).opening ≡ s.opening
    by true = refl
    by false = refl

flipped : (a b : ℕ) → a ≢ b → (b == a) ≡ false
flipped a b h = grind arith

module _ (old mid new : Standings) (i : InTurn) (x : SeatExit) (cause : code.Cause) (was : Bool) (cause_is : x.cause ≡ cause_view cause) (is_open : IsOpen i.now.seats x.seat)
    (first : HasFirstCause i.now.seats i.before.owners i.row i.here x) (told : TellsStandings old i)
    (stopped : IsStopped old mid x.seat was) (put : IsPut mid new x.seat (record { shown = shown_in (standing_at old x.seat); left = Some cause })) where
  fewer : (m n : ℕ) → waits new m n ≡ true → waits old m n ≡ true
  fewer m n w = stopped.fewer m n (ap (λ (ws : BTreeSet (ℕ × ℕ)). contains pair_cmp ws (m, n)) (sym put.waiting) ∙ w)

  other_standing : (n : ℕ) → x.seat ≢ n → standing_at new n ≡ standing_at old n
  other_standing n apart = put.other n apart ∙ ap (λ (ss : BTreeMap ℕ Standing). get nat_cmp ss n) stopped.standings

  other_waits : (m n : ℕ) → x.seat ≢ n → waits new m n ≡ waits old m n
  other_waits m n apart = ap (λ (ws : BTreeSet (ℕ × ℕ)). contains pair_cmp ws (m, n)) put.waiting ∙ stopped.other m n apart

  as_stood : StandsAs i x.seat is_open.seat (standing_at old x.seat) (waits old is_open.seat.opening.instance x.seat)
  as_stood = told.stands x.seat is_open.seat is_open.was_opened

  calls_show : by_calls i x.seat is_open.seat ≡ option_map cause_view (shown_in (standing_at old x.seat))
  calls_show = open_shown i x.seat is_open.seat (standing_at old x.seat) (waits old is_open.seat.opening.instance x.seat) as_stood is_open.stays

  row_shows : shown_in (standing_at old x.seat) ≡ None → by_turn_row i x.seat is_open.seat ≡ Some (cause_view cause)
  row_shows none =
      let one : first.seat ≡ is_open.seat = (let e : Some first.seat ≡ Some is_open.seat = sym first.was_opened ∙ is_open.was_opened in cc) in
      let is : either (by_calls i x.seat is_open.seat) (by_turn_row i x.seat is_open.seat) ≡ Some x.cause = subst (λ (s : Seat). first_cause i.before.owners i.row i.here s.opening.instance x.seat ≡ Some x.cause) one first.first in
      let silent : by_calls i x.seat is_open.seat ≡ None = calls_show ∙ ap (option_map cause_view) none in
      sym (ap (λ (o : Option Cause). either o (by_turn_row i x.seat is_open.seat)) silent) ∙ is ∙ ap Some cause_is

  abbrev seat_after : Seat
  seat_after = record (is_open.seat) { last = Some (contents_of i.now.table is_open.seat) }

  has_left : StandsAs (after_event i (exited x)) x.seat seat_after (standing_at new x.seat) (waits new is_open.seat.opening.instance x.seat)
  has_left =
      let gone : HasExited (after_event i (exited x)) x.seat seat_after (record { shown = shown_in (standing_at old x.seat); left = Some cause }) = record {
        went = refl;
        here = exited_more x.seat i.here (exited x) refl ∙ ap (λ (b : Bool). has_exited x.seat i.here || b) (same_is x.seat) ∙ or_true (has_exited x.seat i.here);
        shown = by_calls_same is_open.seat.opening.instance x.seat i.here (exited x) refl refl ∙ calls_show;
        by_row = row_shows;
      } in
      let stops : waits new is_open.seat.opening.instance x.seat ≡ false =
      ap (λ (ws : BTreeSet (ℕ × ℕ)). contains pair_cmp ws (is_open.seat.opening.instance, x.seat)) put.waiting ∙ stopped.stopped is_open.seat.opening.instance (instance_kept old i.now.seats told.seats x.seat is_open.seat is_open.was_opened) in
      subst (λ (e : Option Standing). StandsAs (after_event i (exited x)) x.seat seat_after e (waits new is_open.seat.opening.instance x.seat)) (sym put.at)
      (subst (λ (w : Bool). StandsAs (after_event i (exited x)) x.seat seat_after (Some (record { shown = shown_in (standing_at old x.seat); left = Some cause })) w) (sym stops) gone)

  stands : (n : ℕ) (s : Seat) → slice_get (map (with_exit i.now.table x.seat) i.now.seats) n ≡ Some s → StandsAs (after_event i (exited x)) n s (standing_at new n) (waits new s.opening.instance n)
  stands n s is =
      let before = get_in (with_exit i.now.table x.seat) i.now.seats n s is in
      let number : before.0.opening.seat ≡ n = (told.seats.numbered n before.0 before.1).number in
      elim (equal_or_not n x.seat) [
        | inl same ↦
            let one : before.0 ≡ is_open.seat = (let e : Some before.0 ≡ Some is_open.seat = sym before.1 ∙ ap (slice_get i.now.seats) same ∙ is_open.was_opened in cc) in
            let test : (is_open.seat.opening.seat == x.seat) ≡ true = ap (λ (t : Seat). t.opening.seat == x.seat) (sym one) ∙ ap (λ (k : ℕ). k == x.seat) (number ∙ same) ∙ same_is x.seat in
            let made : seat_after ≡ s = ap (λ (b : Bool). cond b (record (is_open.seat) { last = Some (contents_of i.now.table is_open.seat) }) is_open.seat) (sym test) ∙ ap (with_exit i.now.table x.seat) (sym one) ∙ before.2 in
            subst (λ (k : ℕ). StandsAs (after_event i (exited x)) k s (standing_at new k) (waits new s.opening.instance k)) (sym same)
            (subst (λ (t : Seat). StandsAs (after_event i (exited x)) x.seat t (standing_at new x.seat) (waits new t.opening.instance x.seat)) made has_left)
        | inr apart ↦
            let test : (before.0.opening.seat == x.seat) ≡ false = ap (λ (k : ℕ). k == x.seat) number ∙ apart.0 in
            let made : before.0 ≡ s = ap (λ (b : Bool). cond b (record (before.0) { last = Some (contents_of i.now.table before.0) }) before.0) (sym test) ∙ before.2 in
            let away : x.seat ≢ n = λ e. apart.1 (sym e) in
            let not_it : (x.seat == n) ≡ false = flipped n x.seat apart.1 in
            let kept : StandsAs (after_event i (exited x)) n before.0 (standing_at old n) (waits old before.0.opening.instance n) =
            stands_same i (after_event i (exited x)) n before.0 before.0 (exited_more n i.here (exited x) refl ∙ ap (λ (b : Bool). has_exited n i.here || b) not_it ∙ or_false (has_exited n i.here)) (by_calls_same before.0.opening.instance n i.here (exited x) refl refl) refl refl (standing_at old n) (waits old before.0.opening.instance n) (told.stands n before.0 before.1) in
            subst (λ (t : Seat). StandsAs (after_event i (exited x)) n t (standing_at new n) (waits new t.opening.instance n)) made
            (subst (λ (e : Option Standing). StandsAs (after_event i (exited x)) n before.0 e (waits new before.0.opening.instance n)) (sym (other_standing n away))
            (subst (λ (w : Bool). StandsAs (after_event i (exited x)) n before.0 (standing_at old n) w) (sym (other_waits before.0.opening.instance n away)) kept))
      ]

  kept_exit : (e : Event) → IsExitKept old e → IsExitKept new e
  kept_exit (called c) h = tt
  kept_exit (opened o) h = tt
  kept_exit (moved m) h = tt
  kept_exit (settled p r) h = tt
  kept_exit (exited y) h = elim (equal_or_not x.seat y.seat) [
    | inl same ↦
        let none : cause_at_exit (standing_at old x.seat) ≡ None = open_left i x.seat is_open.seat (standing_at old x.seat) (waits old is_open.seat.opening.instance x.seat) as_stood is_open.stays in
        let some : cause_at_exit (standing_at old x.seat) ≡ Some y.cause = ap (λ (k : ℕ). cause_at_exit (standing_at old k)) same ∙ h in
        absurd (cc)
    | inr apart ↦ ap cause_at_exit (other_standing y.seat apart.1) ∙ h
  ]

  low : x.seat < length i.now.seats
  low = slice_get_within i.now.seats x.seat is_open.seat is_open.was_opened

  as_long : length (map (with_exit i.now.table x.seat) i.now.seats) ≡ length i.now.seats
  as_long = length_changed (with_exit i.now.table x.seat) i.now.seats

  unopened : (n : ℕ) → is_some (standing_at new n) ≡ true → n < length i.now.seats
  unopened n h = elim (equal_or_not x.seat n) [
    | inl same ↦ subst (λ (k : ℕ). k < length i.now.seats) same low
    | inr apart ↦ told.unopened n (ap is_some (sym (other_standing n apart.1)) ∙ h)
  ]

  pub exited_told : TellsStandings new (after_event i (exited x))
  exited_told = record {
    seats = keeps_changed old new (with_exit i.now.table x.seat) i.now.seats (exit_keeps i.now.table x.seat) told.seats (ap (λ (v : Vec ℕ Global). v.items) (put.instances ∙ stopped.instances)) fewer;
    stands = stands;
    unopened = λ n h. subst (λ (l : ℕ). n < l) (sym as_long) (unopened n h);
    named = all_more (IsOfSeatBelow (length (map (with_exit i.now.table x.seat) i.now.seats))) i.here (exited x) (subst (λ (l : ℕ). AllByRecursion (IsOfSeatBelow l) i.here) (sym as_long) told.named) (subst (λ (l : ℕ). x.seat < l) (sym as_long) low);
    exits = all_more (IsExitKept new) i.here (exited x) (all_weaker (IsExitKept old) (IsExitKept new) kept_exit i.here told.exits) (ap cause_at_exit put.at ∙ ap Some (sym cause_is));
  }

-- ---- the first cause of an open seat

module _ (k : Standings) (i : InTurn) (n : ℕ) (is_open : IsOpen i.now.seats n) (told : TellsStandings k i) where
  calls_of : by_calls i n is_open.seat ≡ option_map cause_view (shown_in (standing_at k n))
  calls_of = open_shown i n is_open.seat (standing_at k n) (waits k is_open.seat.opening.instance n) (told.stands n is_open.seat is_open.was_opened) is_open.stays

  pub first_called : (cause : code.Cause) → shown_in (standing_at k n) ≡ Some cause → Some (cause_view cause) ≡ first_cause i.before.owners i.row i.here is_open.seat.opening.instance n
  first_called cause shown = sym (ap (λ (o : Option Cause). either o (by_turn_row i n is_open.seat)) (calls_of ∙ ap (option_map cause_view) shown))

  pub first_by_row : (shows : Shows) (m : ℕ) (o : Option Cause) → IsShownByRow shows i → shown_in (standing_at k n) ≡ None → slice_get k.instances.items n ≡ Some m → o ≡ shown_of shows m n → o ≡ first_cause i.before.owners i.row i.here is_open.seat.opening.instance n
  first_by_row shows m o by_row none instance is =
      let own : m ≡ is_open.seat.opening.instance = (let e : Some m ≡ Some is_open.seat.opening.instance = sym instance ∙ instance_kept k i.now.seats told.seats n is_open.seat is_open.was_opened in cc) in
      let low = told.seats.numbered n is_open.seat is_open.was_opened in
      is ∙ ap (λ (m : ℕ). shown_of shows m n) own ∙ by_row is_open.seat.opening.instance n low.instance low.below
      ∙ sym (ap (λ (o : Option Cause). either o (by_turn_row i n is_open.seat)) (calls_of ∙ ap (option_map cause_view) none))

  pub opened_there : slice_get k.instances.items n ≡ None → ⊥
  opened_there none = let e : None ≡ Some is_open.seat.opening.instance = sym none ∙ instance_kept k i.now.seats told.seats n is_open.seat is_open.was_opened in cc

-- an exit row as code tells it
pub exit_told : (old mid new : Standings) (i : InTurn) (x : SeatExit) (seat : ℕ) (cause : code.Cause) (shown : Option code.Cause) (was : Bool) → x.seat ≡ seat → x.cause ≡ cause_view cause → IsOpen i.now.seats seat
    → HasFirstCause i.now.seats i.before.owners i.row i.here x → TellsStandings old i → shown ≡ shown_in (standing_at old seat) → IsStopped old mid seat was → IsPut mid new seat (record { shown = shown; left = Some cause }) → TellsStandings new (after_event i (exited x))
exit_told old mid new i x seat cause shown was seat_is cause_is is_open first told shown_is stopped put =
    exited_told old mid new i x cause was cause_is (subst (IsOpen i.now.seats) (sym seat_is) is_open) first told (subst (λ (n : ℕ). IsStopped old mid n was) (sym seat_is) stopped)
    (subst (λ (n : ℕ). IsPut mid new n (record { shown = shown_in (standing_at old n); left = Some cause })) (sym seat_is) (subst (λ (o : Option code.Cause). IsPut mid new seat (record { shown = o; left = Some cause })) shown_is put))

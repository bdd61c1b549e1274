-- An open row, a movement or a settlement: how each seat stands after it.
use Rattle.std.proofs.Common.{◌≡◌, ℕ, ◌+◌, ◌==◌, ◌<◌, ◌≤◌, inl, inr, Bool, true, false, ◌||◌, List, [], ◌∷◌, ◌++◌, length, map, Option, Some, None, is_some, refl, sym, ap, subst, ◌∙◌, arith, length-append}
use Rattle.std.specs.BTreeMap.{BTreeMap, get}
use Rattle.std.specs.List.{AllByRecursion, list_any, slice_get}
use Rattle.std.specs.Option.{option_map}
use Rattle.std.specs.Ordering.{nat_cmp}
use Rattle.std.proofs.lemmas.List.{map-append}
use Rattle.std.proofs.lemmas.Option.{slice_get_within}
use Rattle.row_records.specs.fair_rows.ExitCauses.{cause_by_calls, while_open}
use Rattle.row_records.specs.fair_rows.Rows.{InTurn, after_event}
use Rattle.row_records.specs.fair_rows.Seats.{Seat, new_seat, with_move}
use Rattle.row_records.specs.turn_records.Views.{cause_view}
use Rattle.row_records.specs.turn_rows.Causes.{Cause}
use Rattle.row_records.specs.turn_rows.Form.{objects_end}
use Rattle.row_records.specs.turn_rows.Turns.{Event, Move, Opening, Settlement, called, exited, moved, opened, settled}
use Rattle.told_causes.specs.ToldCauses.{HasStanding, IsExitKept, IsNoDeed, IsNumberedSeat, IsOfSeatBelow, IsSeatOf, IsWaiting, StandsAs, TellsStandings, by_calls, by_turn_row, cause_at_exit, exits, has_exited, standing_at, waits}
use Rattle.told_causes.specs.StandingSteps.{IsListed}
use Rattle.told_causes.specs.declared.standings.Standing.{Standing}
use Rattle.told_causes.specs.declared.standings.Standings.{Standings}
use Rattle.told_causes.proofs.Appended.{all_more, all_weaker, by_calls_same, exited_more, open_first}
use Rattle.told_causes.proofs.Ones.{equal_or_not, same_is}
use Rattle.told_causes.proofs.SeatLists.{get_before, get_in, get_last, get_more, keeps_changed, length_changed}

or_false : (b : Bool) → (b || false) ≡ b
or_false true = refl
or_false false = refl

-- ---- a seat that the row is not about

pub stands_same : (i j : InTurn) (n : ℕ) (s t : Seat) → has_exited n j.here ≡ has_exited n i.here → by_calls j n t ≡ by_calls i n s → by_turn_row j n t ≡ by_turn_row i n s → t.last ≡ s.last
    → (e : Option Standing) (w : Bool) → StandsAs i n s e w → StandsAs j n t e w
stands_same i j n s t here calls row last None true h = record { stays = last ∙ h.stays; here = here ∙ h.here; quiet = calls ∙ h.quiet }
stands_same i j n s t here calls row last None false h = record { went = ap is_some last ∙ h.went; before = here ∙ h.before }
stands_same i j n s t here calls row last (Some st) true h = h
stands_same i j n s t here calls row last (Some st) false h = by (option_map cause_view st.left) h
  where
    by : (left : Option Cause) → HasStanding i n s st left → HasStanding j n t st left
    by None k = record { stays = last ∙ k.stays; here = here ∙ k.here; some = k.some; shown = calls ∙ k.shown }
    by (Some c) k = record { went = ap is_some last ∙ k.went; here = here ∙ k.here; shown = calls ∙ k.shown; by_row = λ none. row ∙ k.by_row none }

-- ---- an open row

none_from : (e : Option Standing) → (is_some e ≡ true → ⊥) → e ≡ None
none_from (Some st) h = absurd (h refl)
none_from None h = refl

higher : (a b : ℕ) (e : Event) → a ≤ b → IsOfSeatBelow a e → IsOfSeatBelow b e
higher a b (called c) le h = tt
higher a b (opened o) le h = omega (arith, h)
higher a b (moved m) le h = tt
higher a b (exited x) le h = omega (arith, h)
higher a b (settled p r) le h = tt

exit_same : (old new : Standings) → new.standings ≡ old.standings → (e : Event) → IsExitKept old e → IsExitKept new e
exit_same old new same (called c) h = tt
exit_same old new same (opened o) h = tt
exit_same old new same (moved m) h = tt
exit_same old new same (exited x) h = ap (λ (ss : BTreeMap ℕ Standing). cause_at_exit (get nat_cmp ss x.seat)) same ∙ h
exit_same old new same (settled p r) h = tt

not_low : (a b : ℕ) → b < a → (a == b) ≡ false
not_low a b h = grind arith

module _ (old new : Standings) (i : InTurn) (o : Opening) (seat_low : o.seat < objects_end) (instance_low : o.instance < objects_end) (next : o.seat ≡ length i.now.seats) (told : TellsStandings old i)
    (instances : new.instances.items ≡ old.instances.items ++ o.instance ∷ []) (listed : IsListed old new o.instance o.seat) where
  same_standing : (n : ℕ) → standing_at new n ≡ standing_at old n
  same_standing n = ap (λ (ss : BTreeMap ℕ Standing). get nat_cmp ss n) listed.standings

  none_yet : standing_at old o.seat ≡ None
  none_yet = none_from (standing_at old o.seat) (λ h. let low : o.seat < length i.now.seats = told.unopened o.seat h in omega arith)

  new_stands : StandsAs (after_event i (opened o)) o.seat (new_seat o) (standing_at new o.seat) (waits new o.instance o.seat)
  new_stands =
      let first : while_open o.seat (i.here ++ opened o ∷ []) ≡ [] = open_first o.seat i.here (opened o) (same_is o.seat) (subst (λ (k : ℕ). AllByRecursion (IsOfSeatBelow k) i.here) (sym next) told.named) in
      let is_waiting : IsWaiting (after_event i (opened o)) o.seat (new_seat o) = record { stays = refl; here = ap (list_any (exits o.seat)) first; quiet = ap (cause_by_calls o.instance o.seat) first } in
      subst (λ (e : Option Standing). StandsAs (after_event i (opened o)) o.seat (new_seat o) e (waits new o.instance o.seat)) (sym (same_standing o.seat ∙ none_yet))
      (subst (λ (w : Bool). StandsAs (after_event i (opened o)) o.seat (new_seat o) None w) (sym listed.at) is_waiting)

  old_stands : (n : ℕ) (s : Seat) → slice_get i.now.seats n ≡ Some s → StandsAs (after_event i (opened o)) n s (standing_at new n) (waits new s.opening.instance n)
  old_stands n s is =
      let low : n < length i.now.seats = slice_get_within i.now.seats n s is in
      let other : (o.seat == n) ≡ false = not_low o.seat n (omega arith) in
      let kept : StandsAs (after_event i (opened o)) n s (standing_at old n) (waits old s.opening.instance n) =
      stands_same i (after_event i (opened o)) n s s (exited_more n i.here (opened o) other ∙ or_false (has_exited n i.here)) (by_calls_same s.opening.instance n i.here (opened o) refl other) refl refl (standing_at old n) (waits old s.opening.instance n) (told.stands n s is) in
      let waited : waits new s.opening.instance n ≡ waits old s.opening.instance n = elim (listed.other s.opening.instance n) [ inl same ↦ same | inr here ↦ absurd (let at : n ≡ o.seat = here.1 in omega arith) ] in
      subst (λ (e : Option Standing). StandsAs (after_event i (opened o)) n s e (waits new s.opening.instance n)) (sym (same_standing n))
      (subst (λ (w : Bool). StandsAs (after_event i (opened o)) n s (standing_at old n) w) (sym waited) kept)

  -- what holds of each seat before, and of the new one, holds of each
  each_seat : (P : ℕ → Seat → Type 0) → ((n : ℕ) (s : Seat) → slice_get i.now.seats n ≡ Some s → P n s) → P o.seat (new_seat o) → (n : ℕ) (s : Seat) → slice_get (i.now.seats ++ new_seat o ∷ []) n ≡ Some s → P n s
  each_seat P before last n s is = elim (equal_or_not n (length i.now.seats)) [
    | inl end ↦
        let at : new_seat o ≡ s = (let e : Some (new_seat o) ≡ Some s = sym (get_last i.now.seats n (new_seat o) end) ∙ is in cc) in
        let number : o.seat ≡ n = next ∙ sym end in
        subst (λ (t : Seat). P n t) at (subst (λ (k : ℕ). P k (new_seat o)) number last)
    | inr apart ↦ before n s (get_before i.now.seats n s (new_seat o) is apart.1)
  ]

  new_waiting : (m n : ℕ) → waits new m n ≡ true → IsSeatOf (i.now.seats ++ new_seat o ∷ []) m n
  new_waiting m n w = elim (listed.other m n) [
    | inl same ↦
        let was = told.seats.waiting m n (sym same ∙ w) in
        record { seat = was.seat; was_opened = get_more i.now.seats n was.seat (new_seat o) was.was_opened; of_instance = was.of_instance }
    | inr here ↦ record { seat = new_seat o; was_opened = get_last i.now.seats n (new_seat o) (here.1 ∙ next); of_instance = sym here.0 }
  ]

  longer : length (i.now.seats ++ new_seat o ∷ []) ≡ length i.now.seats + 1
  longer = length-append i.now.seats (new_seat o ∷ [])

  pub opened_told : TellsStandings new (after_event i (opened o))
  opened_told = record {
    seats = record {
      numbered = each_seat IsNumberedSeat told.seats.numbered (record { number = refl; below = seat_low; instance = instance_low });
      instances = instances ∙ ap (λ (ms : List ℕ). ms ++ o.instance ∷ []) told.seats.instances ∙ sym (map-append (λ (s : Seat). s.opening.instance) i.now.seats (new_seat o ∷ []));
      waiting = new_waiting;
    };
    stands = each_seat (λ n s. StandsAs (after_event i (opened o)) n s (standing_at new n) (waits new s.opening.instance n)) old_stands new_stands;
    unopened = λ n h. let low : n < length i.now.seats = told.unopened n (ap is_some (sym (same_standing n)) ∙ h) in omega (arith, longer);
    named = all_more (IsOfSeatBelow (length (i.now.seats ++ new_seat o ∷ []))) i.here (opened o)
        (all_weaker (IsOfSeatBelow (length i.now.seats)) (IsOfSeatBelow (length (i.now.seats ++ new_seat o ∷ []))) (λ e. higher (length i.now.seats) (length (i.now.seats ++ new_seat o ∷ [])) e (omega (arith, longer))) i.here told.named)
        (omega (arith, longer));
    exits = all_more (IsExitKept new) i.here (opened o) (all_weaker (IsExitKept old) (IsExitKept new) (exit_same old new listed.standings) i.here told.exits) tt;
  }

-- ---- a movement or a settlement

moved_told : (k : Standings) (i : InTurn) (m : Move) → TellsStandings k i → TellsStandings k (after_event i (moved m))
moved_told k i m told = record {
  seats = keeps_changed k k (with_move m) i.now.seats (λ s. refl) told.seats refl (λ o n w. w);
  stands = stands;
  unopened = λ n h. let low : n < length i.now.seats = told.unopened n h in omega (arith, same);
  named = all_more (IsOfSeatBelow (length (map (with_move m) i.now.seats))) i.here (moved m) (subst (λ (l : ℕ). AllByRecursion (IsOfSeatBelow l) i.here) (sym same) told.named) tt;
  exits = all_more (IsExitKept k) i.here (moved m) told.exits tt;
}
  where
    same : length (map (with_move m) i.now.seats) ≡ length i.now.seats
    same = length_changed (with_move m) i.now.seats

    stands : (n : ℕ) (s : Seat) → slice_get (map (with_move m) i.now.seats) n ≡ Some s → StandsAs (after_event i (moved m)) n s (standing_at k n) (waits k s.opening.instance n)
    stands n s is =
        let was = get_in (with_move m) i.now.seats n s is in
        subst (λ (t : Seat). StandsAs (after_event i (moved m)) n t (standing_at k n) (waits k t.opening.instance n)) was.2
        (stands_same i (after_event i (moved m)) n was.0 (with_move m was.0) (exited_more n i.here (moved m) refl ∙ or_false (has_exited n i.here)) (by_calls_same was.0.opening.instance n i.here (moved m) refl refl) refl refl (standing_at k n) (waits k was.0.opening.instance n) (told.stands n was.0 was.1))

settled_told : (k : Standings) (i : InTurn) (p : ℕ) (r : Settlement) → TellsStandings k i → TellsStandings k (after_event i (settled p r))
settled_told k i p r told = record {
  seats = told.seats;
  stands = λ n s is. stands_same i (after_event i (settled p r)) n s s (exited_more n i.here (settled p r) refl ∙ or_false (has_exited n i.here)) (by_calls_same s.opening.instance n i.here (settled p r) refl refl) refl refl (standing_at k n) (waits k s.opening.instance n) (told.stands n s is);
  unopened = told.unopened;
  named = all_more (IsOfSeatBelow (length i.now.seats)) i.here (settled p r) told.named tt;
  exits = all_more (IsExitKept k) i.here (settled p r) told.exits tt;
}

pub passed_told : (k : Standings) (i : InTurn) (e : Event) → IsNoDeed e → TellsStandings k i → TellsStandings k (after_event i e)
passed_told k i (called c) h told = absurd h
passed_told k i (opened o) h told = absurd h
passed_told k i (moved m) h told = moved_told k i m told
passed_told k i (exited x) h told = absurd h
passed_told k i (settled p r) h told = settled_told k i p r told

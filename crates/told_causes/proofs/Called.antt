-- A call row: how each seat stands after it.
use Rattle.std.proofs.Common.{◌≡◌, ℕ, ◌<◌, ◌≤◌, inl, inr, Bool, true, false, ◌||◌, List, [], ◌∷◌, ◌++◌, length, Option, Some, None, is_some, refl, sym, ap, subst, ◌∙◌, arith}
use Rattle.std.specs.List.{slice_get}
use Rattle.std.specs.Option.{option_map}
use Rattle.std.proofs.lemmas.Option.{slice_get_cases}
use Rattle.row_records.specs.fair_rows.ExitCauses.{cause_of_call, cause_of_own_call, either}
use Rattle.row_records.specs.fair_rows.Rows.{InTurn, after_event}
use Rattle.row_records.specs.fair_rows.Seats.{Seat}
use Rattle.row_records.specs.turn_records.Views.{cause_view}
use Rattle.row_records.specs.turn_records.declared.events.Cause as code
use Rattle.row_records.specs.turn_rows.Causes.{Cause}
use Rattle.row_records.specs.turn_rows.Turns.{Call, Event, called, exited, moved, opened, settled}
use Rattle.told_causes.specs.ToldCauses.{HasStanding, IsCalled, IsExitKept, IsOfSeatBelow, IsShownBy, IsWaiting, StandsAs, TellsStandings, by_calls, cause_at_exit, has_exited, shown_of, shown_own, standing_at, waits}
use Rattle.told_causes.specs.declared.standings.Shows.{Shows}
use Rattle.told_causes.specs.declared.standings.Shows.TheVariants.{Nothing}
use Rattle.told_causes.specs.declared.standings.Standing.{Standing}
use Rattle.told_causes.specs.declared.standings.Standings.{Standings}
use Rattle.told_causes.proofs.Appended.{adds, all_more, all_weaker, by_calls_more, exited_more}

-- ---- one seat

-- the seat stops to wait where a cause is shown for it
abbrev pub IsWoken : Option Cause → Option Standing → Bool → Type 0
IsWoken None e w = (e ≡ None) × (w ≡ true)
IsWoken (Some c) e w = (st : Standing) × ((e ≡ Some st) × (w ≡ false) × (option_map cause_view st.shown ≡ Some c) × (st.left ≡ None))

-- the first cause stays
abbrev pub IsMarked : Option Cause → Standing → Option Standing → Type 0
IsMarked own old e = (st : Standing) × ((e ≡ Some st) × (st.left ≡ old.left) × (option_map cause_view st.shown ≡ either (option_map cause_view old.shown) own))

-- what stands for a seat, and whether it waits, before and after a call that shows the first cause of a seat that
-- exited, and the second of one that is open
abbrev pub IsStep : Option Cause → Option Cause → Option Standing → Bool → Option Standing → Bool → Type 0
IsStep own all None true e w = IsWoken all e w
IsStep own all None false e w = (e ≡ None) × (w ≡ false)
IsStep own all (Some st) old e w = (w ≡ old) × IsMarked own st e

or_false : (b : Bool) → (b || false) ≡ b
or_false true = refl
or_false false = refl

some_view : (o : Option code.Cause) (c : Cause) → option_map cause_view o ≡ Some c → is_some o ≡ true
some_view (Some d) c h = refl
some_view None c h = absurd (cc)

none_view : (o : Option code.Cause) → option_map cause_view o ≡ None → o ≡ None
none_view (Some d) h = absurd (cc)
none_view None h = refl

module _ (i : InTurn) (c : Call) (n : ℕ) (s : Seat) where
  here_same : (b : Bool) → has_exited n i.here ≡ b → has_exited n (i.here ++ called c ∷ []) ≡ b
  here_same b h = exited_more n i.here (called c) refl ∙ or_false (has_exited n i.here) ∙ h

  more : (b : Bool) → has_exited n i.here ≡ b → by_calls (after_event i (called c)) n s ≡ either (by_calls i n s) (adds s.opening.instance n b c)
  more b h = by_calls_more s.opening.instance n i.here c ∙ ap (λ (b : Bool). either (by_calls i n s) (adds s.opening.instance n b c)) h

  woken : (all : Option Cause) → cause_of_call s.opening.instance n c ≡ all → IsWaiting i n s → (e : Option Standing) (w : Bool) → IsWoken all e w → StandsAs (after_event i (called c)) n s e w
  woken None is h None true step = record { stays = h.stays; here = here_same false h.here; quiet = more false h.here ∙ ap (λ (o : Option Cause). either o (adds s.opening.instance n false c)) h.quiet ∙ is }
  woken None is h None false step = absurd (let no = step.1 in cc)
  woken None is h (Some st) w step = absurd (let no = step.0 in cc)
  woken (Some d) is h None w step = absurd (let no = step.1.0 in cc)
  woken (Some d) is h (Some st) true step = absurd (let no = step.1.1 in cc)
  woken (Some d) is h (Some st) false step =
      let same : step.0 ≡ st = (let e = step.1.0 in cc) in
      let shown : option_map cause_view st.shown ≡ Some d = subst (λ (t : Standing). option_map cause_view t.shown ≡ Some d) same step.1.2 in
      let left : st.left ≡ None = subst (λ (t : Standing). t.left ≡ None) same step.1.3 in
      let now : by_calls (after_event i (called c)) n s ≡ Some d = more false h.here ∙ ap (λ (o : Option Cause). either o (adds s.opening.instance n false c)) h.quiet ∙ is in
      let is_called : IsCalled (after_event i (called c)) n s st = record { stays = h.stays; here = here_same false h.here; some = some_view st.shown d shown; shown = now ∙ sym shown } in
      subst (λ (o : Option code.Cause). HasStanding (after_event i (called c)) n s st (option_map cause_view o)) (sym left) is_called

  first_stays : (o : Option Cause) (p : Option Cause) (d : Cause) → o ≡ Some d → either o p ≡ o
  first_stays (Some x) p d h = refl
  first_stays None p d h = absurd (cc)

  some_is : (o : Option code.Cause) → is_some o ≡ true → (d : Cause) × (option_map cause_view o ≡ Some d)
  some_is (Some x) h = (cause_view x, refl)
  some_is None h = absurd (cc)

  none_first : (o p : Option Cause) → either o p ≡ None → o ≡ None
  none_first (Some x) p h = absurd (cc)
  none_first None p h = refl

  marked : (own : Option Cause) → cause_of_own_call n c ≡ own → (old st : Standing) (left : Option Cause) → HasStanding i n s old left → st.left ≡ old.left
      → option_map cause_view st.shown ≡ either (option_map cause_view old.shown) own → HasStanding (after_event i (called c)) n s st left
  marked own is old st None h left shown =
      let first = some_is old.shown h.some in
      let same : option_map cause_view st.shown ≡ option_map cause_view old.shown = shown ∙ first_stays (option_map cause_view old.shown) own first.0 first.1 in
      record {
        stays = h.stays;
        here = here_same false h.here;
        some = some_view st.shown first.0 (same ∙ first.1);
        shown = more false h.here ∙ first_stays (by_calls i n s) (adds s.opening.instance n false c) first.0 (h.shown ∙ first.1) ∙ h.shown ∙ sym same;
      }
  marked own is old st (Some d) h left shown = record {
    went = h.went;
    here = here_same true h.here;
    shown = more true h.here ∙ ap (λ (o : Option Cause). either o (cause_of_own_call n c)) h.shown ∙ ap (either (option_map cause_view old.shown)) is ∙ sym shown;
    by_row = λ none.
        let gone : option_map cause_view old.shown ≡ None = none_first (option_map cause_view old.shown) own (sym shown ∙ ap (option_map cause_view) none) in
        h.by_row (none_view old.shown gone) ∙ ap (option_map cause_view) (sym left);
  }

  pub stands_called : (own all : Option Cause) → cause_of_own_call n c ≡ own → cause_of_call s.opening.instance n c ≡ all
      → (e : Option Standing) (w : Bool) → StandsAs i n s e w → (f : Option Standing) (v : Bool) → IsStep own all e w f v → StandsAs (after_event i (called c)) n s f v
  stands_called own all own_is all_is None true h f v step = woken all all_is h f v step
  stands_called own all own_is all_is None false h (Some st) v step = absurd (let no = step.0 in cc)
  stands_called own all own_is all_is None false h None true step = absurd (let no = step.1 in cc)
  stands_called own all own_is all_is None false h None false step = record { went = h.went; before = here_same false h.before }
  stands_called own all own_is all_is (Some st) true h f v step = absurd h
  stands_called own all own_is all_is (Some st) false h None v step = absurd (let no = step.1.1.0 in cc)
  stands_called own all own_is all_is (Some st) false h (Some new) true step = absurd (let no = step.0 in cc)
  stands_called own all own_is all_is (Some st) false h (Some new) false step =
      let same : step.1.0 ≡ new = (let e = step.1.1.0 in cc) in
      let left : new.left ≡ st.left = subst (λ (t : Standing). t.left ≡ st.left) same step.1.1.1 in
      let shown : option_map cause_view new.shown ≡ either (option_map cause_view st.shown) own = subst (λ (t : Standing). option_map cause_view t.shown ≡ either (option_map cause_view st.shown) own) same step.1.1.2 in
      subst (λ (o : Option code.Cause). HasStanding (after_event i (called c)) n s new (option_map cause_view o)) (sym left) (marked own own_is st new (option_map cause_view st.left) h left shown)

-- the cause of an exit row stays
left_stays : (own all : Option Cause) (e : Option Standing) (w : Bool) (f : Option Standing) (v : Bool) (d : Cause) → IsStep own all e w f v → cause_at_exit e ≡ Some d → cause_at_exit f ≡ Some d
left_stays own all None w f v d step h = absurd (cc)
left_stays own all (Some st) w None v d step h = absurd (let no = step.1.1.0 in cc)
left_stays own all (Some st) w (Some new) v d step h =
    let same : step.1.0 ≡ new = (let e = step.1.1.0 in cc) in
    let left : new.left ≡ st.left = subst (λ (t : Standing). t.left ≡ st.left) same step.1.1.1 in
    ap (option_map cause_view) left ∙ h

-- ---- all seats

pub seat_there : {A : Type 0} (xs : List A) (n : ℕ) → n < length xs → (x : A) × (slice_get xs n ≡ Some x)
seat_there xs n h =
    elim (slice_get_cases xs n).1 [ inl there ↦ (there.0, there.2) | inr past ↦ absurd (let far : length xs ≤ n = past.0 in omega arith) ]

pub some_standing : (e : Option Standing) (d : Cause) → cause_at_exit e ≡ Some d → is_some e ≡ true
some_standing (Some st) d h = refl
some_standing None d h = absurd (cc)

module _ (old new : Standings) (i : InTurn) (shows : Shows) (c : Call) (shown : IsShownBy shows c) (told : TellsStandings old i)
    (instances : new.instances.items ≡ old.instances.items)
    (fewer : (m n : ℕ) → waits new m n ≡ true → waits old m n ≡ true)
    (each : (n : ℕ) (s : Seat) → slice_get i.now.seats n ≡ Some s → IsStep (shown_own shows n) (shown_of shows s.opening.instance n) (standing_at old n) (waits old s.opening.instance n) (standing_at new n) (waits new s.opening.instance n))
    (unopened : (n : ℕ) → is_some (standing_at new n) ≡ true → n < length i.now.seats) where
  kept : (e : Event) → IsExitKept old e → IsExitKept new e
  kept (called d) h = tt
  kept (opened o) h = tt
  kept (moved m) h = tt
  kept (settled p r) h = tt
  kept (exited x) h =
      let there = seat_there i.now.seats x.seat (told.unopened x.seat (some_standing (standing_at old x.seat) x.cause h)) in
      left_stays (shown_own shows x.seat) (shown_of shows there.0.opening.instance x.seat) (standing_at old x.seat) (waits old there.0.opening.instance x.seat) (standing_at new x.seat) (waits new there.0.opening.instance x.seat) x.cause (each x.seat there.0 there.1) h

  pub called_told : TellsStandings new (after_event i (called c))
  called_told = record {
    seats = record { numbered = told.seats.numbered; instances = instances ∙ told.seats.instances; waiting = λ m n w. told.seats.waiting m n (fewer m n w) };
    stands = λ n s is.
        let numbered = told.seats.numbered n s is in
        stands_called i c n s (shown_own shows n) (shown_of shows s.opening.instance n) (sym (shown.own n numbered.below)) (sym (shown.all s.opening.instance n numbered.instance numbered.below)) (standing_at old n) (waits old s.opening.instance n) (told.stands n s is) (standing_at new n) (waits new s.opening.instance n) (each n s is);
    unopened = unopened;
    named = all_more (IsOfSeatBelow (length i.now.seats)) i.here (called c) told.named tt;
    exits = all_more (IsExitKept new) i.here (called c) (all_weaker (IsExitKept old) (IsExitKept new) kept i.here told.exits) tt;
  }

-- ---- calls that show nothing, or of one seat

pub step_none : (e : Option Standing) (w : Bool) → IsStep None None e w e w
step_none None true = (refl, refl)
step_none None false = (refl, refl)
step_none (Some st) w = (refl, (st, (refl, refl, either_none (option_map cause_view st.shown))))
  where
    either_none : (o : Option Cause) → o ≡ either o None
    either_none (Some x) = refl
    either_none None = refl

-- a call that shows nothing
pub nothing_told : (k : Standings) (i : InTurn) (c : Call) → IsShownBy Nothing c → TellsStandings k i → TellsStandings k (after_event i (called c))
nothing_told k i c shown told = called_told k k i Nothing c shown told refl (λ m n w. w) (λ n s is. step_none (standing_at k n) (waits k s.opening.instance n)) told.unopened

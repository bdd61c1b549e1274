-- A turn's end: the causes that were shown, as standings tell them.
use Rattle.std.proofs.Common.{◌≡◌, ℕ, ◌==◌, ◌↔◌, inl, inr, Bool, true, false, cond, not, ◌||◌, List, [], ◌∷◌, ◌++◌, Option, Some, None, is_some, refl, sym, ap, subst, ◌∙◌}
use Rattle.std.specs.Prelude.{IfSome, IsTrue, unwrap_or}
use Rattle.std.specs.BTreeMap.{is_at}
use Rattle.std.specs.List.{All, AllByRecursion, list_any, slice_get}
use Rattle.std.specs.List.Sorted.{IsStrictlySortedBy}
use Rattle.std.specs.Map.{keys_of, values_of}
use Rattle.std.specs.Ordering.{nat_cmp}
use Rattle.std.proofs.lemmas.Cmp.{eq_by_cmp_equiv, nat_cmp_total}
use Rattle.std.proofs.lemmas.List.Elements.{All-from_recursion, recursion_from_All}
use Rattle.std.proofs.lemmas.Map.Keys.{IsDistinct-from_sorted}
use Rattle.std.proofs.lemmas.Map.Views.{All-values_from_lookup, IfSome-lookup_from_All}
use Rattle.std.specs.Option.{option_map}
use Rattle.row_records.specs.fair_rows.ExitCauses.{cause_if, either, first_cause, since_opening, while_open}
use Rattle.row_records.specs.fair_rows.Rows.{InTurn}
use Rattle.row_records.specs.fair_rows.Seats.{Seat}
use Rattle.row_records.specs.fair_rows.Turns.{IsCaused}
use Rattle.row_records.specs.turn_records.Views.{cause_view}
use Rattle.row_records.specs.turn_records.declared.events.Cause as code
use Rattle.row_records.specs.turn_records.declared.events.Cause.TheVariants as codes
use Rattle.row_records.specs.turn_rows.Causes.{Cause, asked, deadline, exit, fail, threw, halted, spent}
use Rattle.row_records.specs.turn_rows.Turns.{Event, SeatExit, called, exited, moved, opened, settled}
use Rattle.told_causes.specs.ToldCauses.{AreCaused, HasExited, HasStanding, IsCalled, IsExitKept, IsShownByRow, StandsAs, TellsStandings, TellsStandingsBefore, by_calls, by_turn_row, cause_at_exit, exits, shown_of, standing_at, waits}
use Rattle.told_causes.specs.StandingSteps.{AreSettled, IsSettled, IsSettledAs, ShowsWaiting, waits_at, waits_own}
use Rattle.told_causes.specs.declared.standings.Shows.{Shows}
use Rattle.told_causes.specs.declared.standings.Shows.TheVariants.{Nothing, OfSeat, OfInstance}
use Rattle.told_causes.specs.declared.standings.Standing.{Standing}
use Rattle.told_causes.specs.declared.standings.Standings.{Standings}
use Rattle.told_causes.proofs.Appended.{all_weaker}
use Rattle.told_causes.proofs.Called.{seat_there, some_standing}
use Rattle.told_causes.proofs.Exited.{is_some_none}
use Rattle.told_causes.proofs.Ones.{equal_or_not, own_kept, same_is}

-- ---- causes are told apart by their words

code_of : Cause → code.Cause
code_of asked = codes.Asked
code_of deadline = codes.Deadline
code_of exit = codes.Exit
code_of fail = codes.Fail
code_of threw = codes.Threw
code_of halted = codes.Halted
code_of spent = codes.Spent

code_back : (c : code.Cause) → code_of (cause_view c) ≡ c
unfolding code_of
code_back codes.Asked = refl
code_back codes.Deadline = refl
code_back codes.Exit = refl
code_back codes.Fail = refl
code_back codes.Threw = refl
code_back codes.Halted = refl
code_back codes.Spent = refl

pub one_cause : (c d : code.Cause) → cause_view c ≡ cause_view d → c ≡ d
one_cause c d h = sym (code_back c) ∙ ap code_of h ∙ code_back d

-- ---- an exit row among the rows

or_right : (a b : Bool) → b ≡ true → (a || b) ≡ true
or_right true b h = refl
or_right false b h = h

any_since : (P : Event → Bool) (n : ℕ) (es fs : List Event) → since_opening n es ≡ Some fs → list_any P fs ≡ true → list_any P es ≡ true
any_since P n [] fs is h = absurd (cc)
any_since P n (called c ∷ es) fs is h = or_right (P (called c)) (list_any P es) (any_since P n es fs is h)
any_since P n (moved m ∷ es) fs is h = or_right (P (moved m)) (list_any P es) (any_since P n es fs is h)
any_since P n (exited x ∷ es) fs is h = or_right (P (exited x)) (list_any P es) (any_since P n es fs is h)
any_since P n (settled p r ∷ es) fs is h = or_right (P (settled p r)) (list_any P es) (any_since P n es fs is h)
any_since P n (opened o ∷ es) fs is h = or_right (P (opened o)) (list_any P es) (by (o.seat == n) is (λ e. any_since P n es fs e h))
  where
    by : (b : Bool) → cond b (Some es) (since_opening n es) ≡ Some fs → (since_opening n es ≡ Some fs → list_any P es ≡ true) → list_any P es ≡ true
    by true e rest = let one : es ≡ fs = cc in ap (list_any P) one ∙ h
    by false e rest = rest e

any_open : (P : Event → Bool) (n : ℕ) (es : List Event) → list_any P (while_open n es) ≡ true → list_any P es ≡ true
any_open P n es h = by (since_opening n es) refl h
  where
    by : (o : Option (List Event)) → since_opening n es ≡ o → list_any P (unwrap_or o es) ≡ true → list_any P es ≡ true
    by (Some fs) is k = any_since P n es fs is k
    by None is k = k

-- the exit row of the seat, of which what holds of all rows holds
pub record ExitRow (P Q : Event → Type 0) (n : ℕ) : Type 0 where
  pub row : SeatExit
  pub of_seat : row.seat ≡ n
  pub first : P (exited row)
  pub second : Q (exited row)

exit_among : (P Q : Event → Type 0) (n : ℕ) (es : List Event) → list_any (exits n) es ≡ true → AllByRecursion P es → AllByRecursion Q es → ExitRow P Q n
exit_among P Q n [] h p q = absurd (cc)
exit_among P Q n (called c ∷ es) h p q = exit_among P Q n es h p.1 q.1
exit_among P Q n (opened o ∷ es) h p q = exit_among P Q n es h p.1 q.1
exit_among P Q n (moved m ∷ es) h p q = exit_among P Q n es h p.1 q.1
exit_among P Q n (settled s r ∷ es) h p q = exit_among P Q n es h p.1 q.1
exit_among P Q n (exited x ∷ es) h p q = elim (equal_or_not x.seat n) [
  | inl same ↦ record { row = x; of_seat = same; first = p.0; second = q.0 }
  | inr apart ↦ exit_among P Q n es (subst (λ (b : Bool). (b || list_any (exits n) es) ≡ true) apart.0 h) p.1 q.1
]

-- ---- one seat

some_if : (b : Bool) (c : Cause) → b ≡ true → cause_if b c ≡ None → ⊥
some_if true c h none = cc
some_if false c h none = cc

called_not : (calls row : Option Cause) (shown : Option code.Cause) → is_some shown ≡ true → calls ≡ option_map cause_view shown → either calls row ≡ None → ⊥
called_not (Some c) row shown some is none = cc
called_not None row (Some d) some is none = cc
called_not None row None some is none = cc

module _ (k : Standings) (i : InTurn) (shows : Shows) (told : TellsStandings k i) (by_row : IsShownByRow shows i) where
  -- where no cause is shown for a seat that waits, none is shown for it by the turn row
  none_shown : (ShowsWaiting k shows → ⊥) → (m n : ℕ) (s : Seat) → slice_get i.now.seats n ≡ Some s → s.opening.instance ≡ m → waits k m n ≡ true → shown_of shows m n ≡ None
  none_shown unseen m n s is of w = by shows unseen
    where
      by : (sh : Shows) → (ShowsWaiting k sh → ⊥) → shown_of sh m n ≡ None
      by Nothing h = refl
      by (OfSeat q c) h = elim (equal_or_not q n) [
        | inl same ↦ absurd (h (ap (waits_own k) same ∙ own_kept k i.now.seats told.seats n s is ∙ ap (λ (o : ℕ). waits k o n) of ∙ w))
        | inr apart ↦ ap (λ (b : Bool). cause_if b (cause_view c)) apart.0
      ]
      by (OfInstance o c) h = elim (equal_or_not o m) [
        | inl same ↦ absurd (h (n, ap (λ (p : ℕ). waits k p n) same ∙ w))
        | inr apart ↦ ap (λ (b : Bool). cause_if b (cause_view c)) apart.0
      ]

  row_is : (n : ℕ) (s : Seat) → slice_get i.now.seats n ≡ Some s → shown_of shows s.opening.instance n ≡ by_turn_row i n s
  row_is n s is = let low = told.seats.numbered n s is in by_row s.opening.instance n low.instance low.below

  stays : (ShowsWaiting k shows → ⊥) → AreSettled k → (n : ℕ) (s : Seat) → slice_get i.now.seats n ≡ Some s → s.last ≡ None → first_cause i.before.owners i.row i.here s.opening.instance n ≡ None
  stays unseen done n s is open_now = by (standing_at k n) (waits k s.opening.instance n) refl refl (told.stands n s is)
    where
      at : (st : Standing) (left : Option code.Cause) → IsSettledAs left st.shown → HasStanding i n s st (option_map cause_view left) → either (by_calls i n s) (by_turn_row i n s) ≡ None
      at st None left has = absurd left
      at st (Some c) left has = absurd (is_some_none s has.went open_now)

      by : (e : Option Standing) (w : Bool) → standing_at k n ≡ e → waits k s.opening.instance n ≡ w → StandsAs i n s e w → either (by_calls i n s) (by_turn_row i n s) ≡ None
      by None true e w h = ap (λ (o : Option Cause). either o (by_turn_row i n s)) h.quiet ∙ sym (row_is n s is) ∙ none_shown unseen s.opening.instance n s is refl w
      by None false e w h = absurd (is_some_none s h.went open_now)
      by (Some st) true e w h = absurd h
      by (Some st) false e w h = at st st.left (done n st e) h

  caused : AreSettled k → (e : Event) → IsExitKept k e → IsCaused i.now.seats i.before.owners i.row i.here e
  caused done (called c) h = tt
  caused done (opened o) h = tt
  caused done (moved m) h = tt
  caused done (settled p r) h = tt
  caused done (exited x) h =
      let there = seat_there i.now.seats x.seat (told.unopened x.seat (some_standing (standing_at k x.seat) x.cause h)) in
      record { seat = there.0; was_opened = there.1; first = by there.0 (standing_at k x.seat) (waits k there.0.opening.instance x.seat) refl h (told.stands x.seat there.0 there.1) }
    where
      at : (s : Seat) (st : Standing) (left shown : Option code.Cause) → st.left ≡ left → st.shown ≡ shown → option_map cause_view left ≡ Some x.cause → IsSettledAs left shown → HasStanding i x.seat s st (option_map cause_view left)
          → either (by_calls i x.seat s) (by_turn_row i x.seat s) ≡ Some x.cause
      at s st None shown left_is shown_is is same has = absurd same
      at s st (Some d) None left_is shown_is is same has =
          ap (λ (o : Option Cause). either o (by_turn_row i x.seat s)) (has.shown ∙ ap (option_map cause_view) shown_is) ∙ has.by_row shown_is ∙ ap (option_map cause_view) left_is ∙ is
      at s st (Some d) (Some f) left_is shown_is is same has =
          ap (λ (o : Option Cause). either o (by_turn_row i x.seat s)) (has.shown ∙ ap (option_map cause_view) shown_is) ∙ ap (λ (c : code.Cause). Some (cause_view c)) (sym same) ∙ is

      by : (s : Seat) (e : Option Standing) (w : Bool) → standing_at k x.seat ≡ e → cause_at_exit e ≡ Some x.cause → StandsAs i x.seat s e w → either (by_calls i x.seat s) (by_turn_row i x.seat s) ≡ Some x.cause
      by s None w e is has = absurd (cc)
      by s (Some st) true e is has = absurd has
      by s (Some st) false e is has = at s st st.left st.shown refl refl is (done x.seat st e) has

  are_caused : AreSettled k → (ShowsWaiting k shows → ⊥) → AreCaused i
  are_caused done unseen = record {
    stays = λ n is_open. stays unseen done n is_open.seat is_open.was_opened is_open.stays;
    caused = all_weaker (IsExitKept k) (IsCaused i.now.seats i.before.owners i.row i.here) (caused done) i.here told.exits;
  }

  -- ---- and back

  are_settled : AreCaused i → AreSettled k
  are_settled c n st is =
      let there = seat_there i.now.seats n (told.unopened n (ap is_some is)) in
      by there.0 there.1 (waits k there.0.opening.instance n) (subst (λ (e : Option Standing). StandsAs i n there.0 e (waits k there.0.opening.instance n)) is (told.stands n there.0 there.1))
    where
      open_called : (s : Seat) → slice_get i.now.seats n ≡ Some s → IsCalled i n s st → ⊥
      open_called s s_is has =
          let none : either (by_calls i n s) (by_turn_row i n s) ≡ None = c.stays n (record { seat = s; was_opened = s_is; stays = has.stays }) in
          called_not (by_calls i n s) (by_turn_row i n s) st.shown has.some has.shown none

      first_is : (s : Seat) → slice_get i.now.seats n ≡ Some s → (d f : code.Cause) → st.left ≡ Some d → st.shown ≡ Some f → HasExited i n s st → d ≡ f
      first_is s s_is d f left_is shown_is has =
          let row = exit_among (IsExitKept k) (IsCaused i.now.seats i.before.owners i.row i.here) n i.here (any_open (exits n) n i.here has.here) told.exits c.caused in
          let kept : Some (cause_view d) ≡ Some row.row.cause =
          sym (ap cause_at_exit is ∙ ap (option_map cause_view) left_is) ∙ ap (λ (m : ℕ). cause_at_exit (standing_at k m)) (sym row.of_seat) ∙ row.first in
          let one : row.second.seat ≡ s = (let e : Some row.second.seat ≡ Some s = sym row.second.was_opened ∙ ap (slice_get i.now.seats) row.of_seat ∙ s_is in cc) in
          let first : either (by_calls i n s) (by_turn_row i n s) ≡ Some row.row.cause =
          subst (λ (m : ℕ). first_cause i.before.owners i.row i.here s.opening.instance m ≡ Some row.row.cause) row.of_seat (subst (λ (t : Seat). first_cause i.before.owners i.row i.here t.opening.instance row.row.seat ≡ Some row.row.cause) one row.second.first) in
          let shown : Some (cause_view f) ≡ Some row.row.cause = sym (ap (λ (o : Option Cause). either o (by_turn_row i n s)) (has.shown ∙ ap (option_map cause_view) shown_is)) ∙ first in
          one_cause d f (let e : cause_view d ≡ cause_view f = cc in e)

      at : (s : Seat) → slice_get i.now.seats n ≡ Some s → (left shown : Option code.Cause) → st.left ≡ left → st.shown ≡ shown → HasStanding i n s st (option_map cause_view left) → IsSettledAs left shown
      at s s_is None shown left_is shown_is has = absurd (open_called s s_is has)
      at s s_is (Some d) None left_is shown_is has = tt
      at s s_is (Some d) (Some f) left_is shown_is has = first_is s s_is d f left_is shown_is has

      by : (s : Seat) → slice_get i.now.seats n ≡ Some s → (w : Bool) → StandsAs i n s (Some st) w → IsSettled st
      by s s_is true has = absurd has
      by s s_is false has = at s s_is st.left st.shown refl refl has

  waiting_unshown : AreCaused i → (m n : ℕ) → waits k m n ≡ true → shown_of shows m n ≡ None
  waiting_unshown c m n w =
      let there = told.seats.waiting m n w in
      let own : waits k there.seat.opening.instance n ≡ true = ap (λ (o : ℕ). waits k o n) there.of_instance ∙ w in
      subst (λ (o : ℕ). shown_of shows o n ≡ None) there.of_instance
      (by there.seat there.was_opened (standing_at k n) (subst (λ (b : Bool). StandsAs i n there.seat (standing_at k n) b) own (told.stands n there.seat there.was_opened)))
    where
      by : (s : Seat) → slice_get i.now.seats n ≡ Some s → (e : Option Standing) → StandsAs i n s e true → shown_of shows s.opening.instance n ≡ None
      by s s_is (Some st) has = absurd has
      by s s_is None has =
          let none : either (by_calls i n s) (by_turn_row i n s) ≡ None = c.stays n (record { seat = s; was_opened = s_is; stays = has.stays }) in
          row_is n s s_is ∙ sym (ap (λ (o : Option Cause). either o (by_turn_row i n s)) has.quiet) ∙ none

  unseen_waiting : AreCaused i → ShowsWaiting k shows → ⊥
  unseen_waiting c h = by shows (waiting_unshown c) h
    where
      own : (q : ℕ) (o : Option ℕ) (v : Cause) → waits_at k o q ≡ true → ((m n : ℕ) → waits k m n ≡ true → cause_if (q == n) v ≡ None) → ⊥
      own q None v w none = absurd (cc)
      own q (Some m) v w none = some_if (q == q) v (same_is q) (none m q w)

      by : (sh : Shows) → ((m n : ℕ) → waits k m n ≡ true → shown_of sh m n ≡ None) → ShowsWaiting k sh → ⊥
      by Nothing none w = w
      by (OfSeat q c) none w = own q (slice_get k.instances.items q) (cause_view c) w none
      by (OfInstance o c) none w = some_if (o == o) (cause_view c) (same_is o) (none o w.0 w.1)

  pub ends : (AreSettled k × (ShowsWaiting k shows → ⊥)) ↔ AreCaused i
  ends = (λ h. are_caused h.0 h.1, λ c. (are_settled c, unseen_waiting c))

-- as two tests tell it
pub ends_if : (k : Standings) (i : InTurn) (shows : Shows) → TellsStandings k i → IsShownByRow shows i → AreSettled k → (seen : Bool) → IsTrue seen ↔ ShowsWaiting k shows → IsTrue (not seen) ↔ AreCaused i
ends_if k i shows told by_row done true seen = ((λ h. absurd (cc h)), (λ c. absurd (((ends k i shows told by_row).1 c).1 (seen.0 refl))))
ends_if k i shows told by_row done false seen = ((λ h. (ends k i shows told by_row).0 (done, (λ w. let e = seen.1 w in cc))), (λ c. refl))

pub ends_not : (k : Standings) (i : InTurn) (shows : Shows) → TellsStandings k i → IsShownByRow shows i → (AreSettled k → ⊥) → IsTrue false ↔ AreCaused i
ends_not k i shows told by_row open_yet = ((λ h. absurd (cc h)), (λ c. absurd (open_yet ((ends k i shows told by_row).1 c).0)))

-- where all have settled, those that are left wait
pub before_told : (k : Standings) (i : InTurn) → TellsStandings k i → AreSettled k → TellsStandingsBefore k i.now.seats
before_told k i told done = record {
  seats = told.seats;
  only = λ n s is w. only n s (standing_at k n) (subst (λ (b : Bool). StandsAs i n s (standing_at k n) b) w (told.stands n s is));
  all = λ n s is open_now. all n s open_now (standing_at k n) (waits k s.opening.instance n) refl (told.stands n s is);
}
  where
    only : (n : ℕ) (s : Seat) (e : Option Standing) → StandsAs i n s e true → s.last ≡ None
    only n s None h = h.stays
    only n s (Some st) h = absurd h

    at : (n : ℕ) (s : Seat) (st : Standing) (left : Option code.Cause) → s.last ≡ None → IsSettledAs left st.shown → HasStanding i n s st (option_map cause_view left) → ⊥
    at n s st None open_now same has = same
    at n s st (Some d) open_now same has = is_some_none s has.went open_now

    all : (n : ℕ) (s : Seat) → s.last ≡ None → (e : Option Standing) (w : Bool) → standing_at k n ≡ e → StandsAs i n s e w → w ≡ true
    all n s open_now None true e h = refl
    all n s open_now None false e h = absurd (is_some_none s h.went open_now)
    all n s open_now (Some st) true e h = refl
    all n s open_now (Some st) false e h = absurd (at n s st st.left open_now (done n st e) h)

-- ---- all that stand

settled_values : (k : Standings) → IsStrictlySortedBy nat_cmp (keys_of k.standings.entries) → AreSettled k → All IsSettled (values_of k.standings.entries)
settled_values k order done = All-values_from_lookup (eq_by_cmp_equiv nat_cmp_total) IsSettled k.standings.entries (IsDistinct-from_sorted nat_cmp (keys_of k.standings.entries) order) (λ n. by n (standing_at k n) refl)
  where
    by : (n : ℕ) (e : Option Standing) → standing_at k n ≡ e → IfSome e IsSettled
    by n (Some st) is = done n st is
    by n None is = tt

among : (xs : List Standing) (x : Standing) (ys : List Standing) → AllByRecursion IsSettled (xs ++ x ∷ ys) → IsSettled x
among [] x ys h = h.0
among (z ∷ xs) x ys h = among xs x ys h.1

pub settled_more : (xs : List Standing) (x : Standing) → AllByRecursion IsSettled xs → IsSettled x → AllByRecursion IsSettled (xs ++ x ∷ [])
settled_more [] x h k = (k, tt)
settled_more (z ∷ xs) x h k = (h.0, settled_more xs x h.1 k)

pub settled_not : (k : Standings) (xs : List Standing) (x : Standing) (ys : List Standing) → values_of k.standings.entries ≡ xs ++ x ∷ ys → IsStrictlySortedBy nat_cmp (keys_of k.standings.entries)
    → (b : Bool) → IsTrue b ↔ IsSettled x → b ≡ false → IsTrue false ↔ AreSettled k
settled_not k xs x ys all order b test is = (
  (λ h. absurd (cc h)),
  (λ done. absurd (let yes = test.1 (among xs x ys (subst (AllByRecursion IsSettled) all (recursion_from_All IsSettled (values_of k.standings.entries) (settled_values k order done)))) in cc)),
)

pub settled_all : (k : Standings) (xs : List Standing) → values_of k.standings.entries ≡ xs → AllByRecursion IsSettled xs → IsTrue true ↔ AreSettled k
settled_all k xs all done = (
  (λ h n st is. subst (λ (o : Option Standing). IfSome o IsSettled) is (IfSome-lookup_from_All IsSettled (is_at (nat_cmp n)) k.standings.entries (All-from_recursion IsSettled (values_of k.standings.entries) (subst (AllByRecursion IsSettled) (sym all) done)))),
  (λ h. refl),
)

-- A call that shows a cause for one seat.
use Rattle.std.proofs.Common.{◌≡◌, ◌≢◌, ℕ, ◌==◌, ◌<◌, ◌⊎◌, inl, inr, Bool, true, false, List, length, Option, Some, None, is_some, Vec, refl, sym, ap, subst, ◌∙◌, arith}
use Rattle.std.specs.BTreeMap.{BTreeMap, get}
use Rattle.std.specs.BTreeSet.{BTreeSet, contains}
use Rattle.std.specs.List.{slice_get}
use Rattle.std.specs.declared.alloc.Global.{Global}
use Rattle.std.specs.Ordering.{nat_cmp}
use Rattle.std.specs.Option.{option_map}
use Rattle.std.proofs.lemmas.Option.{slice_get-map, slice_get_within}
use Rattle.row_records.specs.fair_rows.ExitCauses.{cause_if, either}
use Rattle.row_records.specs.fair_rows.Rows.{InTurn, after_event}
use Rattle.row_records.specs.fair_rows.Seats.{Seat}
use Rattle.row_records.specs.turn_records.Views.{cause_view}
use Rattle.row_records.specs.turn_records.declared.events.Cause as code
use Rattle.row_records.specs.turn_rows.Turns.{Call, called}
use Rattle.told_causes.specs.ToldCauses.{IsShownBy, KeepsSeats, TellsStandings, pair_cmp, standing_at, waits}
use Rattle.told_causes.specs.StandingSteps.{IsPut, IsStopped, waits_at, waits_own}
use Rattle.told_causes.specs.declared.standings.Shows.TheVariants.{OfSeat}
use Rattle.told_causes.specs.declared.standings.Standing.{Standing}
use Rattle.told_causes.specs.declared.standings.Standings.{Standings}
use Rattle.told_causes.proofs.Called.{IsStep, called_told, step_none}

pub equal_or_not : (m n : ℕ) → (m ≡ n) ⊎ (((m == n) ≡ false) × (m ≢ n))
equal_or_not m n = by (m == n) refl
  where
    there : (m == n) ≡ true → m ≡ n
    there h = grind arith

    apart : (m == n) ≡ false → m ≢ n
    apart h = grind arith

    by : (b : Bool) → (m == n) ≡ b → (m ≡ n) ⊎ (((m == n) ≡ false) × (m ≢ n))
    by true h = inl (there h)
    by false h = inr (h, apart h)

pub same_is : (n : ℕ) → (n == n) ≡ true
same_is n = grind arith

-- the instance of a seat is the one that is kept
pub instance_kept : (k : Standings) (seats : List Seat) → KeepsSeats k seats → (n : ℕ) (s : Seat) → slice_get seats n ≡ Some s → slice_get k.instances.items n ≡ Some s.opening.instance
instance_kept k seats kept n s is =
    ap (λ (ms : List ℕ). slice_get ms n) kept.instances ∙ slice_get-map (λ (s : Seat). s.opening.instance) seats n ∙ ap (option_map (λ (s : Seat). s.opening.instance)) is

pub own_kept : (k : Standings) (seats : List Seat) → KeepsSeats k seats → (n : ℕ) (s : Seat) → slice_get seats n ≡ Some s → waits_own k n ≡ waits k s.opening.instance n
own_kept k seats kept n s is = ap (λ (o : Option ℕ). waits_at k o n) (instance_kept k seats kept n s is)

-- a seat that waits was opened
pub waiting_below : (k : Standings) (seats : List Seat) → KeepsSeats k seats → (m n : ℕ) → waits k m n ≡ true → n < length seats
waiting_below k seats kept m n w = let there = kept.waiting m n w in slice_get_within seats n there.seat there.was_opened

pub own_below : (k : Standings) (seats : List Seat) → KeepsSeats k seats → (n : ℕ) → waits_own k n ≡ true → n < length seats
own_below k seats kept n w = by (slice_get k.instances.items n) w
  where
    by : (o : Option ℕ) → waits_at k o n ≡ true → n < length seats
    by (Some m) h = waiting_below k seats kept m n h
    by None h = absurd (cc)

-- at the seat the step is made, and at no other anything
pub one_told : (old new : Standings) (i : InTurn) (seat : ℕ) (cause : code.Cause) (c : Call) → IsShownBy (OfSeat seat cause) c → TellsStandings old i
    → new.instances.items ≡ old.instances.items
    → ((m n : ℕ) → waits new m n ≡ true → waits old m n ≡ true)
    → ((n : ℕ) → seat ≢ n → standing_at new n ≡ standing_at old n)
    → ((m n : ℕ) → seat ≢ n → waits new m n ≡ waits old m n)
    → ((s : Seat) → slice_get i.now.seats seat ≡ Some s → IsStep (Some (cause_view cause)) (Some (cause_view cause)) (standing_at old seat) (waits old s.opening.instance seat) (standing_at new seat) (waits new s.opening.instance seat))
    → (is_some (standing_at new seat) ≡ true → seat < length i.now.seats)
    → TellsStandings new (after_event i (called c))
one_told old new i seat cause c shown told instances fewer other others at below = called_told old new i (OfSeat seat cause) c shown told instances fewer each unopened
  where
    each : (n : ℕ) (s : Seat) → slice_get i.now.seats n ≡ Some s → IsStep (cause_if (seat == n) (cause_view cause)) (cause_if (seat == n) (cause_view cause)) (standing_at old n) (waits old s.opening.instance n) (standing_at new n) (waits new s.opening.instance n)
    each n s is = elim (equal_or_not seat n) [
      | inl same ↦ subst (λ (m : ℕ). IsStep (cause_if (seat == m) (cause_view cause)) (cause_if (seat == m) (cause_view cause)) (standing_at old m) (waits old s.opening.instance m) (standing_at new m) (waits new s.opening.instance m)) same
          (subst (λ (b : Bool). IsStep (cause_if b (cause_view cause)) (cause_if b (cause_view cause)) (standing_at old seat) (waits old s.opening.instance seat) (standing_at new seat) (waits new s.opening.instance seat)) (sym (same_is seat)) (at s (ap (slice_get i.now.seats) same ∙ is)))
      | inr apart ↦ subst (λ (b : Bool). IsStep (cause_if b (cause_view cause)) (cause_if b (cause_view cause)) (standing_at old n) (waits old s.opening.instance n) (standing_at new n) (waits new s.opening.instance n)) (sym apart.0)
          (subst (λ (e : Option Standing). IsStep None None (standing_at old n) (waits old s.opening.instance n) e (waits new s.opening.instance n)) (sym (other n apart.1))
          (subst (λ (w : Bool). IsStep None None (standing_at old n) (waits old s.opening.instance n) (standing_at old n) w) (sym (others s.opening.instance n apart.1)) (step_none (standing_at old n) (waits old s.opening.instance n))))
    ]

    unopened : (n : ℕ) → is_some (standing_at new n) ≡ true → n < length i.now.seats
    unopened n h = elim (equal_or_not seat n) [
      | inl same ↦ subst (λ (m : ℕ). m < length i.now.seats) same (below (ap (λ (m : ℕ). is_some (standing_at new m)) same ∙ h))
      | inr apart ↦ told.unopened n (ap is_some (sym (other n apart.1)) ∙ h)
    ]

-- ---- what show does

-- the seat has a standing in which no call showed a cause
pub marked_told : (old new : Standings) (i : InTurn) (seat : ℕ) (cause : code.Cause) (c : Call) (st : Standing) → IsShownBy (OfSeat seat cause) c → TellsStandings old i
    → standing_at old seat ≡ Some st → st.shown ≡ None → IsPut old new seat (record { shown = Some cause; left = st.left }) → TellsStandings new (after_event i (called c))
marked_told old new i seat cause c st shown told was none put =
    one_told old new i seat cause c shown told (ap (λ (v : Vec ℕ Global). v.items) put.instances)
    (λ m n w. ap (λ (ws : BTreeSet (ℕ × ℕ)). contains pair_cmp ws (m, n)) (sym put.waiting) ∙ w) put.other (λ m n apart. ap (λ (ws : BTreeSet (ℕ × ℕ)). contains pair_cmp ws (m, n)) put.waiting)
    (λ s is. subst (λ (e : Option Standing). IsStep (Some (cause_view cause)) (Some (cause_view cause)) e (waits old s.opening.instance seat) (standing_at new seat) (waits new s.opening.instance seat)) (sym was)
    (ap (λ (ws : BTreeSet (ℕ × ℕ)). contains pair_cmp ws (s.opening.instance, seat)) put.waiting, (record { shown = Some cause; left = st.left }, (put.at, refl, sym (ap (λ (o : Option code.Cause). either (option_map cause_view o) (Some (cause_view cause))) none)))))
    (λ h. told.unopened seat (ap is_some was))

-- a call showed a cause before
pub stays_told : (k : Standings) (i : InTurn) (seat : ℕ) (cause first : code.Cause) (c : Call) (st : Standing) → IsShownBy (OfSeat seat cause) c → TellsStandings k i
    → standing_at k seat ≡ Some st → st.shown ≡ Some first → TellsStandings k (after_event i (called c))
stays_told k i seat cause first c st shown told was some =
    one_told k k i seat cause c shown told refl (λ m n w. w) (λ n apart. refl) (λ m n apart. refl)
    (λ s is. subst (λ (e : Option Standing). IsStep (Some (cause_view cause)) (Some (cause_view cause)) e (waits k s.opening.instance seat) (standing_at k seat) (waits k s.opening.instance seat)) (sym was)
    (refl, (st, (was, refl, ap (option_map cause_view) some ∙ sym (ap (λ (o : Option code.Cause). either (option_map cause_view o) (Some (cause_view cause))) some)))))
    (told.unopened seat)

-- it waits
pub woken_told : (old mid new : Standings) (i : InTurn) (seat : ℕ) (cause : code.Cause) (c : Call) → IsShownBy (OfSeat seat cause) c → TellsStandings old i
    → standing_at old seat ≡ None → IsStopped old mid seat true → IsPut mid new seat (record { shown = Some cause; left = None }) → TellsStandings new (after_event i (called c))
woken_told old mid new i seat cause c shown told was stopped put =
    one_told old new i seat cause c shown told (ap (λ (v : Vec ℕ Global). v.items) (put.instances ∙ stopped.instances))
    (λ m n w. stopped.fewer m n (ap (λ (ws : BTreeSet (ℕ × ℕ)). contains pair_cmp ws (m, n)) (sym put.waiting) ∙ w))
    (λ n apart. put.other n apart ∙ ap (λ (ss : BTreeMap ℕ Standing). get nat_cmp ss n) stopped.standings)
    (λ m n apart. ap (λ (ws : BTreeSet (ℕ × ℕ)). contains pair_cmp ws (m, n)) put.waiting ∙ stopped.other m n apart)
    (λ s is.
    let waited : waits old s.opening.instance seat ≡ true = sym (own_kept old i.now.seats told.seats seat s is) ∙ sym stopped.is in
    let stops : waits new s.opening.instance seat ≡ false = ap (λ (ws : BTreeSet (ℕ × ℕ)). contains pair_cmp ws (s.opening.instance, seat)) put.waiting ∙ stopped.stopped s.opening.instance (instance_kept old i.now.seats told.seats seat s is) in
    subst (λ (e : Option Standing). IsStep (Some (cause_view cause)) (Some (cause_view cause)) e (waits old s.opening.instance seat) (standing_at new seat) (waits new s.opening.instance seat)) (sym was)
    (subst (λ (w : Bool). IsStep (Some (cause_view cause)) (Some (cause_view cause)) None w (standing_at new seat) (waits new s.opening.instance seat)) (sym waited)
    (record { shown = Some cause; left = None }, (put.at, stops, refl, refl))))
    (λ h. own_below old i.now.seats told.seats seat (sym stopped.is))

-- it exited in a turn before, or was never opened
pub gone_told : (old new : Standings) (i : InTurn) (seat : ℕ) (cause : code.Cause) (c : Call) → IsShownBy (OfSeat seat cause) c → TellsStandings old i
    → standing_at old seat ≡ None → IsStopped old new seat false → TellsStandings new (after_event i (called c))
gone_told old new i seat cause c shown told was stopped =
    let none : standing_at new seat ≡ None = ap (λ (ss : BTreeMap ℕ Standing). get nat_cmp ss seat) stopped.standings ∙ was in
    one_told old new i seat cause c shown told (ap (λ (v : Vec ℕ Global). v.items) stopped.instances)
    stopped.fewer
    (λ n apart. ap (λ (ss : BTreeMap ℕ Standing). get nat_cmp ss n) stopped.standings)
    stopped.other
    (λ s is.
    let stays : waits old s.opening.instance seat ≡ false = sym (own_kept old i.now.seats told.seats seat s is) ∙ sym stopped.is in
    let still : waits new s.opening.instance seat ≡ false = stopped.stopped s.opening.instance (instance_kept old i.now.seats told.seats seat s is) in
    subst (λ (e : Option Standing). IsStep (Some (cause_view cause)) (Some (cause_view cause)) e (waits old s.opening.instance seat) (standing_at new seat) (waits new s.opening.instance seat)) (sym was)
    (subst (λ (w : Bool). IsStep (Some (cause_view cause)) (Some (cause_view cause)) None w (standing_at new seat) (waits new s.opening.instance seat)) (sym stays)
    (none, still)))
    (λ h. absurd (let no : is_some (standing_at new seat) ≡ false = ap is_some none in cc))

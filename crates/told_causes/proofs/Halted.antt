-- A call that halts an instance: each of its seats that waits stops to wait, one after another.
use Rattle.std.proofs.Common.{◌≡◌, ◌≢◌, ℕ, ◌==◌, ◌<◌, inl, inr, Bool, true, false, length, Option, Some, None, is_some, Vec, refl, sym, ap, subst, ◌∙◌}
use Rattle.std.specs.BTreeMap.{BTreeMap, get}
use Rattle.std.specs.BTreeSet.{BTreeSet, contains}
use Rattle.std.specs.List.{slice_get}
use Rattle.std.specs.Ordering.{nat_cmp}
use Rattle.std.specs.declared.alloc.Global.{Global}
use Rattle.row_records.specs.fair_rows.ExitCauses.{cause_if}
use Rattle.row_records.specs.fair_rows.Rows.{InTurn, after_event}
use Rattle.row_records.specs.fair_rows.Seats.{Seat}
use Rattle.row_records.specs.turn_records.Views.{cause_view}
use Rattle.row_records.specs.turn_records.declared.events.Cause as code
use Rattle.row_records.specs.turn_rows.Causes.{Cause}
use Rattle.row_records.specs.turn_rows.Turns.{Call, called}
use Rattle.told_causes.specs.ToldCauses.{IsShownBy, TellsStandings, pair_cmp, StandsAs, standing_at, waits}
use Rattle.told_causes.specs.StandingSteps.{HaltedAt, IsHalting, IsPut, IsUnlisted}
use Rattle.told_causes.specs.declared.standings.Shows.TheVariants.{OfInstance}
use Rattle.told_causes.specs.declared.standings.Standing.{Standing}
use Rattle.told_causes.specs.declared.standings.Standings.{Standings}
use Rattle.told_causes.proofs.Called.{IsStep, called_told, step_none}
use Rattle.told_causes.proofs.Ones.{equal_or_not, same_is, waiting_below}

pub halting_starts : (k : Standings) (m : ℕ) (st : Standing) → IsHalting k k m st
halting_starts k m st = record { instances = refl; other = λ o n apart. refl; own = λ n. inl (refl, refl) }

-- one more seat of it, which waits
pub halting_more : (first old mid new : Standings) (m seat : ℕ) (st : Standing) → IsHalting first old m st → waits old m seat ≡ true → IsUnlisted old mid m seat → IsPut mid new seat st → IsHalting first new m st
halting_more first old mid new m seat st h there off put = record {
  instances = put.instances ∙ off.instances ∙ h.instances;
  other = λ o n apart. ap (λ (ws : BTreeSet (ℕ × ℕ)). contains pair_cmp ws (o, n)) put.waiting ∙ off.others o n apart ∙ h.other o n apart;
  own = own;
}
  where
    was : HaltedAt (waits first m seat) (standing_at first seat) (waits old m seat) (standing_at old seat) st → waits first m seat ≡ true
    was (inl same) = sym same.0 ∙ there
    was (inr done) = absurd (let no = done.1 in cc)

    own : (n : ℕ) → HaltedAt (waits first m n) (standing_at first n) (waits new m n) (standing_at new n) st
    own n = elim (equal_or_not seat n) [
      | inl same ↦ subst (λ (k : ℕ). HaltedAt (waits first m k) (standing_at first k) (waits new m k) (standing_at new k) st) same
          (inr (was (h.own seat), ap (λ (ws : BTreeSet (ℕ × ℕ)). contains pair_cmp ws (m, seat)) put.waiting ∙ off.at, put.at))
      | inr apart ↦
          subst (λ (e : Option Standing). HaltedAt (waits first m n) (standing_at first n) (waits new m n) e st) (sym (put.other n apart.1 ∙ ap (λ (ss : BTreeMap ℕ Standing). get nat_cmp ss n) off.standings))
          (subst (λ (w : Bool). HaltedAt (waits first m n) (standing_at first n) w (standing_at old n) st) (sym (ap (λ (ws : BTreeSet (ℕ × ℕ)). contains pair_cmp ws (m, n)) put.waiting ∙ off.same n apart.1)) (h.own n))
    ]

-- no seat both waits and has a standing
abbrev pub StandsSome : Option Standing → Bool → Type 0
StandsSome (Some st) true = ⊥
StandsSome _ _ = Unit {0}

some_stands : (i : InTurn) (n : ℕ) (s : Seat) (e : Option Standing) (w : Bool) → StandsAs i n s e w → StandsSome e w
some_stands i n s (Some st) true h = h
some_stands i n s (Some st) false h = tt
some_stands i n s None true h = tt
some_stands i n s None false h = tt

marked_same : (st : Standing) → IsStep None None (Some st) false (Some st) false
marked_same st = step_none (Some st) false

-- where no more waits, all are halted
pub halted_told : (old new : Standings) (i : InTurn) (m : ℕ) (cause : code.Cause) (c : Call) → IsShownBy (OfInstance m cause) c → TellsStandings old i
    → IsHalting old new m (record { shown = Some cause; left = None }) → ((n : ℕ) → waits new m n ≡ false) → TellsStandings new (after_event i (called c))
halted_told old new i m cause c shown told h none = called_told old new i (OfInstance m cause) c shown told (ap (λ (v : Vec ℕ Global). v.items) h.instances) fewer each unopened
  where
    fewer : (o n : ℕ) → waits new o n ≡ true → waits old o n ≡ true
    fewer o n w = elim (equal_or_not m o) [
      | inl same ↦ absurd (let no : waits new o n ≡ false = ap (λ (k : ℕ). waits new k n) (sym same) ∙ none n in cc)
      | inr apart ↦ sym (h.other o n apart.1) ∙ w
    ]

    step_own : (vc : Cause) (e : Option Standing) (w : Bool) (v : Bool) → StandsSome e w → (f : Option Standing) → HaltedAt w e v f (record { shown = Some cause; left = None }) → v ≡ false → cause_view cause ≡ vc → IsStep None (Some vc) e w f v
    step_own vc (Some st) true v k f d stop is = absurd k
    step_own vc None true v k f (inl same) stop is = absurd (let no = same.0 in cc)
    step_own vc None true v k f (inr done) stop is = (record { shown = Some cause; left = None }, (done.2, stop, ap Some is, refl))
    step_own vc None false v k f (inl same) stop is = (same.1, stop)
    step_own vc None false v k f (inr done) stop is = absurd (let no = done.0 in cc)
    step_own vc (Some st) false v k f (inl same) stop is = subst (λ (g : Option Standing). IsStep None (Some vc) (Some st) false g v) (sym same.1) (subst (λ (b : Bool). IsStep None (Some vc) (Some st) false (Some st) b) (sym stop) (marked_same st))
    step_own vc (Some st) false v k f (inr done) stop is = absurd (let no = done.0 in cc)

    elsewhere : (n : ℕ) (s : Seat) → slice_get i.now.seats n ≡ Some s → m ≢ s.opening.instance → HaltedAt (waits old m n) (standing_at old n) (waits new m n) (standing_at new n) (record { shown = Some cause; left = None }) → standing_at new n ≡ standing_at old n
    elsewhere n s is apart (inl same) = same.1
    elsewhere n s is apart (inr done) =
        let there = told.seats.waiting m n done.0 in
        let one : there.seat ≡ s = (let e : Some there.seat ≡ Some s = sym there.was_opened ∙ is in cc) in
        absurd (apart (sym there.of_instance ∙ ap (λ (t : Seat). t.opening.instance) one))

    each : (n : ℕ) (s : Seat) → slice_get i.now.seats n ≡ Some s → IsStep None (cause_if (m == s.opening.instance) (cause_view cause)) (standing_at old n) (waits old s.opening.instance n) (standing_at new n) (waits new s.opening.instance n)
    each n s is = elim (equal_or_not m s.opening.instance) [
      | inl same ↦ subst (λ (o : ℕ). IsStep None (cause_if (m == o) (cause_view cause)) (standing_at old n) (waits old o n) (standing_at new n) (waits new o n)) same
          (subst (λ (b : Bool). IsStep None (cause_if b (cause_view cause)) (standing_at old n) (waits old m n) (standing_at new n) (waits new m n)) (sym (same_is m))
          (step_own (cause_view cause) (standing_at old n) (waits old m n) (waits new m n) (some_stands i n s (standing_at old n) (waits old m n) (subst (λ (o : ℕ). StandsAs i n s (standing_at old n) (waits old o n)) (sym same) (told.stands n s is))) (standing_at new n) (h.own n) (none n) refl))
      | inr apart ↦ subst (λ (b : Bool). IsStep None (cause_if b (cause_view cause)) (standing_at old n) (waits old s.opening.instance n) (standing_at new n) (waits new s.opening.instance n)) (sym apart.0)
          (subst (λ (w : Bool). IsStep None None (standing_at old n) (waits old s.opening.instance n) (standing_at new n) w) (sym (h.other s.opening.instance n apart.1))
          (subst (λ (e : Option Standing). IsStep None None (standing_at old n) (waits old s.opening.instance n) e (waits old s.opening.instance n)) (sym (elsewhere n s is apart.1 (h.own n))) (step_none (standing_at old n) (waits old s.opening.instance n))))
    ]

    unopened : (n : ℕ) → is_some (standing_at new n) ≡ true → n < length i.now.seats
    unopened n some = elim (h.own n) [
      | inl same ↦ told.unopened n (ap is_some (sym same.1) ∙ some)
      | inr done ↦ waiting_below old i.now.seats told.seats m n done.0
    ]

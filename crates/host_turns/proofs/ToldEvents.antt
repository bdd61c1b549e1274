-- Events that were told, one after another, and how they are told back.
use Rattle.std.specs.Prelude.{IsSome}
use Rattle.std.proofs.Common.{◌≡◌, ℕ, zero, suc, ◌+◌, ◌<◌, ◌≤◌, List, [], ◌∷◌, ◌++◌, Option, Some, None, drop, get_or, length, take, refl, sym, ◌∙◌, ap, subst, arith}
use Rattle.front_turns.proofs.lemmas.ListEdits.{length_push, take_all_but}
use Rattle.front_turns.specs.escrow.Sums as sums
use Rattle.front_turns.specs.escrow.Sums.{AreSums}
use Rattle.front_turns.specs.escrow.Told.{AreCounted, EscrowState, HasRows, HasShareRow, IsSame, IsSeated, IsTold, KeepsRows, instance_at, row_of, share_of, share_row_of, totals_of}
use Rattle.front_turns.specs.escrow.declared.totals.Totals.{Totals}
use Rattle.front_turns.specs.rights_model.Table.{Table}
use Rattle.front_turns.specs.rights_model.declared.Holder.{Holder}
use Rattle.front_turns.specs.rights_model.declared.Movement.{Movement}
use Rattle.front_turns.specs.turn_records.Events.{Event, Opening, moved, opened}
use Rattle.front_turns.specs.turn_records.Views.{event_view, event_views}
use Rattle.front_turns.specs.turn_records.declared.events.Event.{Event as Told}
use Rattle.host_turns.specs.Totals.{AreSteps, CanTell, CanTellAll, IsMoveTold, IsOpeningTold, IsRoomed, IsStep, WasTold, WereTold}

-- ---- room

pub same_on : (e f g : EscrowState) → IsSame e f → IsSame f g → IsSame e g
same_on e f g x y = record {
  totals = λ b. y.totals b ∙ x.totals b;
  shares = λ i b. y.shares i b ∙ x.shares i b;
  instances = y.instances ∙ x.instances;
}

rows_on : (e f g : EscrowState) → KeepsRows e f → KeepsRows f g → KeepsRows e g
rows_on e f g x y = record { totals = λ b is. y.totals b (x.totals b is); shares = λ i b is. y.shares i b (x.shares i b is) }

pub roomed_on : (e f g : EscrowState) → IsRoomed e f → IsRoomed f g → IsRoomed e g
roomed_on e f g x y = record { same = same_on e f g x.same y.same; rows = rows_on e f g x.rows y.rows }

pub roomed_by : (e f : EscrowState) → f ≡ e → IsRoomed e f
roomed_by e f is = subst (λ (x : EscrowState). IsRoomed e x) (sym is) (record {
  same = record { totals = λ b. refl; shares = λ i b. refl; instances = refl };
  rows = record { totals = λ b is. is; shares = λ i b is. is };
})

-- ---- one event

has_share : (e f : EscrowState) (b : ℕ) → KeepsRows e f → (o : Option ℕ) → HasShareRow e.shares b o → HasShareRow f.shares b o
has_share e f b kept None is = tt
has_share e f b kept (Some i) is = kept.shares i b is

-- what has rows has them where none is lost
pub has_rows : (e f : EscrowState) (m : Movement) → IsRoomed e f → HasRows e m → HasRows f m
has_rows e f m roomed has =
    let same : (h : Holder) → HasShareRow f.shares m.brand (instance_at e.instances h) → HasShareRow f.shares m.brand (instance_at f.instances h) = λ h is. subst (λ (l : List ℕ). HasShareRow f.shares m.brand (instance_at l h)) (sym roomed.same.instances) is in
    record {
      brand = roomed.rows.totals m.brand has.brand;
      from = same m.from (has_share e f m.brand roomed.rows (instance_at e.instances m.from) has.from);
      to = same m.to (has_share e f m.brand roomed.rows (instance_at e.instances m.to) has.to);
    }

-- what was told is told of what is read the same
pub told_on : (e f g : EscrowState) (m : Movement) → IsTold e f m → IsSame f g → IsTold e g m
told_on e f g m is same = record {
  totals = λ b. subst (λ (x : Totals). AreCounted (totals_of e b) x m b) (sym (same.totals b)) (is.totals b);
  shares = λ i b. omega (arith, same.shares i b, is.shares i b);
  instances = same.instances ∙ is.instances;
}

-- a movement that was told can be told back
pub was_moved : (before old : EscrowState) (m : Movement) → WasTold before old (moved m) → sums.WasTold old m
was_moved before old m was = record {
  before = before;
  table = was.step.can.before;
  sums = was.step.can.sums;
  defined = was.step.can.defined;
  minted = omega (arith, was.step.can.minted);
  told = told_on before was.mid old m was.step.told was.roomed.same;
}

pub was_made : (before old : EscrowState) (m : Movement) → WasTold before old (moved m) → HasRows old m
was_made before old m was = has_rows was.mid old m was.roomed was.step.made

pub untold_moved : (before old new : EscrowState) (m : Movement) → WasTold before old (moved m)
    → ((b : EscrowState) → IsTold b old m → IsSame b new) → KeepsRows old new → IsRoomed before new
untold_moved before old new m was undone kept = record {
  same = undone before (told_on before was.mid old m was.step.told was.roomed.same);
  rows = rows_on before old new (rows_on before was.mid old was.step.rows was.roomed.rows) kept;
}

pushed_same : {X : Type 0} (xs ys : List X) (x y : X) → xs ++ x ∷ [] ≡ ys ++ y ∷ [] → xs ≡ ys
pushed_same xs ys x y is = sym (take_all_but xs x (length xs) refl) ∙ ap (λ l. take (length xs) l) is ∙ take_all_but ys y (length xs) (omega (arith, ap (λ l. length l) is, length_push xs x, length_push ys y))

-- of two that have the same rows each has room as the other
pub seated_rows : (e f : EscrowState) (i : ℕ) → IsSeated e f i → KeepsRows e f × KeepsRows f e
seated_rows e f i is = (
  record { totals = λ b has. subst (λ l. IsSome (row_of (record e { totals = l }) b)) (sym is.totals) has; shares = λ j b has. subst (λ l. IsSome (share_row_of (record e { shares = l }) j b)) (sym is.shares) has },
  record { totals = λ b has. subst (λ l. IsSome (row_of (record e { totals = l }) b)) is.totals has; shares = λ j b has. subst (λ l. IsSome (share_row_of (record e { shares = l }) j b)) is.shares has },
)

pub opening_told : (e f : EscrowState) (i : ℕ) → IsSeated e f i → ((t : Table) → AreSums t e → AreSums t f) → IsOpeningTold e f i
opening_told e f i is sums = record {
  totals = λ b. ap (λ l. totals_of (record e { totals = l }) b) is.totals;
  shares = λ j b. ap (λ l. share_of (record e { shares = l }) j b) is.shares;
  instances = is.instances;
  sums = sums;
  rows = (seated_rows e f i is).0;
}

pub was_opened : (before old : EscrowState) (o : Opening) → WasTold before old (opened o) → 0 < length old.instances
was_opened before old o was = omega (arith, ap (λ l. length l) was.roomed.same.instances, ap (λ l. length l) was.step.instances, length_push before.instances o.instance)

pub untold_opened : (before old new : EscrowState) (o : Opening) (x : ℕ) → WasTold before old (opened o) → IsSeated new old x → IsRoomed before new
untold_opened before old new o x was is = record {
  same = record {
    totals = λ b. sym (ap (λ l. totals_of (record new { totals = l }) b) is.totals) ∙ was.roomed.same.totals b ∙ was.step.totals b;
    shares = λ j b. sym (ap (λ l. share_of (record new { shares = l }) j b) is.shares) ∙ was.roomed.same.shares j b ∙ was.step.shares j b;
    instances = pushed_same new.instances before.instances x o.instance (sym is.instances ∙ was.roomed.same.instances ∙ was.step.instances);
  };
  rows = rows_on before old new (rows_on before was.mid old was.step.rows was.roomed.rows) (seated_rows new old x is).1;
}

-- an event of which nothing is told
pub untold_none : (before old mid : EscrowState) → mid ≡ before → IsRoomed mid old → IsRoomed before old
untold_none before old mid is roomed = roomed_on before mid old (roomed_by before mid is) roomed

-- ---- one after another

pub steps_more : (vs : List Event) (v : Event) (e mid f : EscrowState) → AreSteps e mid vs → IsStep mid f v → AreSteps e f (vs ++ v ∷ [])
steps_more [] v e mid f is step = (f, subst (λ (x : EscrowState). IsStep x f v) is step, refl)
steps_more (u ∷ us) v e mid f steps step = (steps.0, steps.1, steps_more us v steps.0 mid f steps.2 step)

pub steps_last : (vs : List Event) (v : Event) (e f : EscrowState) → AreSteps e f (vs ++ v ∷ []) → (mid : EscrowState) × AreSteps e mid vs × IsStep mid f v
steps_last [] v e f steps = (e, refl, subst (λ (x : EscrowState). IsStep e x v) (sym steps.2) steps.1)
steps_last (u ∷ us) v e f steps = let last = steps_last us v steps.0 f steps.2 in (last.0, (steps.0, steps.1, last.1), last.2)

-- the last event of those that were told, and those before it
pub last_told : (vs : List Event) (v : Event) (before now : EscrowState) → WereTold before now (vs ++ v ∷ []) → (mid : EscrowState) × AreSteps before mid vs × WasTold mid now v
last_told vs v before now were =
    let last = steps_last vs v before were.mid were.steps in
    (last.0, last.1, record { mid = were.mid; step = last.2; roomed = were.roomed })

-- ---- events by their places

take_view : (es : List Told) (n : ℕ) (d : Told) → n < length es → take (suc n) (event_views es) ≡ take n (event_views es) ++ event_view (get_or es n d) ∷ []
take_view [] n d lt = absurd (omega (arith, lt))
take_view (x ∷ xs) zero d lt = refl
take_view (x ∷ xs) (suc n) d lt = ap (λ vs. event_view x ∷ vs) (take_view xs n d (omega (arith, lt)))

drop_view : (es : List Told) (n : ℕ) (d : Told) → n < length es → drop n (event_views es) ≡ event_view (get_or es n d) ∷ drop (suc n) (event_views es)
drop_view [] n d lt = absurd (omega (arith, lt))
drop_view (x ∷ xs) zero d lt = refl
drop_view (x ∷ xs) (suc n) d lt = drop_view xs n d (omega (arith, lt))

views_taken : (es : List Told) (n : ℕ) → take n (event_views es) ≡ event_views (take n es)
views_taken es zero = refl
views_taken [] (suc n) = refl
views_taken (x ∷ xs) (suc n) = ap (λ vs. event_view x ∷ vs) (views_taken xs n)

module _ (es : List Told) (n : ℕ) (e : Told) (lt : n < length es) (read : e ≡ get_or es n e) where
  abbrev last_is : take (suc n) (event_views es) ≡ take n (event_views es) ++ event_view e ∷ []
  last_is = take_view es n e lt ∙ ap (λ v. take n (event_views es) ++ event_view v ∷ []) (sym read)

  -- what is told back is the last event of those that were told
  pub told_back : (m : ℕ) → m ≡ suc n → (before now : EscrowState) → WereTold before now (take m (event_views es)) → (mid : EscrowState) × AreSteps before mid (take n (event_views es)) × WasTold mid now (event_view e)
  told_back m is before now were = last_told (take n (event_views es)) (event_view e) before now (subst (λ (vs : List Event). WereTold before now vs) (ap (λ k. take k (event_views es)) is ∙ last_is) were)

  -- the next event can be told, and then those after it
  pub next_can : (now : EscrowState) → CanTellAll now (drop n (event_views es)) → CanTell now (event_view e) × ((mid : EscrowState) → IsStep now mid (event_view e) → CanTellAll mid (drop (suc n) (event_views es)))
  next_can now can = subst (λ (vs : List Event). CanTellAll now vs) (drop_view es n e lt ∙ ap (λ v. event_view v ∷ drop (suc n) (event_views es)) (sym read)) can

  pub one_more : (m : ℕ) → suc n ≡ m → (first now new : EscrowState) → AreSteps first now (take n (event_views es)) → CanTellAll now (drop n (event_views es)) → IsStep now new (event_view e) → AreSteps first new (take m (event_views es)) × CanTellAll new (drop m (event_views es))
  one_more m is first now new steps can step = (
    subst (λ (vs : List Event). AreSteps first new vs) (sym last_is ∙ ap (λ k. take k (event_views es)) is) (steps_more (take n (event_views es)) (event_view e) first now new steps step),
    subst (λ (k : ℕ). CanTellAll new (drop k (event_views es))) is ((next_can now can).1 new step),
  )

-- those that were told, where room was made since
pub were_told : (es : List Told) (n : ℕ) (first now new : EscrowState) → AreSteps first now (take n (event_views es)) → IsRoomed now new → WereTold first new (event_views (take n es))
were_told es n first now new steps roomed = record { mid = now; steps = subst (λ (vs : List Event). AreSteps first now vs) (views_taken es n) steps; roomed = roomed }

-- where none was told, what is read is the same
pub none_told : (es : List Told) (n : ℕ) (before now : EscrowState) → n ≡ 0 → WereTold before now (take n (event_views es)) → IsSame before now
none_told es n before now is were =
    let none = subst (λ (k : ℕ). WereTold before now (take k (event_views es))) is were in
    (untold_none before now none.mid none.steps none.roomed).same

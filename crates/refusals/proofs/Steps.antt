-- Facts of what chains of steps give: one lemma a word, which the walk of a row uses.
use Rattle.std.proofs.Common.{◌≡◌, List, [], Bool, true, false, Option, Some, None, Result, Ok, Err, IfOk, if◌then◌else◌, refl}
use Rattle.host_data.specs.Tree.{Tree}
use Rattle.refusals.specs.declared.codes.Refusal.{Refusal}
use Rattle.refusals.specs.Outcomes.{Answers, bind, ◌>>=◌, ◌>>◌, need, none_such, reading, wanted}

-- a fact of what a chain gives, from what each step gives
pub after_step : {A B : Type 0} (P : B → Type 0) (r : Result A Refusal) (f : A → Result B Refusal) → ((x : A) → r ≡ Ok x → IfOk (f x) P) → IfOk (r >>= f) P
unfolding bind
after_step P (Ok x) f h = h x refl
after_step P (Err e) f h = tt

-- behind a test it holds
pub after_need : {B : Type 0} (P : B → Type 0) (b : Bool) (r : Refusal) (next : Result B Refusal) → (b ≡ true → IfOk next P) → IfOk (need b r >> next) P
unfolding bind need
after_need P true r next h = h refl
after_need P false r next h = tt

-- behind what was wanted it is there
pub after_wanted : {A B : Type 0} (P : B → Type 0) (o : Option A) (r : Refusal) (f : A → Result B Refusal) → ((x : A) → o ≡ Some x → IfOk (f x) P) → IfOk (wanted o r >>= f) P
unfolding bind wanted
after_wanted P (Some x) r f h = h x refl
after_wanted P None r f h = tt

-- behind a test that there is none there is none
pub after_none_such : {A B : Type 0} (P : B → Type 0) (o : Option A) (refusal : A → Refusal) (next : Result B Refusal) → (o ≡ None → IfOk next P) → IfOk (none_such o refusal >> next) P
unfolding bind none_such
after_none_such P None refusal next h = h refl
after_none_such P (Some x) refusal next h = tt

-- a test whose outcome isn't used
pub after_check : {B : Type 0} (P : B → Type 0) (r : Result (Unit {0}) Refusal) (next : Result B Refusal) → IfOk next P → IfOk (r >> next) P
unfolding bind
after_check P (Ok x) next h = h
after_check P (Err e) next h = tt

-- one that is
pub after_known : {B : Type 0} (P : B → Type 0) (r : Result (Unit {0}) Refusal) (next : Result B Refusal) → (r ≡ Ok tt → IfOk next P) → IfOk (r >> next) P
unfolding bind
after_known P (Ok x) next h = h refl
after_known P (Err e) next h = tt

-- what a step gave has what each that it gives has
pub ok_has : {A : Type 0} (P : A → Type 0) (r : Result A Refusal) (x : A) → r ≡ Ok x → IfOk r P → P x
ok_has P r x is h = rw is at h

-- a test that was passed holds; what was wanted is there; what is none such isn't
pub need_holds : (b : Bool) (r : Refusal) (x : Unit {0}) → need b r ≡ Ok x → b ≡ true
unfolding need
need_holds true r x e = refl
need_holds false r x e = cc

pub wanted_there : {A : Type 0} (o : Option A) (r : Refusal) (x : A) → wanted o r ≡ Ok x → o ≡ Some x
unfolding wanted
wanted_there None r x e = cc
wanted_there (Some y) r x e = cc

pub none_is : {A : Type 0} (o : Option A) (refusal : A → Refusal) (x : Unit {0}) → none_such o refusal ≡ Ok x → o ≡ None
unfolding none_such
none_is None refusal x e = refl
none_is (Some y) refusal x e = cc

-- ---- rows

-- a row that only reads plans nothing: what holds of its answer is all that is owed
pub reads : {Plan : Type 0} (P : Tree → List Plan → Type 0) (r : Result Tree Refusal) → IfOk r (λ t. P t []) → Answers P (reading r)
unfolding reading bind
reads P (Ok t) h = h
reads P (Err e) h = tt

-- one of two rows, by a test
pub by_test : {A : Type 0} (P : A → Type 0) (b : Bool) (x y : A) → P x → P y → P (if b then x else y)
by_test P true x y h k = h
by_test P false x y h k = k

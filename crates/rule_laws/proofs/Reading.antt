-- Rules that only read, the dispatch by methods, and what a rule leaves as it was.
use Rattle.std.specs.List.{AllByRecursion}
use Rattle.std.specs.Str.{bytes_eq}
use Rattle.std.proofs.Common.{◌≡◌, ℕ, Bool, true, false, List, [], ◌∷◌, Option, Result, Ok, Err, IfOk, if◌then◌else◌, refl, sym, subst, arith}
use Rattle.std.proofs.lemmas.Slice.Eq.{bytes_eq-Decides}
use Rattle.world_laws.specs.host_data.Tree.{Tree}
use Rattle.world_laws.specs.host_data.declared.data.Obj.{Obj}
use Rattle.world_laws.specs.refusals.Outcomes.{bind, reading}
use Rattle.world_laws.specs.refusals.declared.codes.Refusal.{Refusal}
use Rattle.world_laws.specs.turn_records.Deliveries.{Delivery}
use Rattle.world_laws.proofs.Fronts.{front-after_all}
use Rattle.world_laws.proofs.Kept.{good-after_all}
use Rattle.world_laws.specs.world_state.Good.{IsGoodWorld, LeavesAnswer}
use Rattle.world_laws.specs.world_state.Known.{IsFormed}
use Rattle.world_laws.specs.world_state.Worlds.{Effect, State, after_all, in_front, resolve}
use Rattle.rules.specs.Acts.{MayAct}
use Rattle.rules.specs.Obligations.{IsGoodOutcome, IsRule}
use Rattle.rules.specs.Traces.{departures_by, openings_by}

-- a rule that only reads has no effects: it owes an answer that the caller may hold
pub reads : (w : State) (caller : Option ℕ) (o : Obj) (m : List ℕ) (args : List Tree) (r : Result Tree Refusal) → departures_by w o m ≡ [] → openings_by o m ≡ 0 → IfOk r (IsFormed w caller) → IsGoodOutcome w caller o m args (reading r)
unfolding reading bind
reads w caller o m args (Ok t) leaves opens known = record {
  good = tt;
  known = known;
  leaves = sym leaves;
  opens = sym opens;
  acts = tt;
  licensed = tt;
  stored = tt;
  calls = omega arith;
}
reads w caller o m args (Err e) leaves opens known = tt

-- one of two rules, by the name of the method
pub by_method : {A : Type 0} (P : List ℕ → A → Type 0) (m name : List ℕ) (x y : A) → P name x → P m y → P m (if bytes_eq m name then x else y)
by_method P m name x y here there = by (bytes_eq m name) refl
  where
    by : (b : Bool) → bytes_eq m name ≡ b → P m (if b then x else y)
    by true is = subst (λ k. P k x) (sym ((bytes_eq-Decides m name).0 is)) here
    by false is = there

pub kept_rule : (w : State) (caller : Option ℕ) (o : Obj) (m : List ℕ) (args : List Tree) (answer : Tree) (effects : List Effect) → IsRule w caller o m args answer effects → IsGoodWorld w → IsGoodWorld (after_all w effects)
kept_rule w caller o m args answer effects is good = good-after_all w effects is.good good

-- ---- the turn's own delivery

leaves_answer : (w : State) (caller : Option ℕ) (o : Obj) (m : List ℕ) (d : Delivery) (e : Effect) → MayAct w caller o m e → LeavesAnswer d e
leaves_answer w caller o m d (resolve p v) may = absurd may
leaves_answer w caller o m d _ may = tt

all_leave : (w : State) (caller : Option ℕ) (o : Obj) (m : List ℕ) (d : Delivery) (es : List Effect) → AllByRecursion (MayAct w caller o m) es → AllByRecursion (LeavesAnswer d) es
all_leave w caller o m d [] all = tt
all_leave w caller o m d (e ∷ es) all = (leaves_answer w caller o m d e all.0, all_leave w caller o m d es all.1)

pub kept_front : (w : State) (d : Delivery) (caller : Option ℕ) (o : Obj) (m : List ℕ) (args : List Tree) (answer : Tree) (effects : List Effect) → IsRule w caller o m args answer effects → IsGoodWorld (in_front d w) → IsGoodWorld (in_front d (after_all w effects))
kept_front w d caller o m args answer effects is good = front-after_all w d effects is.good (all_leave w caller o m d effects is.acts) good

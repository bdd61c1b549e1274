-- The rules of a shutdown are good.
use Rattle.std.specs.List.{AllByRecursion}
use Rattle.std.proofs.Common.{◌≡◌, ℕ, ◌<◌, ◌≤◌, List, [], ◌∷◌, ◌++◌, length, map, Some, codes, refl, sym, ap, subst, ◌∙◌, arith}
use Rattle.world_laws.specs.host_data.Tree.{Tree}
use Rattle.world_laws.specs.host_data.declared.data.Obj.{Obj}
use Rattle.world_laws.specs.host_data.declared.data.ObjKind.TheVariants as kinds
use Rattle.world_laws.proofs.refusals.Steps.{after_check}
use Rattle.world_laws.specs.turn_rows.Causes.{halted}
use Rattle.world_laws.specs.world_state.Good.{AreGood}
use Rattle.world_laws.specs.world_state.Known.{IsSeatOf}
use Rattle.world_laws.specs.world_state.Rights.{slots_at}
use Rattle.world_laws.specs.world_state.Worlds.{State, after, exit, halt}
use Rattle.rules.specs.Acts.{MayAct}
use Rattle.rules.specs.Licence.{AreLicensed, IsStored}
use Rattle.rules.specs.Obligations.{IsGoodOutcome}
use Rattle.rules.specs.Traces.{all_halted, all_open, calls_in, departure, departures_by, departures_in, movements_in, openings_by, openings_in}
use Rattle.rule_laws.proofs.Forms.{null_formed}
use Rattle.rules.specs.Zcf.{exits_of, shutdown}
use Rattle.rule_laws.specs.GoodContracts.{IsGoodCall, numbered}
use Rattle.rule_laws.proofs.OpenSeats.{AreAllOpen, all_are_open, all_own, others_are_open}
use Rattle.rule_laws.proofs.Read.{of_caller}

-- ---- its effects are good

exits_good : (w : State) (i : ℕ) (ns : List ℕ) → i < length w.tables.instances → AreAllOpen w.seats i ns → AreGood w (exits_of ns ++ halt i ∷ [])
exits_good w i [] made are = (record { made = made; left = λ s is own. are.all s is own }, tt)
exits_good w i (n ∷ ns) made are =
    (are.are_open.0, exits_good (after w (exit n halted)) i ns made (others_are_open w.seats n (slots_at w.rights.slots n) i ns are))

-- ---- what they leave behind

module _ (i : ℕ) where
  left_by : (ns : List ℕ) → departures_in (exits_of ns ++ halt i ∷ []) ≡ map (λ seat. departure seat halted) ns
  left_by [] = refl
  left_by (n ∷ ns) = ap (λ l. departure n halted ∷ l) (left_by ns)

  opened_by : (ns : List ℕ) → openings_in (exits_of ns ++ halt i ∷ []) ≡ 0
  opened_by [] = refl
  opened_by (n ∷ ns) = opened_by ns

  moved_by : (ns : List ℕ) → movements_in (exits_of ns ++ halt i ∷ []) ≡ []
  moved_by [] = refl
  moved_by (n ∷ ns) = moved_by ns

  acts_by : (w : State) (o : Obj) (m : List ℕ) (ns : List ℕ) → AllByRecursion (IsSeatOf w.seats i) ns → AllByRecursion (MayAct w (Some i) o m) (exits_of ns ++ halt i ∷ [])
  acts_by w o m [] own = (refl, tt)
  acts_by w o m (n ∷ ns) own = (own.0, acts_by w o m ns own.1)

  called_by : (ns : List ℕ) → calls_in (exits_of ns ++ halt i ∷ []) ≡ 0
  called_by [] = refl
  called_by (n ∷ ns) = called_by ns

-- ---- the rules

module _ (w : State) (i : ℕ) (args : List Tree) (made : i < length w.tables.instances) where
  ended : (m : List ℕ) → departures_by w (numbered kinds.Zcf i) m ≡ all_halted w i → openings_by (numbered kinds.Zcf i) m ≡ 0 → IsGoodOutcome w (Some i) (numbered kinds.Zcf i) m args (shutdown w i args)
  unfolding shutdown
  ended m leaves opens = after_check _ _ _ (after_check _ _ _ (record {
    good = exits_good w i (all_open w i) made (all_are_open i w.seats);
    known = null_formed _ (Some i);
    leaves = left_by i (all_open w i) ∙ sym leaves;
    opens = opened_by i (all_open w i) ∙ sym opens;
    acts = acts_by i w (numbered kinds.Zcf i) m (all_open w i) (all_own i w.seats);
    licensed = subst (λ ms. AreLicensed w (Some i) (numbered kinds.Zcf i) m args ms) (sym (moved_by i (all_open w i))) tt;
    stored = subst (λ ms. AllByRecursion IsStored ms) (sym (moved_by i (all_open w i))) tt;
    calls = subst (λ k. k ≤ 1) (sym (called_by i (all_open w i))) (omega arith);
  }))

pub shutdown_is : IsGoodCall kinds.Zcf (codes "shutdown") shutdown
shutdown_is w i n args can = of_caller w i n (codes "shutdown") args (λ k. shutdown w k args) can.target (ended w i args can.hosted (codes "shutdown") refl refl)

pub failure_is : IsGoodCall kinds.Zcf (codes "shutdownWithFailure") shutdown
failure_is w i n args can = of_caller w i n (codes "shutdownWithFailure") args (λ k. shutdown w k args) can.target (ended w i args can.hosted (codes "shutdownWithFailure") refl refl)

-- Effects carried out, one list after another, and the delivery in front, which stays there.
use Rattle.std.specs.Prelude.{IfOk, slice_get}
use Rattle.std.specs.List.{AllByRecursion}
use Rattle.std.proofs.Common.{◌≡◌, ℕ, ◌-◌, ◌<◌, List, [], ◌∷◌, ◌++◌, None, Result, Ok, Err, Some, length, refl, sym, ◌∙◌, ap, subst}
use Rattle.contract_powers.specs.call_outcomes.CallOutcomes.{GivesOutcome}
use Rattle.contract_powers.specs.call_outcomes.Lists.{IsEachShaped, effects_view}
use Rattle.contract_powers.specs.call_outcomes.declared.outcomes.CallOutcome.{CallOutcome}
use Rattle.fair_laws.proofs.rule_laws.Forms.{null_formed}
use Rattle.contract_powers.specs.rules.Outcomes.{Outcome}
use Rattle.contract_powers.specs.world_reads.Handed.{AreHanded}
use Rattle.contract_powers.specs.world_effects.CarriedEffects.{AreCarried, IsInTurn}
use Rattle.contract_powers.proofs.world_effects.EffectSequences.{not_moved as stays_undoable}
use Rattle.contract_powers.proofs.world_reads.Installed.{installed_in}
use Rattle.contract_powers.proofs.registers.Front.{front_view}
use Rattle.contract_powers.specs.actors.Tables.{instance_at}
use Rattle.contract_powers.specs.registers.PromiseTables.{waiting_of}
use Rattle.contract_powers.specs.turn_records.Views.{delivery_view}
use Rattle.contract_powers.specs.turn_records.declared.deliveries.Delivery.{Delivery as WaitingDelivery}
use Rattle.fair_laws.proofs.delivery_laws.Ends.{halts_good}
use Rattle.fair_laws.proofs.delivery_laws.Runs.{after_both}
use Rattle.delivery_tasks.specs.delivery_turns.HostCalls.{effects_of}
use Rattle.delivery_tasks.specs.delivery_turns.Tasks.{halt_with}
use Rattle.contract_powers.proofs.world_laws.FrontDeliveries.{effects_pass}
use Rattle.contract_powers.specs.host_world.Worlds.{IsUndoable, vault_state, world_at_start, world_now, world_of}
use Rattle.contract_powers.specs.host_world.declared.World.{World}
use Rattle.delivery_tasks.specs.host_data.Tree.{Tree, null}
use Rattle.contract_powers.specs.registers.RegisterStates.{front_of}
use Rattle.contract_powers.specs.refusals.declared.stops.Stop.{Stop}
use Rattle.contract_powers.specs.turn_rows.Causes as causes
use Rattle.contract_powers.specs.vault.Drafts.{HandGoes, IsClean}
use Rattle.contract_powers.proofs.world_laws.Fronts.{good_behind}
use Rattle.contract_powers.proofs.world_laws.Lists.{all_read_or}
use Rattle.contract_powers.specs.world_state.Good.{AreGood, IsGoodWorld}
use Rattle.contract_powers.specs.world_state.Known.{IsHanded}
use Rattle.contract_powers.specs.world_state.Worlds.{Effect, State, after_all, behind, end_staging, in_front}
use Rattle.front_turns.specs.FrontTurns.{front}
use Rattle.front_turns.proofs.EffectLists.{first_good, fronted}

-- ---- what is cited of the rooms below

pub not_moved : (w : World) → IsInTurn w → IsUndoable w w
not_moved w turn = stays_undoable w turn

pub is_installed : (w : State) (i : ℕ) → IsGoodWorld w → i < length w.tables.instances → (instance_at w.tables.instances i).installation < length w.tables.installations
is_installed w i good made = installed_in w i good made

pub front_is : (ds : List WaitingDelivery) (d : WaitingDelivery) → Some d ≡ slice_get ds 0 → delivery_view d ≡ front_of (waiting_of ds)
front_is ds d is = front_view ds d is

-- ---- what was carried out

pub carried_nothing : (w : World) → IsInTurn w → AreCarried w w []
carried_nothing w turn = record { now = refl; world = refl; turn = turn }

pub carried_on : (old mid new : World) (es fs : List Effect) → AreCarried old mid es → AreCarried mid new fs → AreCarried old new (es ++ fs)
carried_on old mid new es fs one two = record {
  now = two.now ∙ (ap (λ (v : State). after_all v fs) one.now ∙ sym (after_both (world_now old) es fs));
  world = two.world ∙ (ap (λ (v : State). after_all v fs) one.world ∙ sym (after_both (world_of old) es fs));
  turn = two.turn;
}

-- from another turn in which as much was done
pub carried_from : (old mid new : World) (es : List Effect) → world_now mid ≡ world_now old → AreCarried mid new es → AreCarried old new es
carried_from old mid new es same is = record {
  now = is.now ∙ ap (λ (v : State). after_all v es) same;
  world = is.world ∙ ap (λ (v : State). after_all (behind v) es) same;
  turn = is.turn;
}

pub carried_by : (old new : World) (es fs : List Effect) → es ≡ fs → AreCarried old new es → AreCarried old new fs
carried_by old new es fs same is = subst (λ (l : List Effect). AreCarried old new l) same is

-- ---- a turn begins

pub behind_good : (w : State) → 0 < length w.waiting → IsGoodWorld w → IsGoodWorld (behind w)
behind_good w lt good = good_behind (behind w) (front_of w.waiting) (subst IsGoodWorld (fronted w lt) good)

pub turn_begins : (w : World) (start : State) → world_now w ≡ start → IsClean w.draft → HandGoes w.draft → IsGoodWorld start → 0 < length start.waiting → IsInTurn w
turn_begins w start same clean goes good waits = record {
  clean = clean;
  goes = goes;
  good = subst (λ (v : State). IsGoodWorld (behind v)) (sym same) (behind_good start waits good);
  waits = subst (λ (v : State). 0 < length v.waiting) (sym same) waits;
}

-- ---- the delivery in front stays

passes : (w : State) (es : List Effect) → 0 < length w.waiting → after_all w es ≡ in_front (front_of w.waiting) (after_all (behind w) es)
passes w es lt = ap (λ (v : State). after_all v es) (fronted w lt) ∙ effects_pass (front_of w.waiting) (behind w) es

pub front_stays : (old new : World) (es : List Effect) → IsInTurn old → AreCarried old new es → front new ≡ front old
front_stays old new es turn is = ap (λ (v : State). front_of v.waiting) (is.now ∙ passes (world_now old) es turn.waits)

-- ---- undoing

pub start_stays : (old new : World) → IsUndoable old new → world_at_start new ≡ world_at_start old
start_stays old new is = λ i. vault_state (is.rights.kept i) (is.registers i)

-- ---- rows

pub arguments_handed : (w : State) (args : List Tree) → AllByRecursion (IsHanded w) args → AreHanded w args
arguments_handed w args all = record { each = λ place. all_read_or (IsHanded w) args (place - 1) null all (null_formed w None) }

pub plan_shaped : (outcome : Outcome) (row : Result CallOutcome Stop) → GivesOutcome outcome row → IfOk row (λ p. IsEachShaped p.effects)
plan_shaped outcome (Ok p) is = is.1
plan_shaped outcome (Err stop) is = tt

pub plan_good : (w : State) (outcome : Outcome) (row : Result CallOutcome Stop) → GivesOutcome outcome row → AreGood w (effects_of outcome) → IfOk row (λ p. AreGood w (effects_view p.effects))
plan_good w outcome (Ok p) is good = subst (λ (o : Outcome). AreGood w (effects_of o)) is.0 good
plan_good w outcome (Err stop) is good = tt

-- ---- instances that halt

pub halting_good : (w : State) (i : ℕ) → i < length w.tables.instances → AreGood w (halt_with causes.spent w i)
halting_good w i made = first_good w (halt_with causes.spent w i) (end_staging ∷ []) (halts_good w i causes.spent made)

pub halted_from : (old mid new : World) (i : ℕ) → world_now mid ≡ world_now old → AreCarried mid new (halt_with causes.spent (world_of mid) i) → AreCarried old new (halt_with causes.spent (world_of old) i)
halted_from old mid new i same is =
    carried_from old mid new (halt_with causes.spent (world_of old) i) same
    (carried_by mid new (halt_with causes.spent (world_of mid) i) (halt_with causes.spent (world_of old) i) (ap (λ (v : State). halt_with causes.spent (behind v) i) same) is)

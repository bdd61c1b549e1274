-- What a run comes to whose play was carried out to its end.
use Rattle.std.specs.Prelude.{IfOk}
use Rattle.std.specs.declared.alloc.AllocError.{AllocError}
use Rattle.std.proofs.Common.{Result, Ok, Err, ◌≡◌, ℕ, ◌*◌, ◌^◌, ◌<◌, List, [], ◌∷◌, length, refl, sym, ap, ◌∙◌, subst, arith}
use Rattle.std.proofs.Math.Logic.{∥∥₁_elim}
use Rattle.std.proofs.lemmas.List.{append-nil}
use Rattle.contract_powers.proofs.ReadyRuns.{back_prop}
use Rattle.contract_powers.specs.TurnStarts.{GoesBackTo, Start, start_of}
use Rattle.fair_laws.proofs.rule_laws.Methods.{calls_are}
use Rattle.fair_laws.proofs.delivery_laws.Asking.{all_have, evaluates, have_all}
use Rattle.fair_laws.proofs.delivery_laws.Runs.{all_grow, grows_itself, run_is}
use Rattle.fair_laws.specs.delivery_laws.Works.{Evaluates, IsEnded, IsRun}
use Rattle.delivery_tasks.specs.delivery_turns.Functions.{FunctionCall, Run, ended, function_run, module_play, run}
use Rattle.delivery_tasks.specs.delivery_turns.Tasks.{run_work}
use Rattle.front_turns.proofs.Plays.{carried_both}
use Rattle.front_turns.specs.FunctionRuns.{CameTo, CanEnd, HasEnded, WentOn}
use Rattle.front_turns.specs.FrontTurns.{IsDone}
use Rattle.front_turns.specs.declared.function_runs.Ran.{Ran}
use Rattle.front_turns.specs.declared.function_runs.Ran.TheVariants.{Ended, Spent}
use Rattle.contract_powers.specs.host_world.Worlds.{IsUndoable, world_of}
use Rattle.contract_powers.specs.host_world.declared.World.{World}
use Rattle.contract_powers.specs.actors.Tables.{instance_at}
use Rattle.jessie_interpreter.specs.declared.evaluation.Outcome.{Outcome}
use Rattle.jessie_interpreter.specs.jessie_semantics.Keeping.{AllHave}
use Rattle.jessie_interpreter.specs.jessie_semantics.Play.{Asks, Ending, Ends, Play, Spends}
use Rattle.jessie_interpreter.specs.jessie_grammar.Syntax.{routines, variable_names}
use Rattle.jessie_interpreter.specs.jessie_grammar.declared.syntax.Module.{Module}
use Rattle.delivery_tasks.specs.host_data.Tree.{Tree}
use Rattle.contract_powers.proofs.world_laws.Forms.{module_stays}
use Rattle.contract_powers.proofs.world_laws.Kept.{good-after_all}
use Rattle.contract_powers.proofs.world_laws.Lists.{length_map}
use Rattle.contract_powers.specs.world_state.Good.{CanKeep, IsGoodWorld}
use Rattle.contract_powers.specs.world_state.Known.{Grows, IsKnownTo, module_of}
use Rattle.contract_powers.specs.world_state.Worlds.{Effect, State, after_all, keep_state}

-- the values of an instance's state, and what its function may do
abbrev pub values_of : State → ℕ → List Tree
values_of w i = (instance_at w.tables.instances i).state

abbrev pub play_of : ℕ → State → FunctionCall → Play
play_of meter w c = module_play (module_of w.tables c.instance) c.function c.arguments (values_of w c.instance) meter

run_of : (meter : ℕ) (w : State) (c : FunctionCall) → function_run meter w c ≡ run w c.instance (play_of meter w c)
unfolding function_run
run_of meter w c = refl

module _ (w : State) (c : FunctionCall) (meter : ℕ) (good : IsGoodWorld w) (made : c.instance < length w.tables.instances) (known : AllHave (IsKnownTo w c.instance) c.arguments) where
  pub asks : Evaluates w c.instance (length (variable_names (module_of w.tables c.instance))) (play_of meter w c)
  asks = evaluates w c.instance good made c.function c.arguments (values_of w c.instance) meter known (have_all (IsKnownTo w c.instance) (values_of w c.instance) (good.instances.each c.instance made).state)

  is_run : IsRun w c.instance (length (variable_names (module_of w.tables c.instance))) (run w c.instance (play_of meter w c))
  is_run =
      let m = module_of w.tables c.instance in
      run_is calls_are w c.instance (length (variable_names m)) made (play_of meter w c) asks (play_of meter w c) [] w refl good (grows_itself w) tt

  keeps : (e : Ending) (values : List Tree) (es : List Effect) → IsEnded w c.instance (length (variable_names (module_of w.tables c.instance))) e values es → CanKeep (after_all w es) c.instance values
  keeps e values es is =
      let i = c.instance in
      let u = after_all w es in
      let grown : Grows w u = all_grow w es in
      let after_good : IsGoodWorld u = good-after_all w es is.good good in
      let here : i < length u.tables.instances = omega (arith, made, grown.instances.more) in
      let m = module_of w.tables i in
      let stays : module_of u.tables i ≡ m = module_stays w u grown i made (good.instances.each i made).installed in
      let many : length values ≡ length (instance_at u.tables.instances i).state =
      is.many ∙ length_map (λ v. v.name) m.variables ∙ sym (ap (λ (x : Module). length x.variables) stays) ∙ sym (after_good.instances.each i here).whole in
      record { made = here; as_many = many; known = all_have (IsKnownTo u i) values is.kept }

module _ (old new : World) (c : FunctionCall) (meter : ℕ) where
  ends_so : (e : Ending) (values : List Tree) (went : WentOn c.instance (play_of meter (world_of old) c) old new (Ends e values)) → run (world_of old) c.instance (play_of meter (world_of old) c) ≡ ended e values went.effects
  ends_so e values went = went.is ∙ ap (λ (es : List Effect). ended e values es) (append-nil went.effects)

  pub can_end : IsGoodWorld (world_of old) → c.instance < length (world_of old).tables.instances → AllHave (IsKnownTo (world_of old) c.instance) c.arguments
      → (p : Play) → WentOn c.instance (play_of meter (world_of old) c) old new p → CanEnd (world_of new) c.instance p
  can_end good made known Spends went = tt
  can_end good made known (Asks x go) went = tt
  can_end good made known (Ends e values) went =
      let w = world_of old in
      let is = subst (λ (r : Run). IsRun w c.instance (length (variable_names (module_of w.tables c.instance))) r) (ends_so e values went) (is_run w c meter good made known) in
      subst (λ (u : State). CanKeep u c.instance values) (sym went.carried.world) (keeps w c meter good made known e values went.effects is)

pub came_to : (old mid new : World) (c : FunctionCall) (meter : ℕ) (p : Play) (ran : Ran) → WentOn c.instance (play_of meter (world_of old) c) old mid p → HasEnded mid new c.instance p ran → CameTo meter c old new ran
came_to old mid new c meter (Ends e values) (Ended answer) went has =
    let is = run_of meter (world_of old) c ∙ ends_so old mid c meter e values went in
    subst (λ (r : Run). IsDone old new answer (run_work meter (world_of old) c.instance r)) (sym is)
    (record { answer = has.answer; carried = carried_both old mid new went.effects (keep_state c.instance values ∷ []) went.carried has.carried })
came_to old mid new c meter (Ends e values) Spent went has = absurd has
came_to old mid new c meter Spends (Ended answer) went has = absurd has
came_to old mid new c meter Spends Spent went has = run_of meter (world_of old) c ∙ went.is
came_to old mid new c meter (Asks x go) ran went has = absurd has

pub came_so : (old mid new : World) (c : FunctionCall) (meter : ℕ) (p : Play) (r : Result Ran AllocError) → WentOn c.instance (play_of meter (world_of old) c) old mid p → IfOk r (HasEnded mid new c.instance p) → IfOk r (CameTo meter c old new)
came_so old mid new c meter p (Ok ran) went has = came_to old mid new c meter p ran went has
came_so old mid new c meter p (Err e) went has = tt

pub was_ok : (r : Result Outcome AllocError) (o : Outcome) (P : Outcome → Type 0) → r ≡ Ok o → IfOk r P → P o
was_ok r o P is h = subst (λ (x : Result Outcome AllocError). IfOk x P) is h

-- ---- the turn can be undone

pub undone : (start : Start) (old new : World) → start_of old ≡ start → ∥ GoesBackTo start new ∥₁ → IsUndoable old new
undone start old new is t =
    let goes : GoesBackTo start new = ∥∥₁_elim t (back_prop start new) (λ h. h) in
    let same : start_of new ≡ start_of old = goes.same ∙ sym is in
    record {
      rights = record { kept = ap (λ (s : Start). s.kept) same; goes = goes.goes };
      registers = ap (λ (s : Start). s.registers) same;
      sums = ap (λ (s : Start). s.sums) same;
    }

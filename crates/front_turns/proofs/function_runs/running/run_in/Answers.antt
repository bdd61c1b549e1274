use Rattle.std.specs.Prelude.{IfOk}
use Rattle.std.proofs.Common.{◌≡◌, ◌∙◌, List, length, false, refl, sym, ap, subst}
use Rattle.contract_powers.proofs.RunSteps.{ready}
use Rattle.contract_powers.specs.Situations.{IsRunning, situation}
use Rattle.fair_laws.specs.delivery_laws.Works.{Evaluates}
use Rattle.delivery_tasks.specs.delivery_turns.Functions.{FunctionCall, module_play}
use Rattle.front_turns.specs.FunctionRuns.{WentOn}
use Rattle.contract_powers.specs.host_world.Worlds.{world_of}
use Rattle.contract_powers.specs.actors.Tables.{instance_at}
use Rattle.jessie_interpreter.specs.Outcomes.{outcome}
use Rattle.jessie_interpreter.specs.jessie_semantics.Play.{Play}
use Rattle.jessie_interpreter.specs.jessie_grammar.Syntax.{variable_names}
use Rattle.jessie_interpreter.specs.jessie_grammar.declared.syntax.Module.{Module}
use Rattle.delivery_tasks.specs.host_data.Tree.{Tree}
use Rattle.delivery_tasks.specs.host_data.View.{trees}
use Rattle.contract_powers.proofs.world_laws.Lists.{length_map}
use Rattle.contract_powers.specs.world_state.Known.{module_of}
use Rattle.front_turns.proofs.RunEnds.{asks, undone}
use Rattle.front_turns.proofs.Plays.{went_so}
use Rattle.front_turns.proofs.function_runs.running.run_in.Goals as goal

pub invariant_of-powers : goal.invariant_of-powers
invariant_of-powers g c = record {
  ready = ∣ ready (situation c.args.world c.args.instance false) (record { turn = c.requires.turn; made = c.requires.made }) ∣₁;
  back = ∣ record { same = c.requires.base; goes = c.requires.turn.goes } ∣₁;
}

pub evaluate-came-requires : goal.evaluate-came-requires
evaluate-came-requires g c =
    let w = world_of c.args.world in
    let m = module_of w.tables c.args.instance in
    sym (length_map _ c.args.state.now.items) ∙ ap (λ (ts : List Tree). length ts) c.requires.kept ∙ (c.requires.turn.good.instances.each c.args.instance c.requires.made).whole
    ∙ sym (length_map (λ v. v.name) m.variables) ∙ sym (ap (λ (x : Module). length (variable_names x)) c.requires.shared)

pub returns-clause-went : goal.returns-clause-went
returns-clause-went g c =
    let w = world_of c.args.world in
    let i = c.args.instance in
    let n = length (variable_names (module_of w.tables i)) in
    let call : FunctionCall = record { instance = i; function = c.args.function.now; arguments = trees c.args.arguments.items } in
    let p = module_play c.args.module.now c.args.function.now (trees c.args.arguments.items) (trees c.args.state.now.items) c.args.meter in
    let q = module_play (module_of w.tables i) c.args.function.now (trees c.args.arguments.items) (instance_at w.tables.instances i).state c.args.meter in
    let same : p ≡ q = λ k. module_play (c.requires.shared k) c.args.function.now (trees c.args.arguments.items) (c.requires.kept k) c.args.meter in
    let running : IsRunning (situation c.args.world i false) = record { turn = c.requires.turn; made = c.requires.made } in
    let evaluates : Evaluates w i n p = subst (λ (x : Play). Evaluates w i n x) (sym same) (asks w call c.args.meter c.requires.turn.good c.requires.made c.requires.known) in
    subst (λ (x : Play). IfOk c.evaluate-came.result (λ came. WentOn i x c.args.world c.evaluate-came.new.powers.world (outcome came (trees c.evaluate-came.new.state.items)))) same
    (went_so _ c.evaluate-came.new.powers (λ a. situation a.world a.instance a.failed) i n p c.evaluate-came.result (trees c.evaluate-came.new.state.items) evaluates running refl c.evaluate-came.ensures.follows)

pub returns-clause-back : goal.returns-clause-back
returns-clause-back g c = undone g.T.Turn.base c.args.world c.evaluate-came.new.powers.world c.requires.base c.evaluate-came.new.powers.back

use Rattle.std.proofs.Common.{ap, sym, refl, ◌∙◌}
use Rattle.jessie_machine.specs.host_data.View.{tree, trees}
use Rattle.jessie_machine.specs.jessie_grammar.Syntax.{routines, variable_names}
use Rattle.jessie_machine.specs.jessie_semantics.Play.{Ends, returned, threw}
use Rattle.jessie_machine.specs.jessie_semantics.Runs.{came, halted, throws, spends}
use Rattle.jessie_machine.proofs.jessie_semantics.Licence.{licensed}
use Rattle.jessie_machine.proofs.jessie_semantics.Charges.{fits}
use Rattle.jessie_machine.proofs.jessie_semantics.Plays.{follows, leads_to}
use Rattle.jessie_machine.proofs.jessie_semantics.Hosts.{granted}
use Rattle.jessie_machine.proofs.jessie_semantics.Runs.{runs_to}
use Rattle.jessie_machine.specs.Stops.{halt}
use Rattle.jessie_machine.specs.Machine.{state}
use Rattle.jessie_interpreter.proofs.Ends.{evaluated, ended_values, count_kept}
use Rattle.jessie_interpreter.proofs.evaluation.evaluate.Goals as goal

pub returns-in-Ok : goal.returns-in-Ok
returns-in-Ok g c =
    let rs = routines c.args.module.now in
    let xs = variable_names c.args.module.now in
    let vs = trees c.args.args.items in
    let old = c.args.state.now.items in
    let u = state xs (trees c.as_slice-values.result.now) c.invoke.new.machine in
    let l = evaluated rs xs c.args.f.now vs _ _ old _ c.args.meter (came (tree c.in-Ok.data)) u c.new-locals.ensures c.as_slice-values.ensures.value c.new-changed.ensures.items tt (c.in-Ok.ensures) in
    let e = leads_to l (ap (λ vs. Ends (returned (tree c.in-Ok.data)) vs) (ended_values xs _ old _ _ c.as_slice-values.ensures.value c.requires c.keep_changes.ensures)) in
    record {
      follows = follows e;
      licensed = licensed rs xs c.args.f.now vs (trees old) c.args.meter (follows e);
      fits = fits rs xs c.args.f.now vs (trees old) c.args.meter e;
      granted = λ k h i. granted g.P.Powers.answers g.P.Powers.known g.met.P.Powers.keeps _ _ rs xs c.args.f.now vs (trees old) c.args.meter _ k h i e;
      spent = λ h. cc;
      memory = tt;
      count = count_kept _ _ _ c.keep_changes.ensures;
    }

pub returns-in_ok-data-in-Throws : goal.returns-in_ok-data-in-Throws
returns-in_ok-data-in-Throws g c =
    let rs = routines c.args.module.now in
    let xs = variable_names c.args.module.now in
    let vs = trees c.args.args.items in
    let old = c.args.state.now.items in
    let u = state xs (trees c.as_slice-values.result.now) c.invoke.new.machine in
    let l = evaluated rs xs c.args.f.now vs _ _ old _ c.args.meter (halted (throws (tree c.in_ok-data-in-Throws.data))) u c.new-locals.ensures c.as_slice-values.ensures.value c.new-changed.ensures.items tt (runs_to (ap (λ e. halted (halt e)) c.in-Throws.is ∙ ap (λ t. halted (throws t)) (sym c.in_ok-data-in-Throws.ensures)) c.in-Err.ensures) in
    let e = leads_to l (ap (λ vs. Ends (threw (tree c.in_ok-data-in-Throws.data)) vs) (ended_values xs _ old _ _ c.as_slice-values.ensures.value c.requires c.keep_changes-in-Throws.ensures)) in
    record {
      follows = follows e;
      licensed = licensed rs xs c.args.f.now vs (trees old) c.args.meter (follows e);
      fits = fits rs xs c.args.f.now vs (trees old) c.args.meter e;
      granted = λ k h i. granted g.P.Powers.answers g.P.Powers.known g.met.P.Powers.keeps _ _ rs xs c.args.f.now vs (trees old) c.args.meter _ k h i e;
      spent = λ h. cc;
      memory = tt;
      count = count_kept _ _ _ c.keep_changes-in-Throws.ensures;
    }

pub returns-in-Spent : goal.returns-in-Spent
returns-in-Spent g c =
    let rs = routines c.args.module.now in
    let xs = variable_names c.args.module.now in
    let vs = trees c.args.args.items in
    let old = c.args.state.now.items in
    let u = state xs (trees c.as_slice-values.result.now) c.invoke.new.machine in
    let l = evaluated rs xs c.args.f.now vs _ _ old _ c.args.meter (halted spends) u c.new-locals.ensures c.as_slice-values.ensures.value c.new-changed.ensures.items tt (runs_to (ap (λ e. halted (halt e)) c.in-Spent.is) c.in-Err.ensures) in
    let e = l in
    record {
      follows = follows e;
      licensed = licensed rs xs c.args.f.now vs (trees old) c.args.meter (follows e);
      fits = fits rs xs c.args.f.now vs (trees old) c.args.meter e;
      granted = λ k h i. granted g.P.Powers.answers g.P.Powers.known g.met.P.Powers.keeps _ _ rs xs c.args.f.now vs (trees old) c.args.meter _ k h i e;
      spent = λ h. refl;
      memory = tt;
      count = refl;
    }

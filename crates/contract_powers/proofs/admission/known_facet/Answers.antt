use Rattle.std.proofs.Common.{◌∙◌, List, ap, sym}
use Rattle.delivery_laws.specs.rules.PromisesAndFacets.{far_rule}
use Rattle.world_effects.specs.host_world.Worlds.{world_of}
use Rattle.jessie_machine.specs.jessie_semantics.Play as plays
use Rattle.refusals.specs.host_data.Tree.{Tree}
use Rattle.refusals.specs.host_data.View.{trees}
use Rattle.refusals.specs.host_data.declared.data.Data.{Data}
use Rattle.world_effects.specs.world_reads.Tests.{all_pass}
use Rattle.contract_powers.proofs.Results.{facet_shows}
use Rattle.contract_powers.proofs.NameTests.{passed_call, stray_call}
use Rattle.contract_powers.proofs.admission.known_facet.Goals as goal

pub returns-then-not-may_hold_all : goal.returns-then-not-may_hold_all
returns-then-not-may_hold_all c name methods held told plans =
    let w = world_of c.args.world.now in
    let is = c.may_hold_all.ensures ∙ ap (λ (xs : List Data). all_pass w c.args.instance (trees xs)) c.as_slice.ensures.value ∙ ap (λ (ts : List Tree). all_pass w c.args.instance ts) (facet_shows name methods held c.args.told told) in
    stray_call w c.args.instance c.requires.good c.requires.made (plays.far name methods held) (sym is ∙ c.if-not-may_hold_all.true)

pub returns-in-Ok : goal.returns-in-Ok
returns-in-Ok c name methods held told plans =
    let w = world_of c.args.world.now in
    let is = c.may_hold_all.ensures ∙ ap (λ (xs : List Data). all_pass w c.args.instance (trees xs)) c.as_slice.ensures.value ∙ ap (λ (ts : List Tree). all_pass w c.args.instance ts) (facet_shows name methods held c.args.told told) in
    record {
      known = passed_call w c.args.instance c.requires.good c.requires.made (plays.far name methods held) (sym is ∙ c.if-not-may_hold_all.false);
      answered = c.in-Ok.ensures (plays.far name methods held) (far_rule w c.args.instance methods held) told plans;
    }

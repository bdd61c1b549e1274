use Rattle.std.proofs.Common.{◌≡◌, ◌∙◌, ℕ, List, subst, sym}
use Rattle.delivery_laws.specs.rules.PromisesAndFacets.{call_rule}
use Rattle.contract_powers.specs.CallOutcomes.{IsAnswered}
use Rattle.world_effects.specs.host_world.Worlds.{world_of}
use Rattle.jessie_machine.specs.jessie_semantics.Play as plays
use Rattle.refusals.specs.host_data.View.{trees}
use Rattle.refusals.specs.host_data.declared.data.Data.{Data}
use Rattle.contract_powers.specs.NameTests.{call_passes}
use Rattle.contract_powers.proofs.NameTests.{passed_call, stray_call}
use Rattle.contract_powers.proofs.admission.admit_send.Goals as goal

pub returns-then-not-knows_call : goal.returns-then-not-knows_call
returns-then-not-knows_call c =
    let w = world_of c.args.world.now in
    let is = subst (λ (xs : List Data). c.knows_call.result ≡ call_passes w c.args.instance (plays.send c.args.target c.args.method.now (trees xs))) c.as_slice.ensures.value (c.knows_call.ensures.sends c.args.method.now) in
    stray_call w c.args.instance c.requires.good c.requires.made (plays.send c.args.target c.args.method.now (trees c.args.args.items)) (sym is ∙ c.if-not-knows_call.true)

pub returns : goal.returns
returns c =
    let w = world_of c.args.world.now in
    let is = subst (λ (xs : List Data). c.knows_call.result ≡ call_passes w c.args.instance (plays.send c.args.target c.args.method.now (trees xs))) c.as_slice.ensures.value (c.knows_call.ensures.sends c.args.method.now) in
    record {
      known = passed_call w c.args.instance c.requires.good c.requires.made (plays.send c.args.target c.args.method.now (trees c.args.args.items)) (sym is ∙ c.if-not-knows_call.false);
      answered = subst (λ (m : List ℕ). IsAnswered (plays.send c.args.target m (trees c.args.args.items)) (call_rule w c.args.instance (plays.send c.args.target m (trees c.args.args.items))) c.in_ok-done.done) c.in_ok-method.ensures c.in_ok-done.ensures;
    }

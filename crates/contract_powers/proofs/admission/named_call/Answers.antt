use Rattle.std.proofs.Common.{◌≡◌, ◌∙◌, List, subst, sym}
use Rattle.world_effects.specs.host_world.Worlds.{world_of}
use Rattle.jessie_machine.specs.jessie_semantics.Play as plays
use Rattle.refusals.specs.host_data.View.{trees}
use Rattle.refusals.specs.host_data.declared.data.Data.{Data}
use Rattle.contract_powers.specs.NameTests.{call_passes}
use Rattle.contract_powers.proofs.NameTests.{passed_call, stray_call}
use Rattle.contract_powers.proofs.admission.named_call.Goals as goal

pub returns-then-not-knows_call : goal.returns-then-not-knows_call
returns-then-not-knows_call g c =
    let w = world_of c.args.world.now in
    let is = subst (λ (xs : List Data). c.knows_call.result ≡ call_passes w c.args.instance (plays.call c.args.target c.args.method (trees xs))) c.as_slice.ensures.value (c.knows_call.ensures.calls c.args.method) in
    stray_call w c.args.instance c.requires.good c.requires.made (plays.call c.args.target c.args.method (trees c.args.args.items)) (sym is ∙ c.if-not-knows_call.true)

pub known_call-requires-clause-known : goal.known_call-requires-clause-known
known_call-requires-clause-known g c =
    let w = world_of c.args.world.now in
    let is = subst (λ (xs : List Data). c.knows_call.result ≡ call_passes w c.args.instance (plays.call c.args.target c.args.method (trees xs))) c.as_slice.ensures.value (c.knows_call.ensures.calls c.args.method) in
    passed_call w c.args.instance c.requires.good c.requires.made (plays.call c.args.target c.args.method (trees c.args.args.items)) (sym is ∙ c.if-not-knows_call.false)

pub returns-in-Ok : goal.returns-in-Ok
returns-in-Ok g c =
    let w = world_of c.args.world.now in
    let is = subst (λ (xs : List Data). c.knows_call.result ≡ call_passes w c.args.instance (plays.call c.args.target c.args.method (trees xs))) c.as_slice.ensures.value (c.knows_call.ensures.calls c.args.method) in
    record {
      known = passed_call w c.args.instance c.requires.good c.requires.made (plays.call c.args.target c.args.method (trees c.args.args.items)) (sym is ∙ c.if-not-knows_call.false);
      answered = c.in-Ok.ensures;
    }

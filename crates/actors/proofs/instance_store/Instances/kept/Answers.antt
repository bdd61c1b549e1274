use Rattle.std.proofs.Common.{ap, ◌∙◌}
use Rattle.promise_store.specs.host_data.View.{trees}
use Rattle.actors.specs.Changes.{changes_now}
use Rattle.actors.proofs.Calls.{kept_whole, modules_of, state_changed, state_started}
use Rattle.actors.proofs.instance_store.Instances.kept.Goals as goal

pub returns-in-Some-clause-state : goal.returns-in-Some-clause-state
returns-in-Some-clause-state c =
    let old = c.args.self.now in
    ap trees c.as_slice.ensures.value ∙ state_changed (changes_now old.changes) old.instances.items c.args.instance c.requires c.in-Some.state.now c.in-Some.ensures

pub returns-in-Some-clause-whole : goal.returns-in-Some-clause-whole
returns-in-Some-clause-whole c =
    let old = c.args.self.now in
    kept_whole (changes_now old.changes) old.instances.items c.args.instance c.requires (modules_of old) c.as_slice.result.now
    (ap trees c.as_slice.ensures.value ∙ state_changed (changes_now old.changes) old.instances.items c.args.instance c.requires c.in-Some.state.now c.in-Some.ensures) old.whole

pub returns-in-None-clause-state : goal.returns-in-None-clause-state
returns-in-None-clause-state c =
    let old = c.args.self.now in
    ap trees c.as_slice-in-None.ensures.value ∙ state_started (changes_now old.changes) old.instances.items c.args.instance c.requires c.index.result.now c.index.ensures c.in-None.ensures

pub returns-in-None-clause-whole : goal.returns-in-None-clause-whole
returns-in-None-clause-whole c =
    let old = c.args.self.now in
    kept_whole (changes_now old.changes) old.instances.items c.args.instance c.requires (modules_of old) c.as_slice-in-None.result.now
    (ap trees c.as_slice-in-None.ensures.value ∙ state_started (changes_now old.changes) old.instances.items c.args.instance c.requires c.index.result.now c.index.ensures c.in-None.ensures) old.whole

use Rattle.actors.specs.Changes.{changes_now}
use Rattle.actors.proofs.Calls.{issuers_changed, issuers_started}
use Rattle.actors.proofs.instance_store.Instances.issuers.Goals as goal

pub returns-in-Some : goal.returns-in-Some
returns-in-Some c =
    let old = c.args.self.now in
    issuers_changed (changes_now old.changes) old.instances.items c.args.instance c.requires c.in-Some.issuers.now c.in-Some.ensures

pub returns-in-None : goal.returns-in-None
returns-in-None c =
    let old = c.args.self.now in
    issuers_started (changes_now old.changes) old.instances.items c.args.instance c.requires c.index.result.now c.index.ensures c.in-None.ensures

use Rattle.actors.specs.Changes.{changes_now}
use Rattle.actors.proofs.Calls.{standing_changed, standing_started}
use Rattle.actors.proofs.instance_store.Instances.standing.Goals as goal

pub returns-in-Some : goal.returns-in-Some
returns-in-Some c =
    let old = c.args.self.now in
    standing_changed (changes_now old.changes) old.instances.items c.args.instance c.requires c.in-Some.standing.now c.in-Some.ensures

pub returns-in-None : goal.returns-in-None
returns-in-None c =
    let old = c.args.self.now in
    standing_started (changes_now old.changes) old.instances.items c.args.instance c.requires c.in-None.ensures

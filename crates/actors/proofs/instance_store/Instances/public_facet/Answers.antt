use Rattle.actors.specs.Changes.{changes_now}
use Rattle.actors.proofs.Calls.{public_facet_is}
use Rattle.actors.proofs.instance_store.Instances.public_facet.Goals as goal

pub returns : goal.returns
returns c =
    let old = c.args.self.now in
    public_facet_is (changes_now old.changes) old.instances.items c.args.instance c.requires c.get.result c.get.ensures

use Rattle.std.proofs.Common.{sym, ap}
use Rattle.actors.specs.Changes.{changes_now}
use Rattle.actors.specs.Tables.{InstanceView}
use Rattle.actors.proofs.Calls.{view_at}
use Rattle.actors.proofs.instance_store.Instances.terms.Goals as goal

pub returns : goal.returns
returns c =
    let old = c.args.self.now in
    sym (ap (λ (i : InstanceView). i.terms) (view_at (changes_now old.changes) old.instances.items c.args.instance c.requires c.index.result.now c.index.ensures))

use Rattle.std.proofs.Common.{◌<◌, ℕ, length, sym, ap, subst}
use Rattle.actors.specs.Changes.{changes_now}
use Rattle.actors.specs.Tables.{InstanceView, instance_at}
use Rattle.actors.proofs.Calls.{modules_of, view_at, viewed}
use Rattle.actors.proofs.Wholes.{installation_made, whole_at}
use Rattle.actors.proofs.instance_store.Instances.installation.Goals as goal

pub returns-clause-number : goal.returns-clause-number
returns-clause-number c =
    let old = c.args.self.now in
    sym (ap (λ (i : InstanceView). i.installation) (view_at (changes_now old.changes) old.instances.items c.args.instance c.requires c.index.result.now c.index.ensures))

pub returns-clause-made : goal.returns-clause-made
returns-clause-made c =
    let old = c.args.self.now in
    let P : ℕ → Type 0 = λ n. n < length (modules_of old) in
    subst P (ap (λ (i : InstanceView). i.installation) (view_at (changes_now old.changes) old.instances.items c.args.instance c.requires c.index.result.now c.index.ensures))
    (installation_made (modules_of old) (instance_at (viewed old) c.args.instance) (whole_at (modules_of old) (viewed old) c.args.instance old.whole c.requires))

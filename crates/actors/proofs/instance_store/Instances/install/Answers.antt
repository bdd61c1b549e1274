use Rattle.actors.specs.Changes.{changes_at_start, instances_view}
use Rattle.std.proofs.Common.{take}
use Rattle.actors.proofs.Calls.{installed_begun, installed_whole, viewed}
use Rattle.actors.proofs.instance_store.Instances.install.Goals as goal

pub invariant_of-self-in-Ok-clause-whole : goal.invariant_of-self-in-Ok-clause-whole
invariant_of-self-in-Ok-clause-whole c =
    let old = c.args.self.now in
    installed_whole old.installations.items c.reserve.new.self.items c.push_reserved.new.self.items c.in-Ok.«module» c.args.«module» (viewed old) c.reserve.ensures.items c.push_reserved.ensures.items c.in-Ok.ensures.ok old.whole

pub invariant_of-self-in-Ok-clause-whole_at_start : goal.invariant_of-self-in-Ok-clause-whole_at_start
invariant_of-self-in-Ok-clause-whole_at_start c =
    let old = c.args.self.now in
    installed_begun old.kept_installations old.installations.items c.reserve.new.self.items c.push_reserved.new.self.items c.in-Ok.«module» c.args.«module»
    (instances_view (changes_at_start old.changes) (take old.kept_instances old.instances.items)) c.reserve.ensures.items c.push_reserved.ensures.items c.in-Ok.ensures.ok old.installations_within old.whole_at_start

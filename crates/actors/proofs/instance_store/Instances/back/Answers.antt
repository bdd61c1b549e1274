use Rattle.std.proofs.Common.{arith, length, refl}
use Rattle.actors.specs.Changes.{changes_at_start, changes_now}
use Rattle.actors.proofs.Calls.{back_begun, back_below, back_seen, back_whole, cut_length}
use Rattle.actors.proofs.instance_store.Instances.back.Goals as goal

pub invariant_of-self-clause-installations_within : goal.invariant_of-self-clause-installations_within
invariant_of-self-clause-installations_within c =
    let old = c.args.self.now in
    omega (arith, cut_length old.kept_installations old.installations.items c.truncate.new.self.items c.truncate.ensures.items old.installations_within)

pub invariant_of-self-clause-instances_within : goal.invariant_of-self-clause-instances_within
invariant_of-self-clause-instances_within c =
    let old = c.args.self.now in
    omega (arith, cut_length old.kept_instances old.instances.items c.truncate-2.new.self.items c.truncate-2.ensures.items old.instances_within)

pub invariant_of-self-clause-made_now : goal.invariant_of-self-clause-made_now
invariant_of-self-clause-made_now c =
    let old = c.args.self.now in
    back_below old.kept_instances (length c.truncate-2.new.self.items) (changes_at_start old.changes) (changes_now c.back.new.self) c.back.ensures.now
    (cut_length old.kept_instances old.instances.items c.truncate-2.new.self.items c.truncate-2.ensures.items old.instances_within) old.made_at_start

pub invariant_of-self-clause-made_at_start : goal.invariant_of-self-clause-made_at_start
invariant_of-self-clause-made_at_start c =
    let old = c.args.self.now in
    back_below old.kept_instances old.kept_instances (changes_at_start old.changes) (changes_at_start c.back.new.self) c.back.ensures.start refl old.made_at_start

pub invariant_of-self-clause-whole : goal.invariant_of-self-clause-whole
invariant_of-self-clause-whole c =
    let old = c.args.self.now in
    back_whole old.kept_installations old.kept_instances old.installations.items c.truncate.new.self.items (changes_at_start old.changes) (changes_now c.back.new.self) old.instances.items c.truncate-2.new.self.items c.truncate.ensures.items c.truncate-2.ensures.items
    c.back.ensures.now old.whole_at_start

pub invariant_of-self-clause-whole_at_start : goal.invariant_of-self-clause-whole_at_start
invariant_of-self-clause-whole_at_start c =
    let old = c.args.self.now in
    back_begun old.kept_installations old.kept_instances old.installations.items c.truncate.new.self.items (changes_at_start old.changes) (changes_at_start c.back.new.self) old.instances.items c.truncate-2.new.self.items c.truncate.ensures.items
    c.truncate-2.ensures.items c.back.ensures.start old.whole_at_start

pub returns : goal.returns
returns c =
    let old = c.args.self.now in
    back_seen old.kept_installations old.kept_instances old.installations.items c.truncate.new.self.items (changes_at_start old.changes) (changes_now old.changes) (changes_at_start c.back.new.self) (changes_now c.back.new.self) old.instances.items
    c.truncate-2.new.self.items c.truncate.ensures.items c.truncate-2.ensures.items c.back.ensures.start c.back.ensures.now

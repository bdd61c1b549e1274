use Rattle.std.proofs.Common.{arith, ap, length, length-append, ◌∙◌, take}
use Rattle.actors.specs.Changes.{changes_at_start, changes_now}
use Rattle.actors.specs.Tables.{initial_state}
use Rattle.actors.proofs.Calls.{below_more, modules_of, started_begun, started_seen, started_whole}
use Rattle.actors.proofs.instance_store.Instances.start.Goals as goal

pub invariant_of-self-in-Ok-clause-made_now : goal.invariant_of-self-in-Ok-clause-made_now
invariant_of-self-in-Ok-clause-made_now c =
    let old = c.args.self.now in
    below_more (length old.instances.items) (length c.push_reserved.new.self.items) (changes_now old.changes)
    (rw (c.push_reserved.ensures.items, c.reserve.ensures.items, length-append) (omega arith)) old.made_now

pub invariant_of-self-in-Ok-clause-whole : goal.invariant_of-self-in-Ok-clause-whole
invariant_of-self-in-Ok-clause-whole c =
    let old = c.args.self.now in
    started_whole (modules_of old) (changes_now old.changes) old.instances.items c.reserve.new.self.items c.push_reserved.new.self.items
    (record { installation = c.args.installation; issuers = c.args.issuers; terms = c.args.terms; state = c.in-Ok.state }) c.reserve.ensures.items c.push_reserved.ensures.items old.made_now c.requires
    (c.in-Ok.ensures ∙ ap initial_state c.module.ensures) old.whole

pub invariant_of-self-in-Ok-clause-whole_at_start : goal.invariant_of-self-in-Ok-clause-whole_at_start
invariant_of-self-in-Ok-clause-whole_at_start c =
    let old = c.args.self.now in
    started_begun (take old.kept_installations (modules_of old)) (changes_at_start old.changes) old.kept_instances old.instances.items c.reserve.new.self.items c.push_reserved.new.self.items
    (record { installation = c.args.installation; issuers = c.args.issuers; terms = c.args.terms; state = c.in-Ok.state }) c.reserve.ensures.items c.push_reserved.ensures.items old.instances_within old.whole_at_start

pub returns-in-Ok-clause-ok : goal.returns-in-Ok-clause-ok
returns-in-Ok-clause-ok c =
    let old = c.args.self.now in
    started_seen old.kept_installations old.kept_instances (modules_of old) (changes_at_start old.changes) (changes_now old.changes) old.instances.items c.reserve.new.self.items c.push_reserved.new.self.items
    (record { installation = c.args.installation; issuers = c.args.issuers; terms = c.args.terms; state = c.in-Ok.state }) old.instances_within c.reserve.ensures.items c.push_reserved.ensures.items old.made_now
    (c.in-Ok.ensures ∙ ap initial_state c.module.ensures)

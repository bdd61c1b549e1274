use Rattle.std.proofs.Common.{length, ap, ◌∙◌}
use Rattle.actors.specs.Tables.{stopped, with_changed}
use Rattle.actors.specs.InstanceTurns.{instances_of}
use Rattle.actors.specs.Changes.{changes_now, instance_view}
use Rattle.actors.proofs.Calls.{below_left, below_start, standings_begun, standing_seen, standing_whole, left_by, within_list}
use Rattle.actors.proofs.instance_store.Instances.stop_accepting.Goals as goal

pub invariant_of-self-clause-made_now : goal.invariant_of-self-clause-made_now
invariant_of-self-clause-made_now c =
    let old = c.args.self.now in
    record {
      issuers = old.made_now.issuers;
      public_facets = old.made_now.public_facets;
      standings = below_left c.args.instance c.stopped-standing.result old.changes.standings c.put.new.self (length old.instances.items) (within_list (instance_view (changes_now old.changes)) 0 c.args.instance old.instances.items c.requires) (left_by c.args.instance c.stopped-standing.result old.changes.standings c.put.new.self c.put.result c.put.ensures.ok c.put.ensures.err) old.made_now.standings;
      states = old.made_now.states;
    }

pub invariant_of-self-clause-made_at_start : goal.invariant_of-self-clause-made_at_start
invariant_of-self-clause-made_at_start c =
    let old = c.args.self.now in
    record {
      issuers = old.made_at_start.issuers;
      public_facets = old.made_at_start.public_facets;
      standings = below_start c.args.instance c.stopped-standing.result old.changes.standings c.put.new.self old.kept_instances c.put.ensures.start old.made_at_start.standings;
      states = old.made_at_start.states;
    }

pub invariant_of-self-clause-whole : goal.invariant_of-self-clause-whole
invariant_of-self-clause-whole c =
    let old = c.args.self.now in
    standing_whole old c.args.instance c.stopped-standing.result c.put.new.self (left_by c.args.instance c.stopped-standing.result old.changes.standings c.put.new.self c.put.result c.put.ensures.ok c.put.ensures.err) c.requires old.whole

pub invariant_of-self-clause-whole_at_start : goal.invariant_of-self-clause-whole_at_start
invariant_of-self-clause-whole_at_start c =
    let old = c.args.self.now in
    standings_begun old c.put.new.self.start c.put.ensures.start old.whole_at_start

pub returns-in-Ok-clause-ok : goal.returns-in-Ok-clause-ok
returns-in-Ok-clause-ok c =
    let old = c.args.self.now in
    standing_seen old c.args.instance c.stopped-standing.result c.put.new.self c.put.ensures.start c.in-Ok.ensures.ok
    ∙ (λ j. record (instances_of old) { now = with_changed c.args.instance (λ i. record i { standing = (c.stopped-standing.ensures ∙ ap stopped c.standing.ensures) j }) (instances_of old).now })

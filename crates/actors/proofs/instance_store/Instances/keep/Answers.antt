use Rattle.std.proofs.Common.{length}
use Rattle.actors.specs.Changes.{changes_now, instance_view}
use Rattle.actors.proofs.Calls.{below_left, below_start, states_begun, state_seen, state_whole_after, left_by, within_list}
use Rattle.actors.proofs.instance_store.Instances.keep.Goals as goal

pub invariant_of-self-clause-made_now : goal.invariant_of-self-clause-made_now
invariant_of-self-clause-made_now c =
    let old = c.args.self.now in
    record {
      issuers = old.made_now.issuers;
      public_facets = old.made_now.public_facets;
      standings = old.made_now.standings;
      states = below_left c.args.instance c.args.state old.changes.states c.put.new.self (length old.instances.items) (within_list (instance_view (changes_now old.changes)) 0 c.args.instance old.instances.items c.requires.made) (left_by c.args.instance c.args.state old.changes.states c.put.new.self c.put.result c.put.ensures.ok c.put.ensures.err) old.made_now.states;
    }

pub invariant_of-self-clause-made_at_start : goal.invariant_of-self-clause-made_at_start
invariant_of-self-clause-made_at_start c =
    let old = c.args.self.now in
    record {
      issuers = old.made_at_start.issuers;
      public_facets = old.made_at_start.public_facets;
      standings = old.made_at_start.standings;
      states = below_start c.args.instance c.args.state old.changes.states c.put.new.self old.kept_instances c.put.ensures.start old.made_at_start.states;
    }

pub invariant_of-self-clause-whole : goal.invariant_of-self-clause-whole
invariant_of-self-clause-whole c =
    let old = c.args.self.now in
    state_whole_after old c.args.instance c.args.state c.put.new.self (left_by c.args.instance c.args.state old.changes.states c.put.new.self c.put.result c.put.ensures.ok c.put.ensures.err) c.requires.made c.requires.as_many old.whole

pub invariant_of-self-clause-whole_at_start : goal.invariant_of-self-clause-whole_at_start
invariant_of-self-clause-whole_at_start c =
    let old = c.args.self.now in
    states_begun old c.put.new.self.start c.put.ensures.start old.whole_at_start

pub returns-in-Ok-clause-ok : goal.returns-in-Ok-clause-ok
returns-in-Ok-clause-ok c =
    let old = c.args.self.now in
    state_seen old c.args.instance c.args.state c.put.new.self c.put.ensures.start c.in-Ok.ensures.ok

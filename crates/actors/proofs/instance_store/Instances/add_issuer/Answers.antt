use Rattle.std.proofs.Common.{List, [], ◌∷◌, ◌++◌, length, ap, ◌∙◌}
use Rattle.brands.specs.IssuerRecords.{issuer_of}
use Rattle.brands.specs.declared.issuer_record.Issuer.{Issuer}
use Rattle.actors.specs.Tables.{with_changed}
use Rattle.actors.specs.InstanceTurns.{instances_of}
use Rattle.actors.specs.Changes.{changes_now, instance_view}
use Rattle.actors.proofs.Calls.{below_left, below_start, issuers_begun, issuers_seen, issuers_whole, left_by, within_list}
use Rattle.actors.proofs.instance_store.Instances.add_issuer.Goals as goal

pub invariant_of-self-clause-made_now : goal.invariant_of-self-clause-made_now
invariant_of-self-clause-made_now c =
    let old = c.args.self.now in
    record {
      issuers = below_left c.args.instance c.in_ok-issuers.issuers old.changes.issuers c.put.new.self (length old.instances.items) (within_list (instance_view (changes_now old.changes)) 0 c.args.instance old.instances.items c.requires) (left_by c.args.instance c.in_ok-issuers.issuers old.changes.issuers c.put.new.self c.put.result c.put.ensures.ok c.put.ensures.err) old.made_now.issuers;
      public_facets = old.made_now.public_facets;
      standings = old.made_now.standings;
      states = old.made_now.states;
    }

pub invariant_of-self-clause-made_at_start : goal.invariant_of-self-clause-made_at_start
invariant_of-self-clause-made_at_start c =
    let old = c.args.self.now in
    record {
      issuers = below_start c.args.instance c.in_ok-issuers.issuers old.changes.issuers c.put.new.self old.kept_instances c.put.ensures.start old.made_at_start.issuers;
      public_facets = old.made_at_start.public_facets;
      standings = old.made_at_start.standings;
      states = old.made_at_start.states;
    }

pub invariant_of-self-clause-whole : goal.invariant_of-self-clause-whole
invariant_of-self-clause-whole c =
    let old = c.args.self.now in
    issuers_whole old c.args.instance c.in_ok-issuers.issuers c.put.new.self (left_by c.args.instance c.in_ok-issuers.issuers old.changes.issuers c.put.new.self c.put.result c.put.ensures.ok c.put.ensures.err) c.requires old.whole

pub invariant_of-self-clause-whole_at_start : goal.invariant_of-self-clause-whole_at_start
invariant_of-self-clause-whole_at_start c =
    let old = c.args.self.now in
    issuers_begun old c.put.new.self.start c.put.ensures.start old.whole_at_start

pub returns-in-Ok-clause-ok : goal.returns-in-Ok-clause-ok
returns-in-Ok-clause-ok c =
    let old = c.args.self.now in
    issuers_seen old c.args.instance c.in_ok-issuers.issuers c.put.new.self c.put.ensures.start c.in-Ok.ensures.ok
    ∙ (λ j. record (instances_of old) { now = with_changed c.args.instance (λ i. record i { issuers = (c.in_ok-issuers.ensures.ok ∙ ap (λ (is : List Issuer). is ++ issuer_of c.args.keyword.now c.args.brand ∷ []) c.issuers.ensures) j }) (instances_of old).now })

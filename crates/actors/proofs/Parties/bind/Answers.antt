use Rattle.std.proofs.Common.{map, sym, ◌&&◌, ◌∙◌}
use Rattle.std.proofs.lemmas.List.{length-map}
use Rattle.std.specs.Str.{bytes_eq}
use Rattle.indexmap.proofs.CallerLemmas.{insert_entry-new}
use Rattle.promise_store.specs.host_data.View.{tree}
use Rattle.actors.specs.Labels.{binding, bound}
use Rattle.actors.proofs.Bindings.{absent_free, bound_last, inserted, labels_inserted, seen_last, within_inserted}
use Rattle.actors.proofs.Parties.bind.Goals as goal

pub invariant_of-self-clause-within : goal.invariant_of-self-clause-within
invariant_of-self-clause-within c =
    let old = c.args.self.now in
    let none =
    absent_free old.labels.entries c.args.party.now c.args.label.now _
    (λ k i. bytes_eq ((c.new-name.ensures.party ∙ c.as_str.ensures.text) i) k.party.bytes && bytes_eq ((c.new-name.ensures.label ∙ c.as_str-2.ensures.text) i) k.label.bytes)
    (sym c.if-is_bound.ensures) in
    within_inserted old.kept old.labels.entries c.insert.new.self.entries (c.new-name.result, c.args.value) old.within
    (inserted c.insert.result _ old.labels c.insert.new.self.entries c.new-name.result c.args.value none c.insert.ensures.entries c.insert.ensures.err)

pub invariant_of-self-clause-labels_only : goal.invariant_of-self-clause-labels_only
invariant_of-self-clause-labels_only c =
    let old = c.args.self.now in
    let none =
    absent_free old.labels.entries c.args.party.now c.args.label.now _
    (λ k i. bytes_eq ((c.new-name.ensures.party ∙ c.as_str.ensures.text) i) k.party.bytes && bytes_eq ((c.new-name.ensures.label ∙ c.as_str-2.ensures.text) i) k.label.bytes)
    (sym c.if-is_bound.ensures) in
    labels_inserted old.labels.entries c.insert.new.self.entries c.new-name.result c.args.value (rw (c.new-name.ensures.party, c.as_str.ensures.text) c.as_str.ensures.form)
    (rw (c.new-name.ensures.label, c.as_str-2.ensures.text) c.as_str-2.ensures.form) old.labels_only
    (inserted c.insert.result _ old.labels c.insert.new.self.entries c.new-name.result c.args.value none c.insert.ensures.entries c.insert.ensures.err)

pub returns-in-Ok-clause-ok : goal.returns-in-Ok-clause-ok
returns-in-Ok-clause-ok c =
    let old = c.args.self.now in
    let none =
    absent_free old.labels.entries c.args.party.now c.args.label.now _
    (λ k i. bytes_eq ((c.new-name.ensures.party ∙ c.as_str.ensures.text) i) k.party.bytes && bytes_eq ((c.new-name.ensures.label ∙ c.as_str-2.ensures.text) i) k.label.bytes)
    (sym c.if-is_bound.ensures) in
    let more =
    bound_last old.labels.entries c.insert.new.self.entries c.args.party.now c.args.label.now c.new-name.result c.args.value (c.new-name.ensures.party ∙ c.as_str.ensures.text)
    (c.new-name.ensures.label ∙ c.as_str-2.ensures.text)
    (c.in-Ok.ensures.entries ∙ insert_entry-new _ old.labels c.new-name.result c.args.value none) in
    seen_last old.kept (map binding old.labels.entries) (map binding c.insert.new.self.entries) (bound c.args.party.now c.args.label.now (tree c.args.value)) (rw length-map old.within) more

use Rattle.std.proofs.Common.{map, sym, ◌&&◌, ◌∙◌}
use Rattle.std.specs.Str.{bytes_eq}
use Rattle.actors.specs.Labels.{binding}
use Rattle.actors.proofs.Bindings.{lent-label_in, unlabelled}
use Rattle.actors.proofs.Parties.bound.Goals as goal

pub returns-then-not-is_label : goal.returns-then-not-is_label
returns-then-not-is_label c =
    let old = c.args.self.now in
    sym (unlabelled (map binding old.labels.entries) c.args.party.now c.args.label.now old.labels_only (rw (← c.as_bytes.ensures.value) (sym c.if-not-is_label.ensures)))

pub returns : goal.returns
returns c =
    lent-label_in c.args.party.now c.args.label.now _
    (λ k i. bytes_eq ((c.new.ensures.party ∙ c.as_str.ensures.text) i) k.party.bytes && bytes_eq (c.new.ensures.label i) k.label.bytes)
    c.args.self.now.labels.entries c.get.result c.get.ensures.value

use Rattle.std.proofs.Common.{arith, map}
use Rattle.std.proofs.lemmas.List.{length-take-le, take-map}
use Rattle.actors.specs.Labels.{binding}
use Rattle.actors.proofs.Bindings.{back-labels, labels_first}
use Rattle.actors.proofs.Parties.back.Goals as goal

pub invariant_of-self-clause-within : goal.invariant_of-self-clause-within
invariant_of-self-clause-within c = grind (arith, length-take-le, c.truncate.ensures.entries, c.args.self.now.within)

pub invariant_of-self-clause-labels_only : goal.invariant_of-self-clause-labels_only
invariant_of-self-clause-labels_only c =
    let old = c.args.self.now in
    rw (c.truncate.ensures.entries, ← take-map binding old.kept old.labels.entries) (labels_first old.kept (map binding old.labels.entries) old.labels_only)

pub returns : goal.returns
returns c = back-labels c.args.self.now.kept c.args.self.now.labels.entries c.truncate.new.self.entries c.truncate.ensures.entries c.args.self.now.within

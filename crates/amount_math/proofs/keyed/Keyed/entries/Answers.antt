use Rattle.std.proofs.Common.{ap, sym, ◌∙◌}
use Rattle.amount_math.specs.Content.{entries}
use Rattle.amount_math.specs.Held.{Roomed}
use Rattle.amount_math.proofs.Listed.{entries-of_entries}
use Rattle.amount_math.proofs.keyed.Keyed.entries.Goals as goal

pub returns-in-Some-clause-list : goal.returns-in-Some-clause-list
returns-in-Some-clause-list c = c.deref.ensures.value ∙ sym (entries-of_entries _ (rw c.in-Some.is at c.self.invariant)) ∙ ap (λ (x : Roomed). entries x.content) (rw c.in-Some.is at c.self.view_is)

pub returns-in-None-clause-list : goal.returns-in-None-clause-list
returns-in-None-clause-list c = sym (entries-of_entries _ (rw c.in-None.is at c.self.invariant)) ∙ ap (λ (x : Roomed). entries x.content) (rw c.in-None.is at c.self.view_is)

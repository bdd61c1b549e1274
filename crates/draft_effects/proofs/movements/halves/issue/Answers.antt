use Rattle.draft_reads.specs.rights_model.declared.Holder.TheVariants.{Outside}
use Rattle.draft_reads.proofs.Undoing.{none_given}
use Rattle.draft_effects.proofs.CarriedMovements.{carrying_after}
use Rattle.draft_effects.proofs.movements.halves.issue.Goals as goal

pub issue-requires-clause-empty : goal.issue-requires-clause-empty
issue-requires-clause-empty c = none_given c.args.draft.now c.valid.ensures c.requires.clean c.args.brand

pub returns-in-Ok-clause-ok : goal.returns-in-Ok-clause-ok
returns-in-Ok-clause-ok c = rw (c.in-Ok.ensures.ok) (carrying_after c.args.draft.now Outside c.args.brand c.args.value tt c.requires.clean (none_given c.args.draft.now c.valid.ensures c.requires.clean))

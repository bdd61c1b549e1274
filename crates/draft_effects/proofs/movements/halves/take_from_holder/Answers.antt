use Rattle.draft_reads.specs.vault.Asked.{brand_of}
use Rattle.draft_reads.proofs.Undoing.{none_given}
use Rattle.draft_effects.proofs.CarriedMovements.{carrying_after, source_comes}
use Rattle.draft_effects.proofs.movements.halves.take_from_holder.Goals as goal

pub returns-in-Ok-clause-ok : goal.returns-in-Ok-clause-ok
returns-in-Ok-clause-ok c =
    let d = c.args.draft.now in
    rw (c.in-Ok.ensures.ok) (carrying_after d c.args.from.now (brand_of d.now c.args.from.now) c.args.value.now (source_comes d.now c.args.from.now c.args.value.now c.requires.source) c.requires.clean (none_given d c.valid.ensures c.requires.clean))

use Rattle.draft_effects.proofs.HandParcels.{keeps_it, stored}
use Rattle.draft_effects.proofs.stored_parts.store_part.Goals as goal

pub hold-requires : goal.hold-requires
hold-requires c = rw (c.in-Ok.ensures.ok, c.in-Ok.ensures.parcel) (keeps_it c.args.draft.now c.args.from.now c.args.part.now c.requires.stores c.requires.can c.valid.ensures)

pub returns-in-Ok-clause-ok : goal.returns-in-Ok-clause-ok
returns-in-Ok-clause-ok c = rw (c.hold.ensures, c.in-Ok.ensures.ok, c.in-Ok.ensures.parcel) (stored c.args.draft.now c.args.from.now c.args.part.now c.requires.stores c.requires.can c.valid.ensures)
